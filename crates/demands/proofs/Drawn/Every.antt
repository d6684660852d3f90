-- The list of the trees on a cluster, in words: every set of listed, scored clusters that is one, once, and nothing else.
--     every-tree      the list has them all
-- Assumes nothing.
use mathlib.Core.Path.{◌≡◌, sym, subst}
use mathlib.Core.Bool.{Bool}
use mathlib.Core.List.{List, map-id}
use mathlib.Core.List.{Memᴰ as Mem}
use Prim.Native.Nat.{ℕ}
use lib.Dec.{T}
use Rattle.laws.specs.Limits.{Width}
use Rattle.laws.specs.Lists.{keep, elem, sublists, Once, Same}
use Rattle.laws.proofs.Falling.{sublist_is_elem, sublist-only}
use Rattle.laws.proofs.Keep.{mem-keep, mem_of_keep, elem→, →elem}
use Rattle.laws.proofs.Once.{once-keep}
use Rattle.laws.proofs.Sublists.{sublists-keep, mem_of_sublist}
use Rattle.trees.specs.Rows.{scored_in, RowFacts}
use Rattle.trees.specs.Tree.{is_tree, trees_on}
use Rattle.trees.proofs.Formula.Rows.{given_of}
use Rattle.trees.proofs.Joined.TreeTest.{tree_of, trees-once, test_same}
use Rattle.trees.proofs.Sets.TreeFacts.{Given}
use Rattle.lists.specs.Records.{rows_of}
use Rattle.demands.specs.Trees.{trees_at, EveryTree}

module _ (W : Width) (d : ℕ) (l : List ℕ) (f : RowFacts W.taxa (rows_of W l)) (C : ℕ) where
  abbrev listed : List ℕ
  listed = scored_in (rows_of W l)

  abbrev given : Given
  given = given_of W.taxa d (rows_of W l) f

  abbrev test : List ℕ → Bool
  test = is_tree W.taxa d C

  among : (xs : List ℕ) → Mem xs (trees_at W d l C) → Mem xs (sublists listed)
  among xs m = (tree_of given C xs m).0

  kept : (xs : List ℕ) → Mem xs (trees_at W d l C) → xs ≡ keep (λ (c : ℕ). elem c xs) listed
  kept xs m = sublist_is_elem listed xs given.once (among xs m)

  is_set : (xs : List ℕ) → Mem xs (trees_at W d l C) → Once xs
  is_set xs m = subst Once (sym (kept xs m)) (once-keep (λ (c : ℕ). elem c xs) listed given.once)

  is_tree_lem : (xs : List ℕ) → Mem xs (trees_at W d l C) → T (is_tree W.taxa d C xs)
  unfolding trees_on
  is_tree_lem xs m = (mem_of_keep test (sublists listed) m).1

  module _ (xs : List ℕ) (within : (c : ℕ) → Mem c xs → Mem c listed) where
    abbrev in_order : List ℕ
    in_order = keep (λ (c : ℕ). elem c xs) listed

    same : Same xs in_order
    same = record {
      to = λ c m. mem-keep (λ (x : ℕ). elem x xs) listed (within c m) (→elem c xs m);
      from = λ c m. elem→ c xs (mem_of_keep (λ (x : ℕ). elem x xs) listed m).1;
    }

    there : Once xs → T (is_tree W.taxa d C xs) → Mem in_order (trees_at W d l C)
    unfolding trees_on
    there once t =
        mem-keep test (sublists listed) (sublists-keep (λ (c : ℕ). elem c xs) listed)
        (test_same given C xs in_order once (once-keep (λ (c : ℕ). elem c xs) listed given.once) same t)

  pub every-tree : EveryTree W d l C
  every-tree = record {
    listed = λ xs m. mem_of_sublist listed xs (among xs m);
    set = is_set;
    tree = is_tree_lem;
    every = λ xs within once t.
        (keep (λ (c : ℕ). elem c xs) listed, there xs within once t, record { to = (same xs within).from; from = (same xs within).to });
    once = trees-once given C W.taxa d;
    only = λ xs ys m n e. sublist-only (λ (c : ℕ). c) listed (rw (map-id listed) given.once) xs ys (among xs m) (among ys n)
        (λ c i. rw (map-id ys) (e.to c i)) (λ c i. rw (map-id xs) (e.from c i));
  }
