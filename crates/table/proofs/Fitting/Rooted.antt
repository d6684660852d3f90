-- A row's own result, by itself and over its tuples: a count with a key whose members are the row's cluster and clusters inside it.
--     Rooted, RootedSol      what sums keep, and the row itself is a member
--     mine                   the row by itself: one tree, its weight and its mark
--     own_disj               the row's mark is none of its children's members
--     own_rooted, own-times  a row by itself, and over its tuples
--     tuples-keep            the sum over the tuples of rows that keep what sums keep
-- Assumes nothing.
use mathlib.Core.Path.{◌≡◌, refl, sym, ap, ◌∙◌}
use mathlib.Core.Logic.{◌≢◌}
use mathlib.Core.Option.{Option, none, some}
use mathlib.Core.List.{List, map}
use mathlib.Core.List.{Memᴰ as Mem}
use Prim.Native.Nat.{ℕ, suc, ◌+◌, ◌*◌, ◌≤◌, ◌<◌}
use native.Mathlib.Nat.{le_refl}
use native.Mathlib.Omega.{arith}
use lib.Dec.{T, eqb→eq, eqb_refl}
use lib.IntN.{ℤ, nat_abs, ◌+ℤ◌}
use lib.ListN.{length, length-map}
use Rattle.laws.specs.Cluster.{inside, union_of}
use Rattle.laws.specs.Limits.{weight_max}
use Rattle.laws.specs.Lists.{sublists}
use Rattle.laws.proofs.Cluster.{inside_refl}
use Rattle.laws.proofs.Integers.{abs_sum-le}
use Rattle.laws.proofs.Keep.{mem_of_keep}
use Rattle.laws.proofs.Sublists.{mem_of_sublist}
use Rattle.laws.proofs.Taxa.{size_pos}
use Rattle.laws.proofs.Tests.{or_l}
use Rattle.trees.specs.Rows.{Entry, cl}
use Rattle.trees.specs.Tuple.{all_apart, is_tuple, tuples}
use Rattle.trees.specs.Kind.{over_tuples}
use Rattle.trees.specs.Solution.{Sol, times_sol, sol_kind}
use Rattle.trees.proofs.Sets.Families.{one, join, Disj}
use Rattle.trees.proofs.Ties.Marks.{marks_join}
use Rattle.trees.proofs.Sets.Tuples.{tuple→}
use Rattle.trees.proofs.Counting.Worked.{mark_in}
use Rattle.table.proofs.Tallies.Held.{Held, Keeps, join_each, sum_keeps}

-- ---- over the tuples

pub tuples-keep : (cs : List ℕ) (b d C : ℕ) (bit : ℕ → ℕ) (es : List (Entry (Option Sol)))
    → ((e : Entry (Option Sol)) → Mem e es → Keeps cs b 1 (cl e) e.val) → Keeps cs b 2 C (over_tuples (sol_kind bit) (tuples d C es))
tuples-keep cs b d C bit es g =
    sum_keeps cs b (sol_kind bit) (λ (v : Option Sol). v) bit
    (record { none = refl; unit = refl; plus = λ x y. refl; times = λ x y. refl; own = λ r. refl })
    2 C (tuples d C es) makes (λ τ m e i. g e (mem_of_sublist es τ (kept τ m).0 e i))
  where
    kept : (τ : List (Entry (Option Sol))) → Mem τ (tuples d C es) → Mem τ (sublists es) × T (is_tuple d C (map cl τ))
    kept τ m = mem_of_keep (λ (σ : List (Entry (Option Sol))). is_tuple d C (map cl σ)) (sublists es) m

    makes : (τ : List (Entry (Option Sol))) → Mem τ (tuples d C es)
        → (2 ≤ length τ) × T (all_apart (map cl τ)) × (union_of (map cl τ) ≡ C)
    makes τ m = let f = tuple→ d C (map cl τ) (kept τ m).1 in (omega (arith, f.two, length-map τ cl), f.apart, f.union)

-- ---- a row's own result

pub record Rooted (cs : List ℕ) (C : ℕ) (x : Sol) : Type 0 where
  pub held : Held cs (suc C) 1 C x
  pub own : T (held.members C)

abbrev pub RootedSol : List ℕ → ℕ → Option Sol → Type 0
RootedSol cs C none = Unit {0}
RootedSol cs C (some x) = Rooted cs C x

-- the row itself is above its children's members
pub own_disj : (cs : List ℕ) (C n : ℕ) (x : Sol) (g : Held cs C n C x) → Disj (one C) g.members
own_disj cs C n x g c t u = omega (arith, g.below c u, eqb→eq c C t)

-- the row by itself: one tree, its weight and its mark
abbrev pub mine : List ℕ → ℕ → ℤ → Sol
mine cs C z = (1, (z, mark_in cs C))

module _ (cs : List ℕ) (C : ℕ) (nz : C ≢ 0) (z : ℤ) (light : nat_abs z ≤ weight_max) where
  -- what holds of C holds of every cluster that is C
  one_each : (P : ℕ → Type 0) → P C → (c : ℕ) → T (one C c) → P c
  one_each P p c t = rw (eqb→eq c C t) p

  pub own_rooted : Rooted cs C (mine cs C z)
  own_rooted = record {
    held = record {
      counted = le_refl 1;
      members = one C;
      coded = refl;
      nonzero = one_each (λ (c : ℕ). c ≢ 0) nz;
      within = one_each (λ (c : ℕ). T (inside c C)) (inside_refl C);
      below = one_each (λ (c : ℕ). c < suc C) (le_refl (suc C));
      light = omega (arith, size_pos C nz);
    };
    own = eqb_refl C;
  }

  over : (x : Sol) → Held cs C 2 C x → Rooted cs C (1 * x.0, (z +ℤ x.1.0, mark_in cs C + x.1.1))
  over x g = record {
    held = record {
      counted = omega (arith, g.counted);
      members = join (one C) g.members;
      coded = ap (λ (k : ℕ). mark_in cs C + k) g.coded ∙ sym (marks_join cs (one C) g.members (own_disj cs C 2 x g));
      nonzero = each (λ (c : ℕ). c ≢ 0) (one_each (λ (c : ℕ). c ≢ 0) nz) g.nonzero;
      within = each (λ (c : ℕ). T (inside c C)) (one_each (λ (c : ℕ). T (inside c C)) (inside_refl C)) g.within;
      below = each (λ (c : ℕ). c < suc C) (one_each (λ (c : ℕ). c < suc C) (le_refl (suc C))) (λ c t. omega (arith, g.below c t));
      light = omega (arith, abs_sum-le z x.1.0, g.light);
    };
    own = or_l (one C C) (g.members C) (eqb_refl C);
  }
    where
      each : (P : ℕ → Type 0) → ((c : ℕ) → T (one C c) → P c) → ((c : ℕ) → T (g.members c) → P c)
          → (c : ℕ) → T (join (one C) g.members c) → P c
      each = join_each (one C) g.members

  pub own-times : (v : Option Sol) → Keeps cs C 2 C v → RootedSol cs C (times_sol (some (mine cs C z)) v)
  own-times none g = tt
  own-times (some x) g = over x g
