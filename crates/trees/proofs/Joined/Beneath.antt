-- The rows beneath a row, and a tuple of them, as facts.
--     Beneath G C es       the rows es beneath a row of C: which clusters they have, and that each has its trees
--     TupleOf G C τ        what the proofs about trees know of a tuple τ of C
--     part_of_taxon        every taxon of C is in a part
--     tuple_of             a tuple among the rows beneath has these facts
-- Assumes nothing.
use mathlib.Core.Path.{◌≡◌, sym, subst}
use mathlib.Core.Logic.{◌≢◌}
use mathlib.Core.List.Memᴰ
use mathlib.Core.List.{List, map, Memᴰ as Mem}
use Prim.Native.Nat.{ℕ, ◌^◌}
use lib.Dec.{T}
use Rattle.laws.specs.Cluster.{inside, strict}
use Rattle.laws.specs.Lists.{Once}
use Rattle.laws.proofs.Cluster.{→strict, taxon_of_union_of}
use Rattle.trees.specs.Rows.{cl}
use Rattle.trees.specs.Tuple.{is_tuple, tuples}
use Rattle.trees.proofs.Sets.TreeFacts.{Given}
use Rattle.trees.proofs.Sets.Tuples.{TupleFacts, tuple→, part_inside, tuple_mem, part_mem}
use Rattle.trees.proofs.Joined.Cuts.{TreeEntry, Holder, Right, EachRight}

module _ (G : Given) where
  pub record Beneath (C : ℕ) (es : List TreeEntry) : Type 0 where
    pub top : Mem C G.listed
    pub listed : (e : TreeEntry) → Mem e es → Mem (cl e) G.listed
    pub once : Once (map cl es)
    pub other : (e : TreeEntry) → Mem e es → cl e ≢ C
    pub below : (c : ℕ) → Mem c G.listed → T (strict c C) → (e : TreeEntry) × Mem e es × (cl e ≡ c)
    pub right : (e : TreeEntry) → Mem e es → Right G (cl e) e.val

  pub record TupleOf (C : ℕ) (τ : List TreeEntry) : Type 0 where
    pub facts : TupleFacts G.degree C (map cl τ)
    pub top : Mem C G.listed
    pub listed : (e : TreeEntry) → Mem e τ → Mem (cl e) G.listed
    pub proper : (e : TreeEntry) → Mem e τ → T (strict (cl e) C)
    pub right : EachRight G τ

  pub part_of_taxon : (C : ℕ) (τ : List TreeEntry) → TupleOf C τ → (t : ℕ) → T (inside (2 ^ t) C) → Holder τ (2 ^ t)
  part_of_taxon C τ p t i =
      let q = taxon_of_union_of (map cl τ) t (subst (λ (x : ℕ). T (inside (2 ^ t) x)) (sym p.facts.union) i) in
      let r = Memᴰ.of_map cl τ q.1 in
      (r.0, r.1, subst (λ (x : ℕ). T (inside (2 ^ t) x)) (sym r.2) q.2)

  pub tuple_of : (C : ℕ) (es τ : List TreeEntry) → Beneath C es → Mem τ (tuples G.degree C es) → TupleOf C τ
  tuple_of C es τ o m = record {
    facts = tuple→ G.degree C (map cl τ) test;
    top = o.top;
    listed = λ e k. o.listed e (row e k);
    proper = λ e k. →strict (cl e) C (part_inside G.degree C (map cl τ) test (cl e) (Memᴰ.map cl k)) (o.other e (row e k));
    right = λ e k. o.right e (row e k);
  }
    where
      test : T (is_tuple G.degree C (map cl τ))
      test = (tuple_mem G.degree C es τ m).1

      row : (e : TreeEntry) → Mem e τ → Mem e es
      row = part_mem G.degree C es τ m
