-- The row formula over lists of families gives the trees on the row's cluster, each once. That the families are trees stands in
-- `JoinTree.antt`, that every tree is one of them in `TreeTuple.antt`; `Beneath` and `single-right` are passed on from here.
--     Beneath             the rows beneath a row, as facts (`Beneath.antt`)
--     single-right        a one-taxon cluster has one tree, itself (`SingleTree.antt`)
--     trees               the cluster joined with one tree out of each child of a tuple, over all tuples
--     row-right           these are the trees on a cluster of two or more taxa
-- Assumes nothing.
use mathlib.Core.Path.{◌≡◌, refl, sym, ap, ◌∙◌, subst}
use mathlib.Core.Logic.{◌≢◌}
use mathlib.Core.List.Memᴰ
use mathlib.Core.List.{List, [], ◌∷◌, map}
use mathlib.Core.List.Memᴰ.{eq_of_singleton as only-mem}
use mathlib.Core.List.Memᴰ.{head as here}
use mathlib.Core.List.Memᴰ.{not-nil as mem-nil}
use mathlib.Core.List.{Memᴰ as Mem}
use Prim.Native.Nat.{ℕ}
use lib.Dec.{T}
use Rattle.laws.specs.Cluster.{single}
use Rattle.laws.specs.Lists.{bind, Once}
use Rattle.laws.proofs.Keep.{mem-bind, mem_of_bind}
use Rattle.laws.proofs.Once.{once-append, once-map, once-bind, once_of_map, map_inj}
use Rattle.laws.proofs.Sublists.{sublist_is_keep}
use Rattle.trees.specs.Rows.{cl}
use Rattle.trees.specs.Tuple.{tuples}
use Rattle.trees.proofs.Sets.Families.{Fam, join, one, cross, except, mem_cross, mem_of_cross, join_one, join_one_inj}
use Rattle.trees.proofs.Sets.TreeFacts.{Given, Tree}
use Rattle.trees.proofs.Sets.Tuples.{tuple_mem, part_mem, tuples-once}
use Rattle.trees.proofs.Joined.Cuts.{TreeEntry, Right, combos, Cut, combos→, →combos, combos_once}
pub use Rattle.trees.proofs.Joined.Beneath.{Beneath}
use Rattle.trees.proofs.Joined.Beneath.{TupleOf, tuple_of}
use Rattle.trees.proofs.Joined.JoinTree.{joined, cut_other, child→part, part→child, join_tree}
pub use Rattle.trees.proofs.Joined.SingleTree.{single-right}
use Rattle.trees.proofs.Joined.TreeTuple.{is_child, tuple_in, tuple_found, tree_cut}

module _ (G : Given) (C : ℕ) (es : List TreeEntry) (beneath : Beneath G C es) where
  abbrev τs : List (List TreeEntry)
  τs = tuples G.degree C es

  -- what one tree out of each child of a tuple makes, over all tuples
  abbrev inner : List Fam
  inner = bind (combos G) τs

  abbrev pub trees : List Fam
  trees = cross (one C ∷ []) (bind (combos G) (tuples G.degree C es))

  rows-once : Once es
  rows-once = once_of_map cl es beneath.once

  -- ---- a tuple and a combination

  tuple : (τ : List TreeEntry) → Mem τ τs → TupleOf G C τ
  tuple τ m = tuple_of G C es τ beneath m

  cut_of : (τ : List TreeEntry) → Mem τ τs → (U : Fam) → Mem U (combos G τ) → Cut G τ U
  cut_of τ m U k = combos→ G τ (tuple τ m).facts.apart (tuple τ m).right U k

  -- the tuple can be read off the tree
  tuple_is : (τ : List TreeEntry) → Mem τ τs → (U : Fam) → Mem U (combos G τ) → τ ≡ tuple_in G C es (joined C U)
  tuple_is τ m U k =
      sublist_is_keep (is_child G C es (joined C U)) es τ rows-once (tuple_mem G.degree C es τ m).0
      (λ e _ j. part→child G C τ (tuple τ m) U cut e j) part_of
    where
      cut : Cut G τ U
      cut = cut_of τ m U k

      part_of : (e : TreeEntry) → Mem e es → T (is_child G C es (joined C U) e) → Mem e τ
      part_of e j h =
          let q = Memᴰ.of_map cl τ (child→part G C τ (tuple τ m) U cut (cl e) h) in
          let row = part_mem G.degree C es τ m q.0 q.1 in
          Memᴰ.cast (map_inj cl es beneath.once e q.0 j row (sym q.2)) q.1

  same_tuple : (τ σ : List TreeEntry) (U : Fam) → Mem τ τs → Mem σ τs → Mem U (combos G τ) → Mem U (combos G σ) → τ ≡ σ
  same_tuple τ σ U m m' k k' = tuple_is τ m U k ∙ sym (tuple_is σ m' U k')

  -- ---- sound, complete, none twice

  trees-sound : (S : Fam) → Mem S trees → Tree G C S
  trees-sound S m =
      let q = mem_of_cross (one C ∷ []) inner m in
      let k = mem_of_bind (combos G) τs q.3 in
      let whole : join (one C) q.1 ≡ S = ap (λ (X : Fam). join X q.1) (sym (only-mem q.2)) ∙ q.4 in
      subst (Tree G C) whole (join_tree G C k.0 (tuple k.0 k.1) q.1 (cut_of k.0 k.1 q.1 k.2))

  trees_complete : (T (single C) → ⊥) → (S : Fam) → Tree G C S → Mem S trees
  trees_complete n S tree =
      let m = tuple_found G C es beneath n S tree in
      let t = tuple (tuple_in G C es S) m in
      let k = →combos G (tuple_in G C es S) t.facts.apart t.right (except S C) (tree_cut G C es beneath n S tree) in
      subst (λ (X : Fam). Mem X trees) (join_one S C tree.top) (mem_cross (one C ∷ []) inner (here refl) (mem-bind (combos G) τs m k))

  inner_other : (U : Fam) → Mem U inner → (c : ℕ) → T (U c) → c ≢ C
  inner_other U m c u =
      let q = mem_of_bind (combos G) τs m in
      cut_other G C q.0 (tuple q.0 q.1) U (cut_of q.0 q.1 U q.2) c u

  inner-once : Once inner
  inner-once =
      once-bind (combos G) τs (tuples-once G.degree C es rows-once)
      (λ τ m. combos_once G τ (tuple τ m).facts.apart (tuple τ m).right)
      same_tuple

  trees-once : Once trees
  trees-once =
      once-append (map (join (one C)) inner) []
      (once-map (join (one C)) inner inner-once (λ U W m k e. join_one_inj C U W (inner_other U m) (inner_other W k) e))
      tt (λ S m k. mem-nil k)

  pub row-right : (T (single C) → ⊥) → Right G C trees
  row-right n = record { sound = trees-sound; complete = trees_complete n; once = trees-once }
