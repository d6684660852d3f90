-- A row's count is the number of its trees, and its key is that of the first heaviest of them: the kind of counts with keys, worked out
-- beside the kind of lists of trees.
--     key_in                passed on from `BestOf.antt`
--     Answer               no tree; or the number of trees, and the key of one that no tree's key exceeds
--     row_answer           so it is in each scored row of a table
-- Assumes nothing.
use mathlib.Core.Path.{◌≡◌, refl, sym, ◌∙◌, subst}
use mathlib.Core.Logic.{◌⊎◌, inl, inr, ◌≢◌}
use mathlib.Core.Bool.{Bool, true, false}
use mathlib.Core.Option.{Option, none, some}
use mathlib.Core.List.Memᴰ
use mathlib.Core.List.{List, [], ◌∷◌, map}
use mathlib.Core.List.Memᴰ.{head as here}
use mathlib.Core.List.Memᴰ.{not-nil as mem-nil}
use mathlib.Core.List.Memᴰ.{tail as there}
use mathlib.Core.List.{Memᴰ as Mem}
use Prim.Native.Nat.{ℕ}
use native.Mathlib.Omega.{arith}
use lib.Dec.{T, eqb→eq}
use lib.IntN.{pos}
use lib.ListN.{length}
use Rattle.laws.specs.Cluster.{inside, single}
use Rattle.laws.specs.Lists.{keep}
use Rattle.laws.specs.Orders.{Falling}
use Rattle.laws.specs.Row.{Row, is_scored}
use Rattle.laws.proofs.Tests.{T-or}
use Rattle.laws.proofs.Cluster.{inside_antisym, zero_of_apart, apart_of_inside}
use Rattle.trees.specs.Rows.{clusters_of, scored_in, Entry, cl, sc, RowFacts}
use Rattle.trees.specs.Tree.{trees_on}
use Rattle.trees.specs.Tuple.{all_apart, is_tuple, tuples}
use Rattle.trees.specs.Kind.{Kind, prod_k, over_tuples, value_if, value, build, pair_kind}
use Rattle.trees.specs.Solution.{Sol, sol_kind}
use Rattle.trees.proofs.Sets.Families.{Fam, join, empty, one, mem_of_cross, Disj}
use Rattle.trees.proofs.Formula.Kind.{map_e, hom_first, hom_second, hom_build}
use Rattle.trees.proofs.Sets.Tuples.{tuple→, part_inside, apart-first, apart_rest, tuple_mem, scored_part}
use Rattle.trees.proofs.Formula.Rows.{above_rest, facts_tail, table-row, given_of}
use Rattle.trees.proofs.Sets.TreeFacts.{Given}
use Rattle.trees.proofs.Joined.Cuts.{Right}
use Rattle.trees.proofs.Joined.TableTrees.{trees_kind, table-right}
use Rattle.trees.proofs.Joined.TreeTest.{fam_of, right_list, list_right, right-count}
use Rattle.trees.proofs.Ties.Marks.{mark_in, weight-one}
use Rattle.trees.proofs.Counting.Keys.{AtLeast}
use Rattle.trees.proofs.Counting.BestOf.{key_empty, Best, best-plus, best-times, best-one}
pub use Rattle.trees.proofs.Counting.BestOf.{key_in}

abbrev Both : Type 0
Both = Option Sol × List Fam

abbrev Pair : Type 0
Pair = Entry Both

module _ (rs : List Row) where
  -- counts with keys beside the lists of trees
  abbrev both : Kind Both
  both = pair_kind (sol_kind (mark_in (clusters_of rs))) trees_kind

  abbrev BestB : Both → Type 0
  BestB p = Best rs p.0 p.1

  -- ---- a tuple

  -- the members of a row's families are nonempty clusters inside its own
  abbrev Held : Pair → Type 0
  Held e = (S : Fam) → Mem S e.val.1 → (c : ℕ) → T (S c) → (c ≢ 0) × T (inside c (cl e))

  abbrev HeldBy : List Pair → ℕ → Type 0
  HeldBy τ c = (c ≢ 0) × ((e : Pair) × Mem e τ × T (inside c (cl e)))

  prod_held : (τ : List Pair) → ((e : Pair) → Mem e τ → Held e) → (U : Fam) → Mem U (prod_k both τ).1 → (c : ℕ) → T (U c) → HeldBy τ c
  prod_held [] h U (here e) c u = absurd (subst (λ (z : Fam). T (z c)) e u)
  prod_held [] h U (there m) c u = absurd (mem-nil m)
  prod_held (e ∷ τ) h U m c u =
      go (T-or (q.0 c) (q.1 c) (subst (λ (z : Fam). T (z c)) (sym q.4) u)) (λ x. prod_held τ (λ z k. h z (there k)) q.1 q.3 c x)
    where
      q : (a : Fam) × (b : Fam) × Mem a e.val.1 × Mem b (prod_k both τ).1 × (join a b ≡ U)
      q = mem_of_cross e.val.1 (prod_k both τ).1 m

      go : T (q.0 c) ⊎ T (q.1 c) → (T (q.1 c) → HeldBy τ c) → HeldBy (e ∷ τ) c
      go (inl x) ih = let k = h e (here refl) q.0 q.2 c x in (k.0, (e, here refl, k.1))
      go (inr x) ih = let k = ih x in (k.0, (k.1.0, there k.1.1, k.1.2))

  best_prod : (τ : List Pair) → T (all_apart (map cl τ)) → ((e : Pair) → Mem e τ → Held e) → ((e : Pair) → Mem e τ → BestB e.val)
      → BestB (prod_k both τ)
  best_prod [] a h b = best-one rs empty (pos 0, 0) (key_empty rs)
  best_prod (e ∷ τ) a h b =
      best-times rs e.val.0 (prod_k both τ).0 e.val.1 (prod_k both τ).1 disjoint (b e (here refl))
      (best_prod τ (apart_rest (cl e) (map cl τ) a) (λ z k. h z (there k)) (λ z k. b z (there k)))
    where
      disjoint : (S U : Fam) → Mem S e.val.1 → Mem U (prod_k both τ).1 → Disj S U
      disjoint S U m k c s u =
          let x = h e (here refl) S m c s in
          let y = prod_held τ (λ z j. h z (there j)) U k c u in
          let away = apart-first (cl e) (map cl τ) a (cl y.1.0) (Memᴰ.map cl y.1.1) in
          x.0 (zero_of_apart c (apart_of_inside (cl e) (cl y.1.0) c c away x.1 y.1.2))

  -- ---- several tuples

  best-sum : (τs : List (List Pair)) → ((τ : List Pair) → Mem τ τs → BestB (prod_k both τ)) → BestB (over_tuples both τs)
  best-sum [] b = λ S m. mem-nil m
  best-sum (τ ∷ τs) b =
      best-plus rs (prod_k both τ).0 (over_tuples both τs).0 (prod_k both τ).1 (over_tuples both τs).1 (b τ (here refl))
      (best-sum τs (λ z m. b z (there m)))

  sum-mem : (τs : List (List Pair)) (U : Fam) → Mem U (over_tuples both τs).1 → (τ : List Pair) × Mem τ τs × Mem U (prod_k both τ).1
  sum-mem [] U m = absurd (mem-nil m)
  sum-mem (τ ∷ τs) U m = go (Memᴰ.append_cases (prod_k both τ).1 m) (λ k. sum-mem τs U k)
    where
      Found : List (List Pair) → Type 0
      Found l = (x : List Pair) × Mem x l × Mem U (prod_k both x).1

      go : Mem U (prod_k both τ).1 ⊎ Mem U (over_tuples both τs).1 → (Mem U (over_tuples both τs).1 → Found τs) → Found (τ ∷ τs)
      go (inl k) ih = (τ, here refl, k)
      go (inr k) ih = let x = ih k in (x.0, there x.1, x.2)

  -- ---- a row, from the rows beneath

  best-own : Falling (clusters_of rs) → (r : Row) → Mem r rs → BestB (both.own r)
  best-own f r m =
      let mark = mark_in (clusters_of rs) r.cluster in
      best-one rs (one r.cluster) (r.weight, mark) (λ i. (weight-one rs f r m i, mark))

  record Lower (r : Row) (t : List Pair) : Type 0 where
    row : Mem r rs
    other : (e : Pair) → Mem e t → cl e ≢ r.cluster
    held : (e : Pair) → Mem e t → T (sc e) → Held e
    best : (e : Pair) → Mem e t → BestB e.val

  module _ (f : Falling (clusters_of rs)) (d : ℕ) (r : Row) (t : List Pair) (lower : Lower r t) where
    abbrev τs : List (List Pair)
    τs = tuples d r.cluster (keep sc t)

    is_tuple_lem : (τ : List Pair) → Mem τ τs → T (is_tuple d r.cluster (map cl τ))
    is_tuple_lem τ k = (tuple_mem d r.cluster (keep sc t) τ k).1

    row_of : (τ : List Pair) → Mem τ τs → (e : Pair) → Mem e τ → Mem e t × T (sc e)
    row_of τ k = scored_part d r.cluster t τ k

    part_held : (τ : List Pair) → Mem τ τs → (e : Pair) → Mem e τ → Held e
    part_held τ k e j = let p = row_of τ k e j in lower.held e p.0 p.1

    best_tuple : (τ : List Pair) → Mem τ τs → BestB (prod_k both τ)
    best_tuple τ k =
        best_prod τ (tuple→ d r.cluster (map cl τ) (is_tuple_lem τ k)).apart (part_held τ k) (λ e j. lower.best e (row_of τ k e j).0)

    -- the row's own cluster is no member of its children's families
    not_own : (U : Fam) → Mem U (over_tuples both τs).1 → T (U r.cluster) → ⊥
    not_own U j u =
        let x = sum-mem τs U j in
        let y = (prod_held x.0 (part_held x.0 x.1) U x.2 r.cluster u).1 in
        let down = part_inside d r.cluster (map cl x.0) (is_tuple_lem x.0 x.1) (cl y.0) (Memᴰ.map cl y.1) in
        lower.other y.0 (row_of x.0 x.1 y.0 y.1).0 (inside_antisym (cl y.0) r.cluster down y.2)

    apart-own : (S U : Fam) → Mem S (one r.cluster ∷ []) → Mem U (over_tuples both τs).1 → Disj S U
    apart-own S U (there k) j c s u = absurd (mem-nil k)
    apart-own S U (here p) j c s u =
        let same = eqb→eq c r.cluster (subst (λ (z : Fam). T (z c)) p s) in
        not_own U j (subst (λ (z : ℕ). T (U z)) same u)

    best-row : (s b : Bool) → BestB (value_if both s b d r t)
    best-row false b = λ S k. mem-nil k
    best-row true true = best-own f r lower.row
    best-row true false =
        best-times rs (both.own r).0 (over_tuples both τs).0 (both.own r).1 (over_tuples both τs).1 apart-own
        (best-own f r lower.row) (best-sum τs best_tuple)

-- ---- a table
module _ (w d : ℕ) (rs : List Row) (f : RowFacts w rs) where
  abbrev G : Given
  G = given_of w d rs f

  abbrev K : Kind (Option Sol)
  K = sol_kind (mark_in (clusters_of rs))

  abbrev table : List Row → List Pair
  table qs = build (both rs) d qs

  -- the second half of the pairs is the table of lists of trees
  pair_right : (e : Pair) → Mem e (table rs) → T (sc e) → Right G (cl e) e.val.1
  pair_right e m s =
      let second = map_e {A = Both} {B = List Fam} (λ (x : Both). x.1) in
      let same = hom_build (both rs) trees_kind (λ (x : Both). x.1) (hom_second K trees_kind) d rs in
      table-right w d rs f (second e) (subst (Mem (second e)) (sym same) (Memᴰ.map second m)) s

  held_of : (e : Pair) → Mem e (table rs) → T (sc e) → Held rs e
  held_of e m s S k c t = let tr = (pair_right e m s).sound S k in ((G.sound c (tr.listed c t)).0, tr.within c t)

  -- the lower part of the table
  record Part (qs : List Row) : Type 0 where
    facts : RowFacts w qs
    rows : (r : Row) → Mem r qs → Mem r rs
    entries : (e : Pair) → Mem e (table qs) → Mem e (table rs)

  part_tail : (r : Row) (qs : List Row) → Part (r ∷ qs) → Part qs
  part_tail r qs p = record {
    facts = facts_tail w r qs p.facts;
    rows = λ q m. p.rows q (there m);
    entries = λ e m. p.entries e (there m);
  }

  lower_part : (r : Row) (qs : List Row) → Part (r ∷ qs) → ((e : Pair) → Mem e (table qs) → BestB rs e.val) → Lower rs r (table qs)
  lower_part r qs p ih = record {
    row = p.rows r (here refl);
    other = λ x m e. omega (arith, above_rest w r qs p.facts x.row (table-row (value (both rs) d) qs x m), e);
    held = λ x m s. held_of x (p.entries x (there m)) s;
    best = ih;
  }

  best-build : (qs : List Row) → Part qs → (e : Pair) → Mem e (table qs) → BestB rs e.val
  best-build [] p e m = absurd (mem-nil m)
  best-build (r ∷ qs) p e (there m) = best-build qs (part_tail r qs p) e m
  best-build (r ∷ qs) p e (here q) =
      let lower = lower_part r qs p (best-build qs (part_tail r qs p)) in
      subst (λ (x : Pair). BestB rs x.val) (sym q) (best-row rs f.falls d r (table qs) lower (is_scored r) (single r.cluster))

  -- ---- the trees of the definition

  abbrev pub Answer : ℕ → Option Sol → Type 0
  Answer C none = (xs : List ℕ) → Mem xs (trees_on w d (scored_in rs) C) → ⊥
  Answer C (some x) =
      (x.0 ≡ length (trees_on w d (scored_in rs) C))
      × ((S : Fam)
      × Mem (keep S (scored_in rs)) (trees_on w d (scored_in rs) C)
      × ((c : ℕ) → T (S c) → Mem c (scored_in rs))
      × (x.1 ≡ key_in rs S))
      × ((xs : List ℕ) → Mem xs (trees_on w d (scored_in rs) C) → AtLeast x.1 (key_in rs (fam_of G xs)))

  answer : (C : ℕ) (v : Option Sol) (ts : List Fam) → Best rs v ts → Right G C ts → Answer C v
  answer C none ts b r = λ xs k. b (fam_of G xs) (right_list G C ts r xs k)
  answer C (some x) ts b r = (
    b.0 ∙ right-count G C ts r,
    (b.1.0, list_right G C ts r b.1.0 b.1.1, (λ c s. (r.sound b.1.0 b.1.1).listed c s), b.1.2),
    λ xs k. b.2 (fam_of G xs) (right_list G C ts r xs k),
  )

  pub row_answer : (e : Entry (Option Sol)) → Mem e (build (sol_kind (mark_in (clusters_of rs))) d rs) → T (sc e) → Answer (cl e) e.val
  row_answer e m s =
      let first = map_e {A = Both} {B = Option Sol} (λ (x : Both). x.0) in
      let same = hom_build (both rs) K (λ (x : Both). x.0) (hom_first K trees_kind) d rs in
      let q = Memᴰ.of_map first (table rs) (subst (Mem e) same m) in
      subst (λ (x : Entry (Option Sol)). Answer (cl x) x.val) q.2
      (answer (cl q.0) q.0.val.0 q.0.val.1
      (best-build rs (record { facts = f; rows = λ r k. k; entries = λ x k. k }) q.0 q.1)
      (pair_right q.0 q.1 (subst (λ (x : Entry (Option Sol)). T (sc x)) (sym q.2) s)))
