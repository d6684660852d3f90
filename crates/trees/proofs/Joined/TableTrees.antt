-- A table built by the row formula over lists of families holds, in each scored row, the trees on its cluster, each once.
--     trees_kind              the kind of result whose values are lists of families
--     Lowest G rs            the rows are the lowest of a list: every listed cluster that is not above them is among them
--     AllRight G es          each scored entry has the trees on its cluster, each once
--     build-right            the theorem, for the lowest rows of a list
--     table-right            and for all rows of a list
-- Assumes nothing.
use mathlib.Core.Path.{◌≡◌, refl, sym, ap, ap₂, ◌∙◌, subst}
use mathlib.Core.Bool.{Bool, true, false}
use mathlib.Core.List.{List, [], ◌∷◌, ◌++◌, map}
use mathlib.Core.List.Memᴰ.{head as here}
use mathlib.Core.List.Memᴰ.{not-nil as mem-nil}
use mathlib.Core.List.Memᴰ.{tail as there}
use mathlib.Core.List.{Memᴰ as Mem}
use Prim.Native.Nat.{ℕ, ◌≤◌}
use native.Mathlib.Omega.{arith}
use lib.Dec.{T}
use Rattle.laws.specs.Cluster.{strict, single}
use Rattle.laws.specs.Lists.{keep, bind, Once}
use Rattle.laws.specs.Row.{Row, is_scored}
use Rattle.laws.proofs.Falling.{falling_once}
use Rattle.laws.proofs.Tests.{true_T}
use Rattle.laws.proofs.Keep.{mem-keep, mem_of_keep}
use Rattle.laws.proofs.Once.{once-map-keep}
use Rattle.laws.proofs.Cluster.{le_of_inside, strict→}
use Rattle.trees.specs.Rows.{clusters_of, cl, sc, RowFacts}
use Rattle.trees.specs.Tuple.{tuples}
use Rattle.trees.specs.Kind.{Kind, prod_k, over_tuples, value_if, value, build}
use Rattle.trees.proofs.Sets.Families.{Fam, empty, one, cross}
use Rattle.trees.proofs.Sets.TreeFacts.{Given}
use Rattle.trees.proofs.Joined.Cuts.{TreeEntry, Right, combos}
use Rattle.trees.proofs.Joined.RowTrees.{Beneath, single-right, row-right}
use Rattle.trees.proofs.Formula.Rows.{facts_tail, above_rest, table-row, row-table, table-clusters}
use Rattle.trees.proofs.Formula.Rows.{scored-mem, mem-scored, given_of}

abbrev pub trees_kind : Kind (List Fam)
trees_kind = record { none = []; unit = empty ∷ []; plus = ◌++◌; times = cross; own = λ r. one r.cluster ∷ [] }

-- the row of a listed cluster
abbrev RowOf : ℕ → List Row → Type 0
RowOf c rs = (q : Row) × Mem q rs × T (is_scored q) × (q.cluster ≡ c)

pub record Lowest (G : Given) (rs : List Row) : Type 0 where
  pub listed : (r : Row) → Mem r rs → T (is_scored r) → Mem r.cluster G.listed
  pub down : (c : ℕ) → Mem c G.listed → (r : Row) → Mem r rs → c ≤ r.cluster → RowOf c rs

module _ (G : Given) where
  lowest_tail : (r : Row) (rs : List Row) → RowFacts G.width (r ∷ rs) → Lowest G (r ∷ rs) → Lowest G rs
  lowest_tail r rs f l = record { listed = λ q m s. l.listed q (there m) s; down = λ c m p k h. go c p k h (l.down c m p (there k) h) }
    where
      at : (c : ℕ) (p q : Row) → Mem p rs → c ≤ p.cluster → Mem q (r ∷ rs) → T (is_scored q) → q.cluster ≡ c → RowOf c rs
      at c p q k h (here e) s g = absurd (omega (arith, above_rest G.width r rs f p k, ap (λ (z : Row). z.cluster) e, g, h))
      at c p q k h (there n) s g = (q, n, s, g)

      go : (c : ℕ) (p : Row) → Mem p rs → c ≤ p.cluster → RowOf c (r ∷ rs) → RowOf c rs
      go c p k h x = at c p x.0 k h x.1 x.2 x.3

  -- ---- the row formula, in the words of `RowTrees.antt`
  prod_combos : (τ : List TreeEntry) → prod_k trees_kind τ ≡ combos G τ
  prod_combos [] = refl
  prod_combos (e ∷ τ) = ap (cross e.val) (prod_combos τ)

  sum-bind : (τs : List (List TreeEntry)) → over_tuples trees_kind τs ≡ bind (combos G) τs
  sum-bind [] = refl
  sum-bind (τ ∷ τs) = ap₂ (λ (x y : List Fam). x ++ y) (prod_combos τ) (sum-bind τs)

  abbrev pub AllRight : List TreeEntry → Type 0
  AllRight es = (e : TreeEntry) → Mem e es → T (sc e) → Right G (cl e) e.val

  module _ (r : Row) (rs : List Row) (f : RowFacts G.width (r ∷ rs)) (l : Lowest G (r ∷ rs)) (s : T (is_scored r)) where
    abbrev tab : List TreeEntry
    tab = build trees_kind G.degree rs

    abbrev es : List TreeEntry
    es = keep sc tab

    row_of : (x : TreeEntry) → Mem x es → Mem x.row rs × T (sc x)
    row_of x m = let q = mem_of_keep sc tab m in (table-row (value trees_kind G.degree) rs x q.0, q.1)

    below : (c : ℕ) → Mem c G.listed → T (strict c r.cluster) → (x : TreeEntry) × Mem x es × (cl x ≡ c)
    below c m k = go (l.down c m r (here refl) (le_of_inside c r.cluster (strict→ c r.cluster k).0))
      where
        at : (q : Row) → Mem q (r ∷ rs) → T (is_scored q) → q.cluster ≡ c → (x : TreeEntry) × Mem x es × (cl x ≡ c)
        at q (here e) t g = absurd ((strict→ c r.cluster k).1 (sym g ∙ ap (λ (z : Row). z.cluster) e))
        at q (there n) t g =
            let x = row-table (value trees_kind G.degree) rs q n in
            (x.0, mem-keep sc tab x.1 (subst (λ (z : Row). T (is_scored z)) (sym x.2) t), ap (λ (z : Row). z.cluster) x.2 ∙ g)

        go : RowOf c (r ∷ rs) → (x : TreeEntry) × Mem x es × (cl x ≡ c)
        go x = at x.0 x.1 x.2 x.3

    once_tab : Once (map cl es)
    once_tab =
        once-map-keep cl sc tab
        (subst Once (sym (table-clusters (value trees_kind G.degree) rs)) (falling_once (clusters_of rs) f.falls.1))

    beneath : AllRight tab → Beneath G r.cluster es
    beneath ih = record {
      top = l.listed r (here refl) s;
      listed = λ x m. let q = row_of x m in l.listed x.row (there q.0) q.1;
      once = once_tab;
      other = λ x m e. omega (arith, above_rest G.width r rs f x.row (row_of x m).0, e);
      below = below;
      right = λ x m. let q = mem_of_keep sc tab m in ih x q.0 q.1;
    }

    head_right : AllRight tab → (b : Bool) → single r.cluster ≡ b → Right G r.cluster (value_if trees_kind true b G.degree r tab)
    head_right ih true e = single-right G r.cluster (l.listed r (here refl) s) (true_T e)
    head_right ih false e =
        subst (λ (x : List Fam). Right G r.cluster (cross (one r.cluster ∷ []) x))
        (sym (sum-bind (tuples G.degree r.cluster es)))
        (row-right G r.cluster es (beneath ih) (λ t. subst T e t))

  pub build-right : (rs : List Row) → RowFacts G.width rs → Lowest G rs → AllRight (build trees_kind G.degree rs)
  build-right [] f l e m s = absurd (mem-nil m)
  build-right (r ∷ rs) f l e (there m) s = build-right rs (facts_tail G.width r rs f) (lowest_tail r rs f l) e m s
  build-right (r ∷ rs) f l e (here q) s =
      subst (λ (x : TreeEntry). Right G (cl x) x.val) (sym q)
      (at (is_scored r) refl (subst (λ (x : TreeEntry). T (sc x)) q s)
      (build-right rs (facts_tail G.width r rs f) (lowest_tail r rs f l)))
    where
      at : (b : Bool) → is_scored r ≡ b → T b → AllRight (build trees_kind G.degree rs)
          → Right G r.cluster (value_if trees_kind b (single r.cluster) G.degree r (build trees_kind G.degree rs))
      at true e t ih = head_right r rs f l (true_T e) ih (single r.cluster) refl
      at false e t ih = absurd t

pub table-right : (w d : ℕ) (rs : List Row) (f : RowFacts w rs) → AllRight (given_of w d rs f) (build trees_kind d rs)
table-right w d rs f =
    build-right (given_of w d rs f) rs f (record { listed = scored-mem rs; down = λ c m r k h. mem-scored rs c m })
