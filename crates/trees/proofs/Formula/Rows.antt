-- Rows that fall: the largest cluster first, none twice, none empty, all within the width; and their leaf set.
--     facts_tail             what holds of rows holds of the smaller ones
--     above_rest             the first row is above the others
--     table-rows, table-row, row-table, table-clusters   the rows of a table, by any row formula, are the rows it was made of
--     scored-mem, mem-scored     the clusters of the scored rows
--     scored-once, scored-falls     none of them twice, and they fall too
--     leaves_iff, leaves_none     a taxon of the leaf set is one of a scored row; where none is scored there is none
--     leaves-scored, leaves-unscored     one row more, scored and unscored
--     given_of                the question about trees that rows ask
-- Assumes nothing.
use mathlib.Core.Path.{◌≡◌, refl, sym, ap, ◌∙◌, subst}
use mathlib.Core.Logic.{◌≢◌, ◌↔◌}
use mathlib.Core.Bool.{true, false}
use mathlib.Core.List.Memᴰ
use mathlib.Core.List.{List, [], ◌∷◌, map}
use mathlib.Core.List.Memᴰ.{head as here}
use mathlib.Core.List.Memᴰ.{not-nil as mem-nil}
use mathlib.Core.List.Memᴰ.{tail as there}
use mathlib.Core.List.{Memᴰ as Mem}
use Prim.Native.Nat.{ℕ, ◌^◌, ◌<◌}
use lib.Bits.{bit_or, or_comm}
use lib.Dec.{T}
use Rattle.laws.specs.Cluster.{inside, union_of}
use Rattle.laws.specs.Lists.{keep, Once}
use Rattle.laws.specs.Orders.{Falling}
use Rattle.laws.specs.Row.{Row, is_scored}
use Rattle.laws.proofs.Cluster.{inside_trans, inside-union_of, taxon_of_union_of}
use Rattle.laws.proofs.Falling.{in_turn_keep, falling_once}
use Rattle.laws.proofs.Keep.{mem-keep, mem_of_keep, nil_of_none}
use Rattle.laws.proofs.Once.{once-map-keep}
use Rattle.laws.proofs.Sort.{in_turn_map, map_in_turn}
use Rattle.trees.specs.Rows.{clusters_of, scored_in, leaves, RowFacts, Entry, cl}
use Rattle.trees.specs.Kind.{worked_from}
use Rattle.trees.proofs.Sets.TreeFacts.{Given}

pub facts_tail : (w : ℕ) (r : Row) (rs : List Row) → RowFacts w (r ∷ rs) → RowFacts w rs
facts_tail w r rs f = record { falls = f.falls.1; fits = λ q m. f.fits q (there m) }

-- the first row is above the others
pub above_rest : (w : ℕ) (r : Row) (rs : List Row) → RowFacts w (r ∷ rs) → (q : Row) → Mem q rs → q.cluster < r.cluster
above_rest w r rs f q m = f.falls.0 q.cluster (Memᴰ.map (λ (x : Row). x.cluster) m)

-- ---- the rows of a table

module _ {A : Type 0} (F : Row → List (Entry A) → A) where
  pub table-row : (rs : List Row) (e : Entry A) → Mem e (worked_from F rs) → Mem e.row rs
  table-row [] e m = absurd (mem-nil m)
  table-row (r ∷ rs) e (here q) = here (ap (λ (x : Entry A). x.row) q)
  table-row (r ∷ rs) e (there m) = there (table-row rs e m)

  pub row-table : (rs : List Row) (r : Row) → Mem r rs → (e : Entry A) × Mem e (worked_from F rs) × (e.row ≡ r)
  row-table [] r x' = elim x' [ ]
  row-table (q ∷ rs) r (here p) = (record { row = q; val = F q (worked_from F rs) }, here refl, sym p)
  row-table (q ∷ rs) r (there m) = let x = row-table rs r m in (x.0, there x.1, x.2)

  pub table-rows : (rs : List Row) → map (λ (e : Entry A). e.row) (worked_from F rs) ≡ rs
  table-rows [] = refl
  table-rows (r ∷ rs) = ap (λ (qs : List Row). r ∷ qs) (table-rows rs)

  pub table-clusters : (rs : List Row) → map cl (worked_from F rs) ≡ clusters_of rs
  table-clusters [] = refl
  table-clusters (r ∷ rs) = ap (λ (cs : List ℕ). r.cluster ∷ cs) (table-clusters rs)

-- ---- the scored clusters

pub scored-mem : (rs : List Row) (r : Row) → Mem r rs → T (is_scored r) → Mem r.cluster (scored_in rs)
scored-mem rs r m s = Memᴰ.map (λ (x : Row). x.cluster) (mem-keep is_scored rs m s)

pub mem-scored : (rs : List Row) (c : ℕ) → Mem c (scored_in rs) → (r : Row) × Mem r rs × T (is_scored r) × (r.cluster ≡ c)
mem-scored rs c m =
    let q = Memᴰ.of_map (λ (x : Row). x.cluster) (keep is_scored rs) m in
    let k = mem_of_keep is_scored rs q.1 in
    (q.0, k.0, k.1, q.2)

pub scored-once : (w : ℕ) (rs : List Row) → RowFacts w rs → Once (scored_in rs)
scored-once w rs f = once-map-keep (λ (x : Row). x.cluster) is_scored rs (falling_once (clusters_of rs) f.falls)

pub scored-falls : (rs : List Row) → Falling (clusters_of rs) → Falling (scored_in rs)
scored-falls rs f =
    map_in_turn (λ (r : Row). r.cluster) (λ (c x : ℕ). x < c) (keep is_scored rs)
    (in_turn_keep (λ (r q : Row). q.cluster < r.cluster) is_scored rs (in_turn_map (λ (r : Row). r.cluster) (λ (c x : ℕ). x < c) rs f))

-- ---- the leaf set

pub leaves_iff : (rs : List Row) (x : ℕ)
    → T (inside (2 ^ x) (leaves rs)) ↔ ((r : Row) × Mem r rs × T (is_scored r) × T (inside (2 ^ x) r.cluster))
leaves_iff rs x = (to, from)
  where
    to : T (inside (2 ^ x) (leaves rs)) → (r : Row) × Mem r rs × T (is_scored r) × T (inside (2 ^ x) r.cluster)
    to h =
        let q = taxon_of_union_of (scored_in rs) x h in
        let k = mem-scored rs q.0 q.1 in
        (k.0, k.1, k.2, subst (λ (c : ℕ). T (inside (2 ^ x) c)) (sym k.3) q.2)

    from : (r : Row) × Mem r rs × T (is_scored r) × T (inside (2 ^ x) r.cluster) → T (inside (2 ^ x) (leaves rs))
    from q =
        let c = q.0.cluster in
        inside_trans (2 ^ x) c (leaves rs) q.3 (inside-union_of (scored_in rs) c (scored-mem rs q.0 q.1 q.2))

pub leaves_none : (rs : List Row) → ((r : Row) → Mem r rs → T (is_scored r) → ⊥) → leaves rs ≡ 0
leaves_none rs f = ap (λ (l : List Row). union_of (clusters_of l)) (nil_of_none (keep is_scored rs) none_kept)
  where
    none_kept : (r : Row) → Mem r (keep is_scored rs) → ⊥
    none_kept r m = let q = mem_of_keep is_scored rs m in f r q.0 q.1

module _ (r : Row) (rs : List Row) where
  pub leaves-scored : is_scored r ≡ true → bit_or (leaves rs) r.cluster ≡ leaves (r ∷ rs)
  leaves-scored e = rw e (or_comm (leaves rs) r.cluster)

  pub leaves-unscored : is_scored r ≡ false → leaves rs ≡ leaves (r ∷ rs)
  leaves-unscored e = rw e refl

abbrev pub given_of : (w d : ℕ) (rs : List Row) → RowFacts w rs → Given
given_of w d rs f = record { width = w; degree = d; listed = scored_in rs; sound = sound; once = scored-once w rs f }
  where
    sound : (c : ℕ) → Mem c (scored_in rs) → (c ≢ 0) × (c < 2 ^ w)
    sound c m =
        let q = mem-scored rs c m in
        let h = f.fits q.0 q.1 in
        (λ e. h.0 (q.3 ∙ e), subst (λ (x : ℕ). x < 2 ^ w) q.3 h.1)
