-- Every row of a table is fit once the rows that contain a cluster are worked out again, if the other rows were fit.
--     Listed W cs t          rows that fall, keep the record rules, and are among the rows with the clusters cs
--     again-row, again-length     which rows the table then has
--     again_over, again-fit     each of them may be worked out over those beneath, and is fit
-- Assumes nothing.
use mathlib.Core.Path.{◌≡◌, refl, sym, ap, ◌∙◌, subst}
use mathlib.Core.Logic.{◌⊎◌, inl, inr, ◌≢◌}
use mathlib.Core.Bool.{Bool, true, false}
use mathlib.Core.List.Memᴰ
use mathlib.Core.List.{List, [], ◌∷◌, map}
use mathlib.Core.List.Memᴰ.{head as here}
use mathlib.Core.List.Memᴰ.{not-nil as mem-nil}
use mathlib.Core.List.Memᴰ.{tail as there}
use mathlib.Core.List.{Memᴰ as Mem}
use Prim.Native.Nat.{ℕ, suc, ◌-◌, ◌≤◌, ◌<◌}
use native.Mathlib.Nat.{le_refl, le_trans}
use native.Mathlib.Omega.{arith}
use lib.Dec.{T}
use lib.ListN.{length}
use Rattle.laws.specs.Cluster.{inside}
use Rattle.laws.specs.Limits.{Width}
use Rattle.laws.specs.Orders.{Falling}
use Rattle.laws.specs.Row.{Row}
use Rattle.laws.specs.Widths.{few}
use Rattle.laws.proofs.Choose.{few_mono}
use Rattle.laws.proofs.Tests.{T-dec, T_true, T_false}
use Rattle.cluster.specs.Rule.{keeps_rules}
use Rattle.cluster.proofs.Laws.Rule.{rules→}
use Rattle.trees.specs.Rows.{Entry, cl}
use Rattle.trees.specs.Result.{Result}
use Rattle.trees.specs.Rescored.{worked_out, again_if, again}
use Rattle.kept.specs.Fit.{fit_entry}
use Rattle.table.proofs.Tallies.Decoded.{good_of_fit}
use Rattle.table.proofs.Fitting.KeepsFit.{Over, worked_fit}

-- ---- which rows a table has once rows are worked out again

module _ (F : Row → List (Entry Result) → Result) (c : ℕ) where
  pub again-row : (t : List (Entry Result)) (x : Entry Result) → Mem x (again F c t) → (e : Entry Result) × Mem e t × (x.row ≡ e.row)
  again-row [] x m = absurd (mem-nil m)
  again-row (e ∷ t) x m = go (inside c (cl e)) m (again-row t x)
    where
      go : (b : Bool) → Mem x (again_if F b e (again F c t)) → (Mem x (again F c t) → (q : Entry Result) × Mem q t × (x.row ≡ q.row))
          → (q : Entry Result) × Mem q (e ∷ t) × (x.row ≡ q.row)
      go true (here p) ih = (e, here refl, ap (λ (y : Entry Result). y.row) p)
      go true (there k) ih = let q = ih k in (q.0, there q.1, q.2)
      go false (here p) ih = (e, here refl, ap (λ (y : Entry Result). y.row) p)
      go false (there k) ih = let q = ih k in (q.0, there q.1, q.2)

  pub again-length : (t : List (Entry Result)) → length (again F c t) ≡ length t
  again-length [] = refl
  again-length (e ∷ t) = go (inside c (cl e)) ∙ ap suc (again-length t)
    where
      go : (b : Bool) → length (again_if F b e (again F c t)) ≡ suc (length (again F c t))
      go true = refl
      go false = refl

-- ---- each of them is fit

pub record Listed (W : Width) (cs : List ℕ) (t : List (Entry Result)) : Type 0 where
  pub falls : Falling (map cl t)
  pub listed : (e : Entry Result) → Mem e t → Mem (cl e) cs
  pub rules : (e : Entry Result) → Mem e t → T (keeps_rules W e.row)

listed_rest : (W : Width) (cs : List ℕ) (e : Entry Result) (t : List (Entry Result)) → Listed W cs (e ∷ t) → Listed W cs t
listed_rest W cs e t k = record { falls = k.falls.1; listed = λ x m. k.listed x (there m); rules = λ x m. k.rules x (there m) }

module _ (W : Width) (one-limit : 1 ≤ W.count_max) (d c : ℕ) (cs : List ℕ) (falls : Falling cs) (full : (x : ℕ) → Mem x cs → x ≢ 0) where
  abbrev F : Row → List (Entry Result) → Result
  F = worked_out W d cs

  -- the rows beneath e, as they then stand, may be added up
  pub again_over : (e : Entry Result) (t : List (Entry Result)) → Listed W cs (e ∷ t)
      → ((x : Entry Result) → Mem x (again F c t) → T (fit_entry W cs x))
      → Over W.count_max cs e.row (again F c t)
  again_over e t k f = record {
    falls = falls;
    full = full;
    listed = k.listed e (here refl);
    light = (rules→ W e.row (k.rules e (here refl))).1.score.in_range_lem;
    nonzero = λ x m. let q = again-row F c t x m in
        λ z. full (cl q.0) (k.listed q.0 (there q.1)) (sym (ap (λ (r : Row). r.cluster) q.2) ∙ z);
    less = λ x m. let q = again-row F c t x m in
        subst (λ (n : ℕ). n < cl e) (sym (ap (λ (r : Row). r.cluster) q.2)) (k.falls.0 (cl q.0) (Memᴰ.map cl q.1));
    good = λ x m s. good_of_fit W cs x (f x m);
  }

  module _ (e : Entry Result) (t : List (Entry Result)) (k : Listed W cs (e ∷ t)) (short : few (length t) (d - 1) ≤ W.length_max)
      (rest : (x : Entry Result) → Mem x (again F c t) → T (fit_entry W cs x)) where
    abbrev worked : Entry Result
    worked = record { row = e.row; val = F e.row (again F c t) }

    again-worked : T (fit_entry W cs worked)
    again-worked =
        worked_fit W one-limit d cs e.row (again F c t) (k.rules e (here refl))
        (subst (λ (n : ℕ). few n (d - 1) ≤ W.length_max) (sym (again-length F c t)) short) (again_over e t k rest)

    again-first : ((T (inside c (cl e)) → ⊥) → T (fit_entry W cs e)) → (x : Entry Result) → Mem x (again F c (e ∷ t)) → T (fit_entry W cs x)
    again-first f x m = go (T-dec (inside c (cl e)))
      where
        each : (y : Entry Result) → T (fit_entry W cs y) → Mem x (y ∷ again F c t) → T (fit_entry W cs x)
        each y h (here p) = subst (λ (z : Entry Result). T (fit_entry W cs z)) (sym p) h
        each y h (there i) = rest x i

        go : T (inside c (cl e)) ⊎ (T (inside c (cl e)) → ⊥) → T (fit_entry W cs x)
        go (inl i) = each worked again-worked (subst (λ (b : Bool). Mem x (again_if F b e (again F c t))) (T_true (inside c (cl e)) i) m)
        go (inr n) = each e (f n) (subst (λ (b : Bool). Mem x (again_if F b e (again F c t))) (T_false (inside c (cl e)) n) m)

  pub again-fit : (t : List (Entry Result)) → Listed W cs t → few (length t - 1) (d - 1) ≤ W.length_max
      → ((e : Entry Result) → Mem e t → (T (inside c (cl e)) → ⊥) → T (fit_entry W cs e))
      → (x : Entry Result) → Mem x (again F c t) → T (fit_entry W cs x)
  again-fit [] k short f x m = absurd (mem-nil m)
  again-fit (e ∷ t) k short f x m =
      let more = few_mono (length t) (suc (length t) - 1) (d - 1) (d - 1) (omega arith) (le_refl (d - 1)) in
      let top : few (length t) (d - 1) ≤ W.length_max = le_trans more short in
      let fewer = le_trans (few_mono (length t - 1) (length t) (d - 1) (d - 1) (omega arith) (le_refl (d - 1))) top in
      again-first e t k top (again-fit t (listed_rest W cs e t k) fewer (λ y i. f y (there i))) (f e (here refl)) x m
