-- Laws of the row formula for any kind of result, and maps that carry one kind to another.
--     Lawful                  the laws of a semiring, as far as the search needs them
--     map_e, cl-map, tuples-map     the same rows with other results: their clusters, and their tuples
--     Hom                     a map that respects the operations
--     hom_sum, hom_value, hom_build     carries sums over tuples, rows and tables
--     hom_first, hom_second, pair_lawful     each of the two is carried, and the pair is lawful where both are
-- Assumes nothing.
use mathlib.Core.Path.{◌≡◌, refl, sym, ap, ap₂, ◌∙◌}
use mathlib.Core.Bool.{Bool, true, false}
use mathlib.Core.List.{List, [], ◌∷◌, map}
use Prim.Native.Nat.{ℕ}
use Rattle.laws.specs.Cluster.{single}
use Rattle.laws.specs.Lists.{keep, sublists}
use Rattle.laws.specs.Row.{Row, is_scored}
use Rattle.laws.proofs.Appended.{map-through}
use Rattle.laws.proofs.Keep.{keep_ext, keep-map}
use Rattle.laws.proofs.Sublists.{sublists-map}
use Rattle.trees.specs.Rows.{Entry, cl}
use Rattle.trees.specs.Tuple.{is_tuple, tuples}
use Rattle.trees.specs.Kind.{Kind, prod_k, over_tuples, value_if, value, build, pair_kind}
use Rattle.trees.specs.Beneath.{summed}

module _ {A : Type 0} (k : Kind A) where
  pub record Lawful : Type 0 where
    pub plus_none : (x : A) → k.plus x k.none ≡ x
    pub plus_assoc : (x y z : A) → k.plus (k.plus x y) z ≡ k.plus x (k.plus y z)
    pub plus_comm : (x y : A) → k.plus x y ≡ k.plus y x
    pub times_none : (x : A) → k.times x k.none ≡ k.none
    pub times-unit : (x : A) → k.times x k.unit ≡ x
    pub times-plus : (x y z : A) → k.times x (k.plus y z) ≡ k.plus (k.times x y) (k.times x z)

-- ---- the same rows with other results

module _ {A B : Type 0} (h : A → B) where
  abbrev pub map_e : Entry A → Entry B
  map_e e = record { row = e.row; val = h e.val }

  pub cl-map : (τ : List (Entry A)) → map cl (map map_e τ) ≡ map cl τ
  cl-map = map-through map_e cl cl (λ e. refl)

  -- a row may stand in a tuple whatever its result is
  summed-map : (r : Row) (t : List (Entry A)) → summed r (map map_e t) ≡ map map_e (summed r t)
  summed-map r t = simp keep-map

  pub tuples-map : (d C : ℕ) (es : List (Entry A)) → tuples d C (map map_e es) ≡ map (map map_e) (tuples d C es)
  tuples-map d C es =
      ap (keep (λ (τ : List (Entry B)). is_tuple d C (map cl τ))) (sublists-map map_e es)
      ∙ keep-map (map map_e) (λ (τ : List (Entry B)). is_tuple d C (map cl τ)) (sublists es)
      ∙ ap (map (map map_e))
      (keep_ext (λ (τ : List (Entry A)). is_tuple d C (map cl (map map_e τ))) (λ (τ : List (Entry A)). is_tuple d C (map cl τ)) (sublists es)
      (λ τ _. ap (is_tuple d C) (cl-map τ)))

module _ {A B : Type 0} (ka : Kind A) (kb : Kind B) (h : A → B) where
  -- h respects the operations
  pub record Hom : Type 0 where
    pub none : h ka.none ≡ kb.none
    pub unit : h ka.unit ≡ kb.unit
    pub plus : (x y : A) → h (ka.plus x y) ≡ kb.plus (h x) (h y)
    pub times : (x y : A) → h (ka.times x y) ≡ kb.times (h x) (h y)
    pub own : (r : Row) → h (ka.own r) ≡ kb.own r

  module _ (hom : Hom) where
    hom_prod : (τ : List (Entry A)) → prod_k kb (map (map_e h) τ) ≡ h (prod_k ka τ)
    hom_prod [] = sym hom.unit
    hom_prod (e ∷ τ) = ap (λ (x : B). kb.times (h e.val) x) (hom_prod τ) ∙ sym (hom.times e.val (prod_k ka τ))

    pub hom_sum : (τs : List (List (Entry A))) → over_tuples kb (map (map (map_e h)) τs) ≡ h (over_tuples ka τs)
    hom_sum [] = sym hom.none
    hom_sum (τ ∷ τs) = ap₂ kb.plus (hom_prod τ) (hom_sum τs) ∙ sym (hom.plus (prod_k ka τ) (over_tuples ka τs))

    pub hom_value : (d : ℕ) (r : Row) (t : List (Entry A)) → value kb d r (map (map_e h) t) ≡ h (value ka d r t)
    hom_value d r t = go (is_scored r) (single r.cluster)
      where
        τs : List (List (Entry A))
        τs = tuples d r.cluster (summed r t)

        go : (s b : Bool) → value_if kb s b d r (map (map_e h) t) ≡ h (value_if ka s b d r t)
        go false b = sym hom.none
        go true true = sym (hom.own r)
        go true false =
            ap₂ kb.times (sym (hom.own r))
            (ap (λ (es : List (Entry B)). over_tuples kb (tuples d r.cluster es)) (summed-map h r t)
            ∙ ap (over_tuples kb) (tuples-map h d r.cluster (summed r t))
            ∙ hom_sum τs)
            ∙ sym (hom.times (ka.own r) (over_tuples ka τs))

    pub hom_build : (d : ℕ) (rs : List Row) → build kb d rs ≡ map (map_e h) (build ka d rs)
    hom_build d [] = refl
    hom_build d (r ∷ rs) =
        ap (λ (t : List (Entry B)). record { row = r; val = value kb d r t } ∷ t) (hom_build d rs)
        ∙ ap (λ (v : B). record { row = r; val = v } ∷ map (map_e h) (build ka d rs)) (hom_value d r (build ka d rs))

-- ---- two kinds at once

module _ {A B : Type 0} (ka : Kind A) (kb : Kind B) where
  pub hom_first : Hom (pair_kind ka kb) ka (λ (x : A × B). x.0)
  hom_first = record { none = refl; unit = refl; plus = λ x y. refl; times = λ x y. refl; own = λ r. refl }

  pub hom_second : Hom (pair_kind ka kb) kb (λ (x : A × B). x.1)
  hom_second = record { none = refl; unit = refl; plus = λ x y. refl; times = λ x y. refl; own = λ r. refl }

  pub pair_lawful : Lawful ka → Lawful kb → Lawful (pair_kind ka kb)
  pair_lawful a b = record {
    plus_none = λ x i. (a.plus_none x.0 i, b.plus_none x.1 i);
    plus_assoc = λ x y z i. (a.plus_assoc x.0 y.0 z.0 i, b.plus_assoc x.1 y.1 z.1 i);
    plus_comm = λ x y i. (a.plus_comm x.0 y.0 i, b.plus_comm x.1 y.1 i);
    times_none = λ x i. (a.times_none x.0 i, b.times_none x.1 i);
    times-unit = λ x i. (a.times-unit x.0 i, b.times-unit x.1 i);
    times-plus = λ x y z i. (a.times-plus x.0 y.0 z.0 i, b.times-plus x.1 y.1 z.1 i);
  }
