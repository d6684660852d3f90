-- One row formula for any kind of result: a sum over the tuples of the products of the children's results. Counting, the key of the first
-- heaviest tree and the list of the trees themselves are kinds of it. Laws: `proofs/Formula/Kind.antt`.
--     Kind                        what results of one kind need: none, unit, plus, times, and a row's own
--     sum_k, prod_k, over_tuples     sums and products of lists; the sum over tuples of the products
--     value_if, value, build       the row formula by its cases, as a whole, and a table built by it
--     worked_from F rs             a table by any row formula F: each row worked out from the rows beneath
--     pair_kind                    two kinds at once
-- Assumes nothing.
use Rattle.std.specs.Prelude.{Bool, true, false, List, [], ◌∷◌, map, ℕ}
use Rattle.laws.specs.Cluster.{single}
use Rattle.laws.specs.Row.{Row, is_scored}
use Rattle.trees.specs.Rows.{Entry}
use Rattle.trees.specs.Tuple.{tuples}
use Rattle.trees.specs.Beneath.{summed}

pub record Kind (A : Type 0) : Type 0 where
  pub none : A
  pub unit : A
  pub plus : A → A → A
  pub times : A → A → A
  pub own : Row → A

module _ {A : Type 0} (F : Row → List (Entry A) → A) where
  abbrev pub worked_from : List Row → List (Entry A)
  worked_from [] = []
  worked_from (r ∷ rs) = record { row = r; val = F r (worked_from rs) } ∷ worked_from rs

module _ {A : Type 0} (k : Kind A) where
  abbrev pub sum_k : List A → A
  sum_k [] = k.none
  sum_k (x ∷ xs) = k.plus x (sum_k xs)

  abbrev pub prod_k : List (Entry A) → A
  prod_k [] = k.unit
  prod_k (e ∷ τ) = k.times e.val (prod_k τ)

  abbrev pub over_tuples : List (List (Entry A)) → A
  over_tuples τs = sum_k (map prod_k τs)

  abbrev pub value_if : Bool → Bool → ℕ → Row → List (Entry A) → A
  value_if false one d r t = k.none
  value_if true true d r t = k.own r
  value_if true false d r t = k.times (k.own r) (over_tuples (tuples d r.cluster (summed r t)))

  abbrev pub value : ℕ → Row → List (Entry A) → A
  value d r t = value_if (is_scored r) (single r.cluster) d r t

  abbrev pub build : ℕ → List Row → List (Entry A)
  build d rs = worked_from (value d) rs

-- ---- two kinds at once
module _ {A B : Type 0} (ka : Kind A) (kb : Kind B) where
  abbrev pub pair_kind : Kind (A × B)
  pair_kind = record {
    none = (ka.none, kb.none);
    unit = (ka.unit, kb.unit);
    plus = λ x y. (ka.plus x.0 y.0, kb.plus x.1 y.1);
    times = λ x y. (ka.times x.0 y.0, kb.times x.1 y.1);
    own = λ r. (ka.own r, kb.own r);
  }
