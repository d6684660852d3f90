-- A row worked out from the rows beneath as they stand, and rescoring (RULES 7).
--     own_mark cs r             the mark of the row's own cluster
--     joined, alone, together  the fields of a row of two or more taxa, by its tuples; of a single taxon; the first, from the rows beneath
--     worked_out W d cs r t     the fields of row r over the rows beneath t; cs are the clusters of the whole table, the largest first
--     put_score c z s r         the new weight and state in one row
--     again_if, again F c t     each row that contains c worked out again, in ascending order
--     rescored                 both
-- Assumes nothing.
use Rattle.std.specs.Prelude.{Bool, true, false, cond, List, [], ◌∷◌, map, ℕ, ◌+◌, eqb, ℤ, pos, ◌+ℤ◌, length}
use Rattle.std.proofs.Math.Option.{Option, none, some}
use Rattle.laws.specs.Row.{Row, is_scored}
use Rattle.laws.specs.Cluster.{inside, single}
use Rattle.laws.specs.Limits.{Width}
use Rattle.laws.specs.Lists.{keep}
use Rattle.trees.specs.Rows.{Entry, cl}
use Rattle.trees.specs.Tuple.{tuples}
use Rattle.trees.specs.Result.{Result, blank, marks_in}
use Rattle.trees.specs.Beneath.{Beneath, counted, summed, sum_counts, is_live, is_many, Key, key_of, first_key}

-- the mark of the row's own cluster
abbrev pub own_mark : List ℕ → Row → ℕ
own_mark cs r = marks_in cs (λ (c : ℕ). eqb c r.cluster)

abbrev pub joined : Width → List ℕ → Row → ℕ → List (List Beneath) → Option Key → Result
joined W cs r n τs none = record { length = n; count = 0; mark = 0; best = pos 0; members = 0 }
joined W cs r n τs (some k) = record {
  length = n;
  count = cond (is_many W.count_max τs) W.count_max (sum_counts τs);
  mark = cond (is_many W.count_max τs) 1 0;
  best = r.weight +ℤ k.0;
  members = own_mark cs r + k.1;
}

abbrev pub alone : List ℕ → Row → Result
alone cs r = record { length = 0; count = 1; mark = 0; best = r.weight; members = own_mark cs r }

abbrev pub together : Width → ℕ → List ℕ → Row → List Beneath → Result
together W d cs r t =
    joined W cs r (length (tuples d r.cluster (counted t))) (tuples d r.cluster (summed r t))
    (first_key (map key_of (keep is_live (tuples d r.cluster (summed r t)))))

-- an unscored row has no result; a single taxon that is scored is one tree, itself
abbrev pub worked_out : Width → ℕ → List ℕ → Row → List Beneath → Result
worked_out W d cs r t = cond (is_scored r) (cond (single r.cluster) (alone cs r) (together W d cs r t)) blank

-- ---- rescoring
abbrev pub put_score : ℕ → ℤ → ℕ → Row → Row
put_score c z s r = cond (eqb r.cluster c) (record { cluster = r.cluster; weight = z; state = s }) r

-- each row that contains c, the smallest first, from the rows beneath as they then stand
module _ {A : Type 0} (F : Row → List (Entry A) → A) where
  abbrev pub again_if : Bool → Entry A → List (Entry A) → List (Entry A)
  again_if true e t = record { row = e.row; val = F e.row t } ∷ t
  again_if false e t = e ∷ t

  abbrev pub again : ℕ → List (Entry A) → List (Entry A)
  again c [] = []
  again c (e ∷ t) = again_if (inside c (cl e)) e (again c t)

abbrev pub rescored : Width → ℕ → List ℕ → ℕ → ℤ → ℕ → List Beneath → List Beneath
rescored W d cs c z s t =
    again (worked_out W d cs) c (map (λ (e : Beneath). record { row = put_score c z s e.row; val = e.val }) t)
