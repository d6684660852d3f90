-- A list of records changed, and a table rescored, once and again: what the theorems on rescoring speak of. A change is a cluster with a
-- new weight and state; one that isn't taken leaves the list alone. Laws: `proofs/Changing/Changed.antt`, `proofs/Changing/Changes.antt`.
--     AcceptedBytes W l           l is accepted, and of bytes
--     changed_row r z s            the row r with weight z and state s
--     changed_bytes W l i z s      the list l with record i rewritten so
--     first_place W l c            the first record with the cluster c; the number of records where there is none
--     is_taken W l x               the change x names the cluster of a record, and has a score
--     change_one, change_all        a list with one change, and with one after another
--     rescore_all W t xs           a table rescored by one change after another, each on the table that the one before hands back
-- Assumes nothing.
use Rattle.std.specs.Prelude.{Bool, cond, ◌&&◌, List, [], ◌∷◌, ◌++◌, ℕ, ◌+◌, ◌*◌, eqb, ltb, ℤ, take, drop}
use Rattle.laws.specs.Limits.{Width}
use Rattle.laws.specs.Orders.{first_from}
use Rattle.laws.specs.Row.{Row}
use Rattle.cluster.specs.Record.{bytes_of}
use Rattle.cluster.specs.Rule.{is_score}
use Rattle.lists.specs.Records.{records_in, listed_at}
use Rattle.lists.specs.Accepted.{Bytes, Accepted}
use Rattle.kept.specs.declared.table.Table.{Table}
use Rattle.table.specs.Rescore.{rescore_table}

pub record AcceptedBytes (W : Width) (l : List ℕ) : Type 0 where
  pub byte : Bytes l
  pub accepted : Accepted W l

abbrev pub changed_row : Row → ℤ → ℕ → Row
changed_row r z s = record { cluster = r.cluster; weight = z; state = s }

module _ (W : Width) where
  -- ---- one record rewritten
  abbrev pub changed_bytes : List ℕ → ℕ → ℤ → ℕ → List ℕ
  changed_bytes l i z s =
      take (i * W.record_bytes) l ++ bytes_of W (changed_row (listed_at W l i) z s) ++ drop (i * W.record_bytes + W.record_bytes) l

  -- ---- the record that a change names
  abbrev pub first_place : List ℕ → ℕ → ℕ
  first_place l c = first_from (λ (i : ℕ). eqb (listed_at W l i).cluster c) 0 (records_in W l)

  abbrev pub is_taken : List ℕ → Row → Bool
  is_taken l x = ltb (first_place l x.cluster) (records_in W l) && is_score x.weight x.state

  -- ---- one change after another
  abbrev pub change_one : List ℕ → Row → List ℕ
  change_one l x = cond (is_taken l x) (changed_bytes l (first_place l x.cluster) x.weight x.state) l

  abbrev pub change_all : List ℕ → List Row → List ℕ
  change_all l [] = l
  change_all l (x ∷ xs) = change_all (change_one l x) xs

  abbrev pub rescore_all : Table → List Row → Table
  rescore_all t [] = t
  rescore_all t (x ∷ xs) = rescore_all (rescore_table W t x.cluster x.weight x.state).given xs
