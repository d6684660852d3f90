-- The row that the code works out (`worked_tally` of `specs/Working.antt`) is the rules' row over the rows beneath.
--     part e                the row e as the search reads it: its weight and its row length play no part
--     parts_are             the parts that the columns of a table show are its rows as parts
--     covers_are            what the search finds: the number of the row's tuples, and the sum of the products over them
--     worked-row            the theorem
-- Assumes nothing.
use mathlib.Core.Path.{◌≡◌, refl, sym, ap, ap₂, ◌∙◌}
use mathlib.Core.Bool.{Bool, true, false, not, cond, ◌&&◌}
use mathlib.Core.Option.{Option, some}
use mathlib.Core.List.{List, [], ◌∷◌, map}
use mathlib.Core.List.{Memᴰ as Mem}
use Prim.Native.Nat.{ℕ, ◌-◌, ◌≤◌}
use native.Mathlib.Nat.{pos_of_ne-zero}
use native.Mathlib.Numerals.{one-add}
use lib.Dec.{T}
use lib.IntN.{pos}
use lib.ListN.{length, length-map, get_or}
use Rattle.laws.specs.Cluster.{single}
use Rattle.laws.specs.Limits.{Width}
use Rattle.laws.specs.Lists.{keep}
use Rattle.laws.specs.Row.{Row, is_scored}
use Rattle.laws.proofs.Appended.{map-through}
use Rattle.laws.proofs.Down.{down_map}
use Rattle.laws.proofs.Keep.{keep-map, keep_all, mem_of_keep}
use Rattle.trees.specs.Rows.{Entry, cl, sc}
use Rattle.trees.specs.Tuple.{tuples}
use Rattle.trees.specs.Result.{Result}
use Rattle.trees.specs.Rescored.{worked_out}
use Rattle.trees.specs.Kind.{Kind, prod_k, over_tuples, value_if}
use Rattle.trees.specs.Cover.{covers_of}
use Rattle.trees.specs.Solution.{Sol, times_sol, sol_kind, Res}
use Rattle.trees.proofs.Counting.Capped.{second}
use Rattle.trees.proofs.Counting.Worked.{mark_in, length_if, true_result}
use Rattle.trees.proofs.Formula.Kind.{map_e, tuples-map}
use Rattle.trees.proofs.Searching.Covers.{tuples_are_covers, covers_of-map}
use Rattle.kept.specs.declared.table.Table.{Table}
use Rattle.kept.specs.View.{row_at, entry_at, entries_of, clusters_down}
use Rattle.table.specs.declared.tally.Tally.{Tally}
use Rattle.table.specs.Tally.{tally_of, fields_tally, own_tally, decoded}
use Rattle.table.specs.Working.{found_tally, worked_tally, Ready}
use Rattle.table.specs.Columns.{Columns, columns_of, sum_kind, sum_covers, parts_of}
use Rattle.table.specs.Sums.{no_tally, under_tally}
use Rattle.table.proofs.Fitting.KeepsFit.{decode, Over, worked_is}
use Rattle.table.proofs.Fitting.Rooted.{mine}
use Rattle.table.proofs.Rows.Ready.{own_encoded, under_is}
use Rattle.table.proofs.Tallies.Decoded.{tally_encode}

-- ---- the rows beneath, as the search reads them and as what they stand for

abbrev pub part : Entry Result → Entry Res
part e = record { row = record { cluster = cl e; weight = pos 0; state = e.row.state }; val = (1, decoded e.val) }

abbrev solved : Entry Result → Entry (Option Sol)
solved = map_e decoded

pub parts_are : (t : Table) (n : ℕ) → parts_of (columns_of t) n ≡ map part (entries_of t n)
parts_are t n = sym (down_map part (entry_at t) n)

-- a row's own mark plays no part in sums of products
module _ (bit : ℕ → ℕ) where
  prod_parts : (τ : List (Entry Result)) → prod_k sum_kind (map part τ) ≡ (1, prod_k (sol_kind bit) (map solved τ))
  prod_parts [] = refl
  prod_parts (e ∷ τ) = ap (sum_kind.times (1, decoded e.val)) (prod_parts τ)

  sum_parts : (τs : List (List (Entry Result)))
      → over_tuples sum_kind (map (map part) τs) ≡ (length τs, over_tuples (sol_kind bit) (map (map solved) τs))
  sum_parts [] = refl
  sum_parts (τ ∷ τs) =
      ap₂ sum_kind.plus (prod_parts τ) (sum_parts τs)
      ∙ ap (λ (n : ℕ). (n, over_tuples (sol_kind bit) (map (map solved) (τ ∷ τs)))) (one-add (length τs))

-- ---- the row over the rows t

module _ (W : Width) (one-limit : 1 ≤ W.count_max) (d : ℕ) (cs : List ℕ) (r : Row) (t : List (Entry Result))
    (o : Over W.count_max cs r t) where
  abbrev C : ℕ
  C = r.cluster

  abbrev K : Kind (Option Sol)
  K = sol_kind (mark_in cs)

  abbrev scored_rows : List (Entry Result)
  scored_rows = keep sc t

  abbrev τs : List (List (Entry Result))
  τs = tuples d C scored_rows

  abbrev found : Option Sol
  found = over_tuples K (map (map solved) τs)

  kept : (e : Entry Result) → Mem e scored_rows → T (sc e)
  kept e m = (mem_of_keep sc t m).1

  covers_are : sum_covers (d - 1) C (map part t) ≡ (length τs, found)
  unfolding sum_covers
  covers_are = ap (over_tuples sum_kind) covers ∙ sum_parts (mark_in cs) τs
    where
      covers : covers_of (d - 1) C (keep sc (map part t)) ≡ map (map part) τs
      covers =
          ap (covers_of (d - 1) C) (keep-map part sc t)
          ∙ covers_of-map part (λ e. refl) (d - 1) C scored_rows
          ∙ ap (map (map part)) (sym (tuples_are_covers d C scored_rows (pos_of_ne-zero (o.full C o.listed))
          (λ e m. o.less e (mem_of_keep sc t m).0)))

  -- the same tuples, of rows with their true counts and keys
  length_is : length (tuples d C (keep sc (map decode scored_rows))) ≡ length τs
  length_is =
      ap (λ (es : List (Entry Res)). length (tuples d C es))
      (keep-map decode sc scored_rows ∙ ap (map decode) (keep_all sc scored_rows kept))
      ∙ ap length (tuples-map (λ (v : Result). (v.length, decoded v)) d C scored_rows)
      ∙ length-map τs (map decode)

  found_is : over_tuples K (tuples d C (keep sc (map second (map decode scored_rows)))) ≡ found
  found_is =
      ap (λ (es : List (Entry (Option Sol))). over_tuples K (tuples d C es))
      (ap (keep sc) (map-through decode second solved (λ e. refl) scored_rows)
      ∙ keep-map solved sc scored_rows
      ∙ ap (map solved) (keep_all sc scored_rows kept))
      ∙ ap (over_tuples K) (tuples-map decoded d C scored_rows)

  -- the row's fields as a tally, by its cases
  abbrev row_tally : Bool → Bool → Tally
  row_tally s b =
      tally_of W.count_max (
        length_if (s && not b) (length (tuples d C (keep sc (map decode scored_rows)))),
        value_if K s b d r (map second (map decode scored_rows)),
      )

  row_tally_lem : fields_tally (worked_out W d cs r t) ≡ row_tally (is_scored r) (single C)
  row_tally_lem = ap fields_tally (worked_is W one-limit d cs r t o) ∙ tally_encode W.count_max (true_result d cs r (map decode scored_rows))

  joined_tally : row_tally true false ≡ tally_of W.count_max (length τs, times_sol (K.own r) found)
  joined_tally = ap₂ (λ (n : ℕ) (v : Option Sol). tally_of W.count_max (n, times_sol (K.own r) v)) length_is found_is

-- ---- a row of a table

module _ (W : Width) (t : Table) (starts : List ℕ) (i d : ℕ) (R : Ready W (columns_of t) starts (get_or t.weights i (pos 0)) i d)
    (o : Over W.count_max (clusters_down t.clusters R.rows) (row_at t i) (entries_of t i)) where
  abbrev limit : ℕ
  limit = W.count_max

  abbrev cs : List ℕ
  cs = clusters_down t.clusters R.rows

  abbrev r : Row
  r = row_at t i

  pub worked-row : worked_tally W (columns_of t) (get_or t.weights i (pos 0)) i d
      ≡ fields_tally (worked_out W d (clusters_down t.clusters R.rows) (row_at t i) (entries_of t i))
  worked-row = go (is_scored r) (single r.cluster) ∙ sym (row_tally_lem W R.sound.one d cs r (entries_of t i) o)
    where
      k : Columns
      k = columns_of t

      code : Bool → Bool → Tally
      code s b =
          cond s (cond b (own_tally 0 r.weight i) (under_tally limit (own_tally 1 r.weight i) (found_tally W k i d))) no_tally

      go : (s b : Bool) → code s b ≡ row_tally W R.sound.one d cs r (entries_of t i) o s b
      go false b = refl
      go true true = own_encoded R 0
      go true false =
          under_is R
          ∙ ap (λ (x : Res). tally_of limit (x.0, times_sol (some (mine cs r.cluster r.weight)) x.1))
          (ap (sum_covers (d - 1) r.cluster) (parts_are t i) ∙ covers_are W R.sound.one d cs r (entries_of t i) o)
          ∙ sym (joined_tally W R.sound.one d cs r (entries_of t i) o)
