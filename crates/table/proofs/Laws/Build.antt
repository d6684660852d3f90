-- Building: what is given in each case, and that working out the rows of an accepted list is the build.
--     build_of                what is given, by the first reason that applies
--     Buildable W d rs, buildable     what holds of the rows of an accepted list
--     clusters_of-rows        the clusters of rows, beside any results
--     unworked_row, unworked_clusters     a row with no results
--     again-built             rows worked out from rows with no results are the built ones
--     unworked_of, unworked_is     a listing's arrays as a table with no results: the table of rows with none
--     again_is, workable      its rows may be worked out, and so worked out they are the built table
--     build_out, build-refused, build_workable, build_done     the ways in which the code ends
-- Assumes nothing.
use mathlib.Core.Path.{◌≡◌, refl, sym, ap, ap₂, ◌∙◌, subst}
use mathlib.Core.Bool.{Bool, false, not}
use mathlib.Core.Option.{Option, none}
use mathlib.Core.List.Memᴰ
use mathlib.Core.List.{List, [], ◌∷◌, ◌++◌, map, reverse}
use mathlib.Core.List.{Memᴰ as Mem}
use Prim.Native.Nat.{ℕ, ◌-◌, ◌/◌, ◌%◌, ◌≤◌, ◌<◌}
use native.Mathlib.Omega.{arith}
use lib.Dec.{T}
use lib.IntN.{pos}
use lib.ListN.{length, length-map, replicate}
use Rattle.laws.specs.Cluster.{inside}
use Rattle.laws.specs.Column.{column}
use Rattle.laws.specs.Limits.{Width, is_degree, row_cap, word_values}
use Rattle.laws.specs.Row.{Row}
use Rattle.laws.specs.Widths.{WidthFacts}
use Rattle.laws.proofs.Appended.{map-through}
use Rattle.laws.proofs.Cluster.{zero-inside}
use Rattle.laws.proofs.Column.{column-keep}
use Rattle.laws.proofs.Down.{down_mem}
use Rattle.laws.proofs.Tests.{T_true}
use Rattle.answers.specs.Refusal.{Answer}
use Rattle.std.specs.Prelude.{Ok, Err}
use Rattle.answers.specs.declared.refusal.Refusal.{Refusal}
use Rattle.answers.specs.declared.refusal.Refusal.TheVariants.{DegreeOut}
use Rattle.answers.specs.Outcome.{outcome_of, ended}
use Rattle.answers.specs.Reasons.{first_reason}
use Rattle.cluster.specs.Rule.{keeps_rules}
use Rattle.answers.proofs.Laws.Outcome.{ended-refused, ended_done}
use Rattle.answers.proofs.Laws.Reasons.{reason_told, reason_passed, none_iff}
use Rattle.lists.specs.Accepted.{Bytes, Accepted}
use Rattle.lists.specs.Listing.{Listed, listed, list_reasons, read_list}
use Rattle.lists.specs.Records.{rows_of}
use Rattle.lists.proofs.Laws.Listing.{read_list_is}
use Rattle.lists.proofs.Theorems.{accepted_iff, accepted-some, accepted-few, accepted-rules, accepted_facts}
use Rattle.trees.specs.Rows.{Entry, clusters_of, cl, RowFacts}
use Rattle.trees.specs.Result.{Result, blank}
use Rattle.trees.specs.Built.{built_table}
use Rattle.trees.specs.Rescored.{worked_out, again_if, again}
use Rattle.trees.specs.Kind.{worked_from}
use Rattle.trees.proofs.Built.{worked_is_built}
use Rattle.kept.specs.declared.table.Table.{Table}
use Rattle.kept.specs.View.{row_at, entry_at, clusters_in, table_of, zero_table}
use Rattle.kept.specs.Arrays.{Rising}
use Rattle.kept.specs.Facts.{Bounded}
use Rattle.kept.proofs.Laws.Blank.{blank→empty}
use Rattle.kept.proofs.Laws.Fit.{entries_rising}
use Rattle.kept.proofs.Laws.View.{entries_table, table-sized, table-past}
use Rattle.table.specs.Build.{build_reasons, build_table}
use Rattle.table.specs.Tables.{unworked_table}
use Rattle.table.specs.Working.{again_table, Workable}

-- ---- what is given, by the first reason that applies

pub build_of : (W : Width) (l : List ℕ) (d : ℕ) {f : Option Refusal} → first_reason (build_reasons W l d) ≡ f
    → build_table W l d ≡ ended f zero_table 0 (table_of d (built_table W d (rows_of W l)))
unfolding build_table
build_of W l d e = ap (λ (f : Option Refusal). ended f zero_table 0 (table_of d (built_table W d (rows_of W l)))) e

-- ---- the rows of an accepted list

pub record Buildable (W : Width) (d : ℕ) (rs : List Row) : Type 0 where
  pub bounds : Bounded W d (length rs)
  pub facts : RowFacts W.taxa rs
  pub rules : (r : Row) → Mem r rs → T (keeps_rules W r)

pub buildable : {W : Width} → WidthFacts W → {l : List ℕ} {d : ℕ} → T (is_degree d) → Bytes l → Accepted W l → Buildable W d (rows_of W l)
buildable {W} facts {l} degree byte a = record {
  bounds = record { degree = degree; filled = accepted-some W l a; capped = accepted-few W l a facts };
  facts = accepted_facts W l a facts byte;
  rules = accepted-rules W l a facts byte;
}

-- ---- rows with no results, worked out

module _ (val : Row → Result) where
  pub clusters_of-rows : (rs : List Row) → map cl (map (λ (r : Row). record { row = r; val = val r }) rs) ≡ clusters_of rs
  clusters_of-rows = map-through (λ (r : Row). record { row = r; val = val r }) cl (λ (r : Row). r.cluster) (λ r. refl)

abbrev pub unworked_row : Row → Entry Result
unworked_row r = record { row = r; val = blank }

pub unworked_clusters : (rs : List Row) → map cl (map unworked_row rs) ≡ clusters_of rs
unworked_clusters = clusters_of-rows (λ (r : Row). blank)

-- the empty cluster is inside every other
again-all : (F : Row → List (Entry Result) → Result) (rs : List Row) → again F 0 (map unworked_row rs) ≡ worked_from F rs
again-all F [] = refl
again-all F (r ∷ rs) =
    ap (λ (b : Bool). again_if F b (unworked_row r) (again F 0 (map unworked_row rs)))
    (T_true (inside 0 r.cluster) (zero-inside r.cluster))
    ∙ ap (λ (t : List (Entry Result)). record { row = r; val = F r t } ∷ t) (again-all F rs)

pub again-built : {W : Width} → WidthFacts W → (d : ℕ) (rs : List Row) → RowFacts W.taxa rs
    → again (worked_out W d (map cl (map unworked_row rs))) 0 (map unworked_row rs) ≡ built_table W d rs
again-built {W} facts d rs k =
    again-all (worked_out W d (map cl (map unworked_row rs))) rs
    ∙ ap (λ (cs : List ℕ). worked_from (worked_out W d cs) rs) (unworked_clusters rs)
    ∙ worked_is_built W facts.counts d rs k

-- ---- the arrays of a listing as a table

module _ {A : Type 0} (z : A) (f : Entry Result → A) where
  listed-column : (rs : List Row) → column z (λ (r : Row). f (unworked_row r)) rs ≡ column z f (map unworked_row rs)
  listed-column rs =
      ap₂ (λ (l : List A) (n : ℕ). reverse l ++ replicate (row_cap - n) z)
      (sym (map-through unworked_row f (λ (r : Row). f (unworked_row r)) (λ r. refl) rs)) (sym (length-map rs unworked_row))

  zero-column : ((r : Row) → f (unworked_row r) ≡ z) → (rs : List Row) → length rs ≤ row_cap
      → replicate row_cap z ≡ column z f (map unworked_row rs)
  zero-column e [] h = refl
  zero-column e (r ∷ rs) h =
      zero-column e rs (omega arith)
      ∙ column-keep z f (unworked_row r) (map unworked_row rs) (omega (arith, length-map rs unworked_row)) (e r)

-- the rows of a list, as reading it gives them
abbrev pub unworked_of : Listed → ℕ → Table
unworked_of s d = unworked_table s.rows s.clusters s.weights s.states d

pub unworked_is : (d : ℕ) (rs : List Row) → length rs ≤ row_cap → unworked_of (listed rs) d ≡ table_of d (map unworked_row rs)
unworked_is d rs h = λ i. record {
  rows = sym (length-map rs unworked_row) i;
  clusters = listed-column 0 (λ (e : Entry Result). e.row.cluster) rs i;
  weights = listed-column (pos 0) (λ (e : Entry Result). e.row.weight) rs i;
  states = listed-column 0 (λ (e : Entry Result). e.row.state) rs i;
  lengths = zero-column 0 (λ (e : Entry Result). e.val.length) (λ r. refl) rs h i;
  counts = zero-column 0 (λ (e : Entry Result). e.val.count) (λ r. refl) rs h i;
  marks = zero-column 0 (λ (e : Entry Result). e.val.mark) (λ r. refl) rs h i;
  bests = zero-column (pos 0) (λ (e : Entry Result). e.val.best) (λ r. refl) rs h i;
  members_low = zero-column 0 (λ (e : Entry Result). e.val.members % word_values) (λ r. refl) rs h i;
  members_high = zero-column 0 (λ (e : Entry Result). e.val.members / word_values) (λ r. refl) rs h i;
  degree = d;
}

-- ---- that table worked out

module _ {W : Width} (facts : WidthFacts W) {d : ℕ} {rs : List Row} (k : Buildable W d rs) where
  abbrev es : List (Entry Result)
  es = map unworked_row rs

  abbrev table : Table
  table = table_of d es

  count : length es ≡ length rs
  count = length-map rs unworked_row

  same-clusters : clusters_in table ≡ map cl es
  same-clusters = ap (map cl) (entries_table d es)

  pub again_is : again_table W (table_of d (map unworked_row rs)) 0 ≡ table_of d (built_table W d rs)
  again_is =
      ap (table_of d) (
      ap₂ (λ (cs : List ℕ) (t : List (Entry Result)). again (worked_out W d cs) 0 t) same-clusters (entries_table d es)
      ∙ again-built facts d rs k.facts)

  room : length es ≤ row_cap
  room = omega (arith, count, k.bounds.capped, facts.rows)

  rising : Rising table.clusters (length es)
  rising = record {
    long = omega (arith, (table-sized d es room).clusters, room);
    up = entries_rising table (rw (same-clusters, unworked_clusters rs) k.facts.falls);
  }

  -- a row of the table is one of the rows, with no results
  at_row : (i : ℕ) → i < length es → (r : Row) × Mem r rs × (unworked_row r ≡ entry_at table i)
  at_row i h = Memᴰ.of_map unworked_row rs (subst (Mem (entry_at table i)) (entries_table d es) (down_mem (entry_at table) (length es) i h))

  pub workable : Workable W (table_of d (map unworked_row rs)) 0
  workable = record {
    bounds = subst (Bounded W d) (sym count) k.bounds;
    sized = table-sized d es room;
    rising = rising;
    rules = λ i h. let q = at_row i h in subst (λ (e : Entry Result). T (keeps_rules W e.row)) q.2 (k.rules q.0 q.1);
    fit = λ i h out. absurd (out (zero-inside (row_at table i).cluster));
    words = λ i h. omega (arith, ap (λ (e : Entry Result). e.val.members) (at_row i h).2);
    blank = λ i l m. blank→empty table i (table-past d es i l);
  }

-- ---- how the code ends

module _ (W : Width) (l : List ℕ) (d : ℕ) where
  pub build_out : is_degree d ≡ false → outcome_of (Err DegreeOut) zero_table ≡ build_table W l d
  build_out e = sym (build_of W l d (reason_told (not (is_degree d)) DegreeOut (list_reasons W l) (ap not e)))

  module _ (degree : T (is_degree d)) where
    -- past the degree bound the list's own reasons tell
    reasons_of : {f : Option Refusal} → first_reason (list_reasons W l) ≡ f → first_reason (build_reasons W l d) ≡ f
    reasons_of e = reason_passed (not (is_degree d)) DegreeOut (list_reasons W l) (ap not (T_true (is_degree d) degree)) ∙ e

    -- a is the answer, and s the rows, that reading the list gave
    module _ {a : Answer} {s : Listed} (read : outcome_of a s ≡ read_list W l) where
      ends : {b : Answer} → a ≡ b → ended (first_reason (list_reasons W l)) (listed []) 0 (listed (rows_of W l)) ≡ outcome_of b s
      ends e = sym (read_list_is W l) ∙ sym read ∙ ap (λ (x : Answer). outcome_of x s) e

      pub build-refused : {f : Refusal} → a ≡ Err f → outcome_of (Err f) zero_table ≡ build_table W l d
      build-refused {f} e =
          let first = (ended-refused (first_reason (list_reasons W l)) (listed []) 0 (listed (rows_of W l)) f s (ends e)).0 in
          sym (build_of W l d (reasons_of first))

      module _ (facts : WidthFacts W) (byte : Bytes l) {m : ℕ} (e : a ≡ Ok m) where
        told : (first_reason (list_reasons W l) ≡ none) × (s ≡ listed (rows_of W l))
        told = ended_done (first_reason (list_reasons W l)) (listed []) 0 (listed (rows_of W l)) m s (ends e)

        rows : Buildable W d (rows_of W l)
        rows = buildable facts degree byte ((accepted_iff W l).0 ((none_iff (list_reasons W l)).0 told.0))

        table_is : unworked_of s d ≡ table_of d (map unworked_row (rows_of W l))
        table_is = ap (λ (x : Listed). unworked_of x d) told.1 ∙ unworked_is d (rows_of W l) (omega (arith, rows.bounds.capped, facts.rows))

        pub build_workable : Workable W (unworked_of s d) 0
        build_workable = subst (λ (t : Table). Workable W t 0) (sym table_is) (workable facts rows)

        pub build_done : outcome_of (Ok 0) (again_table W (unworked_of s d) 0) ≡ build_table W l d
        build_done =
            ap (outcome_of (Ok 0)) (ap (λ (t : Table). again_table W t 0) table_is ∙ again_is facts rows)
            ∙ sym (build_of W l d (reasons_of told.0))
