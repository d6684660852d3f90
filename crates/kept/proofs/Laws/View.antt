-- Laws of a table as rows: a table is made of its rows, and rows are a table's.
--     table_is              a table is the table of its rows
--     entries_table         the rows of the table of rows
--     table-sized, table-past     its arrays are full, and it is zero past its rows
-- Assumes nothing.
use mathlib.Core.Path.{◌≡◌, refl, sym, ap₂, ◌∙◌}
use mathlib.Core.List.{List, [], ◌∷◌}
use Prim.Native.Nat.{ℕ, ◌+◌, ◌*◌, ◌/◌, ◌%◌, ◌≤◌, ◌<◌}
use native.Mathlib.Omega.{arith}
use lib.IntN.{pos}
use lib.ListN.{get_or, length}
use Rattle.laws.specs.Column.{column}
use Rattle.laws.specs.Limits.{row_cap, word_values}
use Rattle.laws.proofs.Column.{length-column, column-past, column-first, column_rest, column_is}
use Rattle.laws.proofs.Down.{down_length, down_ext}
use Rattle.trees.specs.Rows.{Entry}
use Rattle.trees.specs.Result.{Result}
use Rattle.kept.specs.declared.table.Table.{Table}
use Rattle.kept.specs.View.{entry_at, entries_of, table_of}
use Rattle.kept.specs.Arrays.{Sized}
use Rattle.kept.proofs.Laws.Blank.{Blank}

-- ---- a table is the table of its rows

low_part : (l h : ℕ) → l < word_values → (l + word_values * h) % word_values ≡ l
low_part l h p = omega arith

high_part : (l h : ℕ) → l < word_values → (l + word_values * h) / word_values ≡ h
high_part l h p = omega arith

pub table_is : (t : Table) → Sized t → t.rows ≤ row_cap → ((i : ℕ) → i < t.rows → get_or t.members_low i 0 < word_values)
    → ((i : ℕ) → t.rows ≤ i → Blank t i) → t ≡ table_of t.degree (entries_of t t.rows)
table_is t s h w b = λ i. record {
  degree = t.degree;
  rows = sym (down_length (entry_at t) t.rows) i;
  clusters = is_column 0 (λ e. e.row.cluster) t.clusters s.clusters (λ j l. refl) (λ j l. (b j l).cluster) i;
  weights = is_column (pos 0) (λ e. e.row.weight) t.weights s.weights (λ j l. refl) (λ j l. (b j l).weight) i;
  states = is_column 0 (λ e. e.row.state) t.states s.states (λ j l. refl) (λ j l. (b j l).state) i;
  lengths = is_column 0 (λ e. e.val.length) t.lengths s.lengths (λ j l. refl) (λ j l. (b j l).length) i;
  counts = is_column 0 (λ e. e.val.count) t.counts s.counts (λ j l. refl) (λ j l. (b j l).count) i;
  marks = is_column 0 (λ e. e.val.mark) t.marks s.marks (λ j l. refl) (λ j l. (b j l).mark) i;
  bests = is_column (pos 0) (λ e. e.val.best) t.bests s.bests (λ j l. refl) (λ j l. (b j l).best) i;
  members_low = is_column 0 (λ e. e.val.members % word_values) t.members_low s.lows
      (λ j l. sym (low_part (get_or t.members_low j 0) (get_or t.members_high j 0) (w j l))) (λ j l. (b j l).low) i;
  members_high = is_column 0 (λ e. e.val.members / word_values) t.members_high s.highs
      (λ j l. sym (high_part (get_or t.members_low j 0) (get_or t.members_high j 0) (w j l))) (λ j l. (b j l).high) i;
}
  where
    is_column : {A : Type 0} (z : A) (f : Entry Result → A) (l : List A) → length l ≡ row_cap
        → ((i : ℕ) → i < t.rows → get_or l i z ≡ f (entry_at t i)) → ((i : ℕ) → t.rows ≤ i → get_or l i z ≡ z)
        → l ≡ column z f (entries_of t t.rows)
    is_column z f l long = column_is z f l (entry_at t) t.rows long h

-- ---- the rows of the table of rows

whole-members : (m : ℕ) → m % word_values + word_values * (m / word_values) ≡ m
whole-members m = omega arith

module _ (d : ℕ) where
  entry_top : (e : Entry Result) (es : List (Entry Result)) → entry_at (table_of d (e ∷ es)) (length es) ≡ e
  entry_top e es = λ i. record {
    row = record {
      cluster = column-first 0 (λ (x : Entry Result). x.row.cluster) e es i;
      weight = column-first (pos 0) (λ (x : Entry Result). x.row.weight) e es i;
      state = column-first 0 (λ (x : Entry Result). x.row.state) e es i;
    };
    val = record {
      length = column-first 0 (λ (x : Entry Result). x.val.length) e es i;
      count = column-first 0 (λ (x : Entry Result). x.val.count) e es i;
      mark = column-first 0 (λ (x : Entry Result). x.val.mark) e es i;
      best = column-first (pos 0) (λ (x : Entry Result). x.val.best) e es i;
      members = (ap₂ (λ (a b : ℕ). a + word_values * b) (column-first 0 (λ (x : Entry Result). x.val.members % word_values) e es)
          (column-first 0 (λ (x : Entry Result). x.val.members / word_values) e es) ∙ whole-members e.val.members) i;
    };
  }

  entry_below : (e : Entry Result) (es : List (Entry Result)) (j : ℕ) → j < length es
      → entry_at (table_of d (e ∷ es)) j ≡ entry_at (table_of d es) j
  entry_below e es j h = λ i. record {
    row = record {
      cluster = column_rest 0 (λ (x : Entry Result). x.row.cluster) e es j h i;
      weight = column_rest (pos 0) (λ (x : Entry Result). x.row.weight) e es j h i;
      state = column_rest 0 (λ (x : Entry Result). x.row.state) e es j h i;
    };
    val = record {
      length = column_rest 0 (λ (x : Entry Result). x.val.length) e es j h i;
      count = column_rest 0 (λ (x : Entry Result). x.val.count) e es j h i;
      mark = column_rest 0 (λ (x : Entry Result). x.val.mark) e es j h i;
      best = column_rest (pos 0) (λ (x : Entry Result). x.val.best) e es j h i;
      members = column_rest 0 (λ (x : Entry Result). x.val.members % word_values) e es j h i
          + word_values * column_rest 0 (λ (x : Entry Result). x.val.members / word_values) e es j h i;
    };
  }

  entries_below : (e : Entry Result) (es : List (Entry Result)) (n : ℕ) → n ≤ length es
      → entries_of (table_of d (e ∷ es)) n ≡ entries_of (table_of d es) n
  entries_below e es n h = down_ext (entry_at (table_of d (e ∷ es))) (entry_at (table_of d es)) n (λ j l. entry_below e es j (omega arith))

  pub entries_table : (es : List (Entry Result)) → entries_of (table_of d es) (length es) ≡ es
  entries_table [] = refl
  entries_table (e ∷ es) =
      ap₂ (λ (x : Entry Result) (l : List (Entry Result)). x ∷ l) (entry_top e es)
      (entries_below e es (length es) (omega arith) ∙ entries_table es)

  module _ (es : List (Entry Result)) (h : length es ≤ row_cap) where
    pub table-sized : Sized (table_of d es)
    table-sized = record {
      clusters = length-column 0 (λ (e : Entry Result). e.row.cluster) es h;
      weights = length-column (pos 0) (λ (e : Entry Result). e.row.weight) es h;
      states = length-column 0 (λ (e : Entry Result). e.row.state) es h;
      lengths = length-column 0 (λ (e : Entry Result). e.val.length) es h;
      counts = length-column 0 (λ (e : Entry Result). e.val.count) es h;
      marks = length-column 0 (λ (e : Entry Result). e.val.mark) es h;
      bests = length-column (pos 0) (λ (e : Entry Result). e.val.best) es h;
      lows = length-column 0 (λ (e : Entry Result). e.val.members % word_values) es h;
      highs = length-column 0 (λ (e : Entry Result). e.val.members / word_values) es h;
    }

  pub table-past : (es : List (Entry Result)) (i : ℕ) → length es ≤ i → Blank (table_of d es) i
  table-past es i h = record {
    cluster = column-past 0 (λ (e : Entry Result). e.row.cluster) es i h;
    weight = column-past (pos 0) (λ (e : Entry Result). e.row.weight) es i h;
    state = column-past 0 (λ (e : Entry Result). e.row.state) es i h;
    length = column-past 0 (λ (e : Entry Result). e.val.length) es i h;
    count = column-past 0 (λ (e : Entry Result). e.val.count) es i h;
    mark = column-past 0 (λ (e : Entry Result). e.val.mark) es i h;
    best = column-past (pos 0) (λ (e : Entry Result). e.val.best) es i h;
    low = column-past 0 (λ (e : Entry Result). e.val.members % word_values) es i h;
    high = column-past 0 (λ (e : Entry Result). e.val.members / word_values) es i h;
  }
