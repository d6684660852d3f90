-- The columns of a gel sheet, and the list that is made of them (RULES 13).
--     mark_at s i j          the mark of line i in column j
--     column_at s j          column j: its marks, that of the last line first
--     is_unread x            the column x has a ?, whatever else it holds
--     cluster_of x           the cluster of its ones: taxon i is in it where line i has a 1
--     columns_of s           all columns, the last first
--     unread_columns s       how many have a ?
--     scores_in xs, scores_of s     the clusters of the columns without ?, all-zero ones left out; those of a sheet
--     times_in c cs          how often a number stands in a list
--     all_of, all_lines n     the cluster of n lines; the clusters that every sheet of n lines has
--     above a b, gathered cs     a is the larger; numbers in descending order, each once
--     sheet_clusters s       the clusters of the list: of these columns, of each line and of all lines
--     columns_with s c       the weight of a cluster: how many columns without ? have it
--     row_of_cluster s c      its row, which is scored
--     sheet_rows s           the rows of the list, the largest cluster first
--     sheet_bytes s          their records, ascending
-- Assumes nothing.
use Rattle.std.specs.Prelude.{Bool, not, cond, List, [], ◌∷◌, ◌++◌, map, ℕ, ◌+◌, ◌-◌, ◌^◌, eqb, ltb, pos, length, get_or}
use Rattle.laws.specs.Cluster.{taxa}
use Rattle.laws.specs.Limits.{narrow}
use Rattle.laws.specs.Lists.{keep, elem}
use Rattle.laws.specs.Orders.{down_to, insert_by}
use Rattle.laws.specs.Row.{Row}
use Rattle.laws.specs.State.{scored_state}
use Rattle.lists.specs.Accepted.{bytes_of_rows}
use Rattle.gel.specs.Lines.{one, unread, line_count, line_at, width_of}

-- ---- a column

abbrev pub is_unread : List ℕ → Bool
is_unread x = elem unread x

abbrev pub cluster_of : List ℕ → ℕ
cluster_of [] = 0
cluster_of (b ∷ x) = cond (eqb b one) (2 ^ length x) 0 + cluster_of x

abbrev pub scores_in : List (List ℕ) → List ℕ
scores_in xs = keep (λ (c : ℕ). not (eqb c 0)) (map cluster_of (keep (λ (x : List ℕ). not (is_unread x)) xs))

-- ---- numbers in order, each once

abbrev pub above : ℕ → ℕ → Bool
above a b = ltb b a

abbrev pub gathered : List ℕ → List ℕ
gathered [] = []
gathered (c ∷ cs) = cond (elem c cs) (gathered cs) (insert_by above c (gathered cs))

abbrev pub times_in : ℕ → List ℕ → ℕ
times_in c cs = length (keep (eqb c) cs)

-- ---- clusters of lines

abbrev pub all_of : ℕ → ℕ
all_of n = 2 ^ n - 1

abbrev pub all_lines : ℕ → List ℕ
all_lines n = all_of n ∷ taxa n

module _ (s : List ℕ) where
  abbrev pub mark_at : ℕ → ℕ → ℕ
  mark_at i j = get_or (line_at s i).bytes j 0

  abbrev pub column_at : ℕ → List ℕ
  column_at j = down_to (λ (i : ℕ). mark_at i j) (line_count s)

  abbrev pub columns_of : List (List ℕ)
  columns_of = down_to column_at (width_of s)

  abbrev pub unread_columns : ℕ
  unread_columns = length (keep is_unread columns_of)

  abbrev pub scores_of : List ℕ
  scores_of = scores_in columns_of

  -- ---- the list
  abbrev pub sheet_clusters : List ℕ
  sheet_clusters = gathered (scores_of ++ all_lines (line_count s))

  abbrev pub columns_with : ℕ → ℕ
  columns_with c = times_in c scores_of

  abbrev pub row_of_cluster : ℕ → Row
  row_of_cluster c = record { cluster = c; weight = pos (columns_with c); state = scored_state }

  abbrev pub sheet_rows : List Row
  sheet_rows = map row_of_cluster sheet_clusters

  abbrev pub sheet_bytes : List ℕ
  sheet_bytes = bytes_of_rows narrow sheet_rows
