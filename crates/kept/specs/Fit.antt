-- What a fit table is, sentence by sentence (RULES 6). A row's results: `Results.antt`. Laws: `proofs/Laws/Fit.antt`.
--     fit_entry W cs e          a row of the table whose clusters are cs
--     is_rising cs n            the first n clusters ascend strictly
--     is_row_right W cs n i e    row i of a table of n rows: fit, or past them and all zero
--     has_right_rows W cs t n k  the first k rows are so
--     is_fit W t                the whole
-- Assumes nothing.
use Rattle.std.specs.Prelude.{Bool, cond, ◌&&◌, List, ℕ, suc, ◌-◌, leb, ltb, get_or}
use Rattle.laws.specs.Limits.{Width, is_degree, row_cap}
use Rattle.laws.specs.Lists.{every}
use Rattle.laws.specs.Orders.{places}
use Rattle.cluster.specs.Rule.{keeps_rules}
use Rattle.trees.specs.Rows.{Entry}
use Rattle.trees.specs.Result.{Result}
use Rattle.kept.specs.declared.table.Table.{Table}
use Rattle.kept.specs.View.{entry_at, clusters_in}
use Rattle.kept.specs.Blank.{is_empty}
use Rattle.kept.specs.Results.{is_ranged, is_matched}

-- ---- a row
abbrev pub fit_entry : Width → List ℕ → Entry Result → Bool
fit_entry W cs e = keeps_rules W e.row && (is_ranged W e.row e.val && is_matched cs e.row e.val)

-- ---- all rows
abbrev pub is_rising : List ℕ → ℕ → Bool
is_rising cs n = every (λ (i : ℕ). ltb (get_or cs i 0) (get_or cs (suc i) 0)) (places (n - 1))

abbrev pub is_row_right : Width → List ℕ → ℕ → ℕ → Entry Result → Bool
is_row_right W cs n i e = cond (leb n i) (is_empty e) (fit_entry W cs e)

unfoldable pub has_right_rows : Width → List ℕ → Table → ℕ → ℕ → Bool
has_right_rows W cs t n k = every (λ (i : ℕ). is_row_right W cs n i (entry_at t i)) (places k)

-- ---- the table
unfoldable pub is_fit : Width → Table → Bool
is_fit W t =
    is_degree t.degree
    && (leb 1 t.rows
    && (leb t.rows W.rows
    && (is_rising t.clusters t.rows
    && has_right_rows W (clusters_in t) t t.rows row_cap)))
