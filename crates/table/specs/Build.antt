-- Building a table (RULES 5 and 8): stated by what a tree is. Laws: `proofs/Laws/Build.antt`.
--     build_reasons W l d     why a build is refused: 4 first, then the list's own reasons
--     build_table W l d       what building the list l with the degree bound d gives; refused, the table is all zero
-- Assumes nothing.
use Rattle.std.specs.Prelude.{not, List, ◌∷◌, ℕ}
use Rattle.laws.specs.Limits.{Width, is_degree}
use Rattle.answers.specs.declared.refusal.Refusal.TheVariants.{DegreeOut}
use Rattle.answers.specs.Outcome.{Outcome, ended}
use Rattle.answers.specs.Reasons.{Reason, when, first_reason}
use Rattle.lists.specs.Records.{rows_of}
use Rattle.lists.specs.Listing.{list_reasons}
use Rattle.trees.specs.Built.{built_table}
use Rattle.kept.specs.declared.table.Table.{Table}
use Rattle.kept.specs.View.{table_of, zero_table}

abbrev pub build_reasons : Width → List ℕ → ℕ → List Reason
build_reasons W l d = when (not (is_degree d)) DegreeOut ∷ list_reasons W l

unfoldable pub build_table : Width → List ℕ → ℕ → Outcome Table
build_table W l d = ended (first_reason (build_reasons W l d)) zero_table 0 (table_of d (built_table W d (rows_of W l)))
