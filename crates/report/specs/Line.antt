-- The printed line of a list and a degree bound (RULES 10). Laws: `proofs/Laws/Line.antt`.
--     line_for d f line     the line of a refusal, if there is one; else the line given
--     table_line d t        the line of a table: the tree that its leaf set's row marks, or why none is drawn
--     line_of l d           the line of the list l and the degree bound d
--     line_into l d room    what asking for it gives
--     line_cap              no line is longer
-- Assumes nothing.
use Rattle.std.proofs.Math.Option.{Option, none, some}
use Rattle.std.specs.Prelude.{List, [], ℕ, ◌+◌}
use Rattle.laws.specs.Limits.{narrow}
use Rattle.std.specs.Prelude.{Err}
use Rattle.answers.specs.declared.refusal.Refusal.{Refusal}
use Rattle.answers.specs.Refusal.{sent_of}
use Rattle.answers.specs.Reasons.{first_reason}
use Rattle.answers.specs.Outcome.{Outcome, written}
use Rattle.kept.specs.declared.table.Table.{Table}
use Rattle.table.specs.Build.{build_reasons, build_table}
use Rattle.members.specs.Draw.{leaf_result, draw_reasons}
use Rattle.drawing.specs.Draw.{leaf_text}
use Rattle.report.specs.Words.{refused_line, tree_line}

-- beside a text, a degree of 1 figure, a count of 10, a weight of 9 with its sign, three spaces and the line feed
abbrev pub line_cap : ℕ
line_cap = narrow.text_bytes + 24

abbrev pub line_for : ℕ → Option Refusal → List ℕ → List ℕ
line_for d (some f) line = refused_line d (sent_of (Err f))
line_for d none line = line

abbrev pub table_line : ℕ → Table → List ℕ
table_line d t =
    let v = leaf_result t in
    line_for d (first_reason (draw_reasons narrow t)) (tree_line d v.count v.mark v.best (leaf_text t))

unfoldable pub line_of : List ℕ → ℕ → List ℕ
line_of l d = line_for d (first_reason (build_reasons narrow l d)) (table_line d (build_table narrow l d).given)

unfoldable pub line_into : List ℕ → ℕ → List ℕ → Outcome (List ℕ)
line_into l d room = written [] (line_of l d) room
