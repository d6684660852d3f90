-- One bench example (RULES 11): what is given, and what is told of it.
--     ToldTree            what is told of a tree that is drawn
--     Ending              the refusal of this number is given, or a tree is drawn
--     Case                a list, a degree bound, a rescoring where there is one, the rows that it changes, and how it ends
--     score, no_score      a record, scored or unscored
--     refused_from, drawn_from     a case with no rescoring
--     rescored_from        a case with one, and the rows that it changes
--     tree                a tree whose row length isn't told
-- Assumes nothing.
use Rattle.std.proofs.Math.Option.{Option, none, some}
use Rattle.std.specs.Prelude.{List, [], ℕ, ℤ, pos}
use Prim.Native.String.{String}
use Rattle.laws.specs.Row.{Row}
use Rattle.laws.specs.State.{unscored}

-- count, best weight and, where it is told, the length of the leaf set's row; the members ascending; the text in plain characters
pub record ToldTree : Type 0 where
  pub count : ℕ
  pub weight : ℤ
  pub row_length : Option ℕ
  pub members : List ℕ
  pub text : String

pub data Ending : Type 0 where
  refused : ℕ → Ending
  drawn : ToldTree → Ending

-- a rescoring is a cluster with its new weight and state; a changed row is named by its cluster
pub record Case : Type 0 where
  pub records : List Row
  pub degree : ℕ
  pub rescoring : Option Row
  pub changed : List ℕ
  pub ending : Ending

abbrev pub score : ℕ → ℤ → Row
score c z = record { cluster = c; weight = z; state = 1 }

abbrev pub no_score : ℕ → Row
no_score c = record { cluster = c; weight = pos 0; state = unscored }

abbrev pub refused_from : List Row → ℕ → ℕ → Case
refused_from rs d n = record { records = rs; degree = d; rescoring = none; changed = []; ending = refused n }

abbrev pub drawn_from : List Row → ℕ → ToldTree → Case
drawn_from rs d x = record { records = rs; degree = d; rescoring = none; changed = []; ending = drawn x }

abbrev pub rescored_from : List Row → ℕ → Row → List ℕ → Ending → Case
rescored_from rs d r cs e = record { records = rs; degree = d; rescoring = some r; changed = cs; ending = e }

abbrev pub tree : ℕ → ℤ → List ℕ → String → ToldTree
tree n z xs s = record { count = n; weight = z; row_length = none; members = xs; text = s }
