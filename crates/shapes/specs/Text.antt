-- The Newick text of a shape (RULES 9). Laws: `proofs/Print.antt`, `proofs/TextLength.antt`.
--     opening, closing, comma, semicolon     bytes
--     after_commas, with_commas     texts one after another, each after a comma; with commas between
--     print s, print_each ss       the bytes of a vertex: a taxon in decimal, else the children with commas between and parentheses round
--     text_bytes s                 the same with ";" at the end
-- Assumes nothing.
use Rattle.std.specs.Prelude.{List, [], ◌∷◌, ◌++◌, ℕ}
use Rattle.shapes.specs.Decimal.{decimal}
use Rattle.shapes.specs.Shape.{Shape, taxon, vertex, Shapes, none, more}

abbrev pub opening : ℕ
opening = 40

abbrev pub closing : ℕ
closing = 41

abbrev pub comma : ℕ
comma = 44

abbrev pub semicolon : ℕ
semicolon = 59

abbrev pub after_commas : List (List ℕ) → List ℕ
after_commas [] = []
after_commas (l ∷ ls) = comma ∷ (l ++ after_commas ls)

abbrev pub with_commas : List (List ℕ) → List ℕ
with_commas [] = []
with_commas (l ∷ ls) = l ++ after_commas ls

abbrev mutual
  pub print : Shape → List ℕ
  print (taxon t) = decimal t
  print (vertex ss) = opening ∷ (with_commas (print_each ss) ++ (closing ∷ []))

  pub print_each : Shapes → List (List ℕ)
  print_each none = []
  print_each (more s ss) = print s ∷ print_each ss

abbrev pub text_bytes : Shape → List ℕ
text_bytes s = print s ++ (semicolon ∷ [])
