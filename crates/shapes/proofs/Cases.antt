-- The texts that the rules print (RULES 11), each from the members of its tree: one computed table. It pins the bytes, which no law speaks
-- of.
--     Case             a tree's members and top, and its text
--     cases            P1, P3, P5, P6, P8, and taxa of two figures
--     cases_hold       each text is that of its tree
-- Assumes nothing.
use mathlib.Core.Path.{◌≡◌, refl}
use mathlib.Core.List.{List, [], ◌∷◌, map}
use Prim.Native.Nat.{ℕ}
use Prim.Native.String.{String}
use lib.Count.{ones, ones_in, count_trailing_zeros}
use Rattle.laws.specs.Cluster.{inside, single}
use Rattle.shapes.specs.Characters.{characters}
use Rattle.shapes.specs.Decimal.{figures}
use Rattle.shapes.specs.Drawn.{shape_of, text_of}

pub record Case : Type 0 where
  pub members : List ℕ
  pub top : ℕ
  pub text : String

abbrev pub cases : List Case
cases =
    record { members = 1 ∷ 2 ∷ 4 ∷ 6 ∷ 7 ∷ []; top = 7; text = "(0,(1,2));" }
    ∷ record { members = 7 ∷ 4 ∷ 3 ∷ 2 ∷ 1 ∷ []; top = 7; text = "((0,1),2);" }
    ∷ record { members = 7 ∷ 4 ∷ 2 ∷ 1 ∷ []; top = 7; text = "(0,1,2);" }
    ∷ record { members = 32 ∷ []; top = 32; text = "5;" }
    ∷ record { members = 15 ∷ 14 ∷ 12 ∷ 8 ∷ 4 ∷ 2 ∷ 1 ∷ []; top = 15; text = "(0,(1,(2,3)));" }
    ∷ record { members = 1536 ∷ 1024 ∷ 512 ∷ []; top = 1536; text = "(9,10);" }
    ∷ []

pub cases_hold : map (λ (c : Case). text_of c.members c.top) cases ≡ map (λ (c : Case). characters c.text) cases
unfolding shape_of figures inside single ones ones_in count_trailing_zeros
cases_hold = refl
