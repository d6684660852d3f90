-- What is sent back fixes the answer: the number and the position tell which refusal it was.
--     answers n p      a success that tells n, then every refusal in the rules' order, with p where it has a position
--     sent-table       the rules' number, position and what is told for each: an edit of the definitions is refused here
--     sent_of_inj       equal things sent, equal answers
--     number_pos, number-le     no refusal has the number 0, which says that there is none, and none more than 13
-- Assumes nothing.
use mathlib.Core.Path.{◌≡◌, refl, sym, ap, ◌∙◌}
use mathlib.Core.List.{List, [], ◌∷◌, map}
use Prim.Native.Nat.{ℕ, ◌≤◌}
use native.Mathlib.Decide.{dec_le}
use native.Mathlib.Omega.{arith}
use lib.ListN.{get_or, get_or-eq_default}
use Rattle.answers.specs.Refusal.{Answer}
use Rattle.std.specs.Prelude.{Ok, Err}
use Rattle.answers.specs.declared.refusal.Refusal.{Refusal}
use Rattle.answers.specs.declared.refusal.Refusal.TheVariants.{NoBytes, WrongLength, TooLong, DegreeOut, BadRecord, Repeated}
use Rattle.answers.specs.declared.refusal.Refusal.TheVariants.{NoTree, Unfit, NoRow, BadScore, NoRoom, BadSheet, ManyClusters}
use Rattle.answers.specs.Refusal.{number_of, position_of, Sent, sent_of}

abbrev refusals : ℕ → List Refusal
refusals p =
    NoBytes ∷ WrongLength ∷ TooLong ∷ DegreeOut ∷ BadRecord p ∷ Repeated p ∷ NoTree ∷ Unfit ∷ NoRow ∷ BadScore ∷ NoRoom
    ∷ BadSheet p ∷ ManyClusters ∷ []

abbrev pub answers : ℕ → ℕ → List Answer
answers n p = Ok n ∷ map Err (refusals p)

abbrev pub row : ℕ → ℕ → ℕ → Sent
row number position told = record { number = number; position = position; told = told }

pub sent-table : (n p : ℕ) → map sent_of (answers n p)
    ≡ row 0 0 n
    ∷ row 1 0 0
    ∷ row 2 0 0
    ∷ row 3 0 0
    ∷ row 4 0 0
    ∷ row 5 p 0
    ∷ row 6 p 0
    ∷ row 7 0 0
    ∷ row 8 0 0
    ∷ row 9 0 0
    ∷ row 10 0 0
    ∷ row 11 0 0
    ∷ row 12 p 0
    ∷ row 13 0 0
    ∷ []
sent-table n p = refl

-- the answer of what is sent: the number is its place
answer_of : ℕ → ℕ → ℕ → Answer
answer_of m p n = get_or (answers n p) m (Ok 0)

answer_of_sent : (a : Answer) → answer_of (sent_of a).number (sent_of a).position (sent_of a).told ≡ a
unfolding answer_of
answer_of_sent (Ok n) = refl
answer_of_sent (Err NoBytes) = refl
answer_of_sent (Err WrongLength) = refl
answer_of_sent (Err TooLong) = refl
answer_of_sent (Err DegreeOut) = refl
answer_of_sent (Err (BadRecord i)) = refl
answer_of_sent (Err (Repeated i)) = refl
answer_of_sent (Err NoTree) = refl
answer_of_sent (Err Unfit) = refl
answer_of_sent (Err NoRow) = refl
answer_of_sent (Err BadScore) = refl
answer_of_sent (Err NoRoom) = refl
answer_of_sent (Err (BadSheet i)) = refl
answer_of_sent (Err ManyClusters) = refl

pub sent_of_inj : (a b : Answer) → sent_of a ≡ sent_of b → a ≡ b
sent_of_inj a b e =
    sym (answer_of_sent a) ∙ ap (λ (s : Sent). answer_of s.number s.position s.told) e ∙ answer_of_sent b

pub number_pos : (f : Refusal) → number_of f ≡ 0 → ⊥
unfolding answer_of
number_pos f e =
    let done : ◌≡◌ {A = Answer} (Err f) (Ok 0) = sym (answer_of_sent (Err f)) ∙ ap (λ (m : ℕ). answer_of m (position_of f) 0) e in
    let z : ◌≡◌ {A = ℕ} 0 1 = cc in omega arith

-- past the last number there is no refusal
pub number-le : (f : Refusal) → number_of f ≤ 13
unfolding answer_of
number-le f = go (dec_le (number_of f) 13)
  where
    go : Dec (number_of f ≤ 13) → number_of f ≤ 13
    go (yes h) = h
    go (no h) =
        let past = get_or-eq_default (answers 0 (position_of f)) (Ok 0) {n = number_of f} (omega arith) in
        let done : ◌≡◌ {A = Answer} (Err f) (Ok 0) = sym (answer_of_sent (Err f)) ∙ past in
        let z : ◌≡◌ {A = ℕ} 0 1 = cc in absurd (omega arith)
