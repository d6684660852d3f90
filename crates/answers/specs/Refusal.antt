-- What is sent back, in the rules' own numbers (RULES 8). Laws: `proofs/Laws/Refusal.antt`.
--     number_of f       the number of a refusal, 1 to 13
--     position_of f     the position told with it: 5 and 6 have that of a record, 12 that of a line, the others 0
--     Answer           how an operation ended: a success with a number, or a refusal
--     Sent             what an operation sends back beside its record, table or room
--     sent_of a         an answer so sent: every promise speaks through it
-- Assumes nothing.
use Rattle.std.specs.Prelude.{ℕ, Result, Ok, Err}
use Rattle.answers.specs.declared.refusal.Refusal.{Refusal}
use Rattle.answers.specs.declared.refusal.Refusal.TheVariants.{NoBytes, WrongLength, TooLong, DegreeOut, BadRecord, Repeated}
use Rattle.answers.specs.declared.refusal.Refusal.TheVariants.{NoTree, Unfit, NoRow, BadScore, NoRoom, BadSheet, ManyClusters}

abbrev pub number_of : Refusal → ℕ
number_of NoBytes = 1
number_of WrongLength = 2
number_of TooLong = 3
number_of DegreeOut = 4
number_of (BadRecord i) = 5
number_of (Repeated i) = 6
number_of NoTree = 7
number_of Unfit = 8
number_of NoRow = 9
number_of BadScore = 10
number_of NoRoom = 11
number_of (BadSheet i) = 12
number_of ManyClusters = 13

abbrev pub position_of : Refusal → ℕ
position_of NoBytes = 0
position_of WrongLength = 0
position_of TooLong = 0
position_of DegreeOut = 0
position_of (BadRecord i) = i
position_of (Repeated i) = i
position_of NoTree = 0
position_of Unfit = 0
position_of NoRow = 0
position_of BadScore = 0
position_of NoRoom = 0
position_of (BadSheet i) = i
position_of ManyClusters = 0

abbrev pub Answer : Type 0
Answer = Result ℕ Refusal

pub record Sent : Type 0 where
  -- the refusal's number and position, both 0 on a success
  pub number : ℕ
  pub position : ℕ
  -- how many bytes or numbers a success wrote, or has in its text; 0 on a refusal
  pub told : ℕ

abbrev pub sent_of : Answer → Sent
sent_of (Ok n) = record { number = 0; position = 0; told = n }
sent_of (Err f) = record { number = number_of f; position = position_of f; told = 0 }
