-- What is sent back, in words (RULES 8): the refusals of an operation in the order in which they are tested, each with what it is given
-- for, and what it is that an operation keeps to them.
--     Sending             which number is sent back, and at which position
--     accept              no refusal
--     refuse n P rest     n, at position 0, where P holds; else the rest
--     refuse_at n P rest   n, at the position p where P p holds; else the rest
--     sent_back n p        what is then sent back: every other number is zero
--     Answered o s A n x y     the outcome o is a success exactly where A holds, and then tells n and gives x; else it is the first refusal
--                         of s that applies, and leaves y
-- Assumes nothing.
use Rattle.std.specs.Prelude.{◌≡◌, ◌⊎◌, ◌≢◌, ◌↔◌, ℕ}
use Rattle.std.specs.Prelude.{Ok}
use Rattle.answers.specs.Refusal.{Sent, sent_of}
use Rattle.answers.specs.Outcome.{Outcome}

abbrev pub Sending : Type 1
Sending = ℕ → ℕ → Type 0

abbrev pub accept : Sending
accept n p = ⊥

abbrev pub refuse : ℕ → Type 0 → Sending → Sending
refuse n P rest m p = ((m ≡ n) × (p ≡ 0) × P) ⊎ ((P → ⊥) × rest m p)

abbrev pub refuse_at : ℕ → (ℕ → Type 0) → Sending → Sending
refuse_at n P rest m p = ((m ≡ n) × P p) ⊎ (((q : ℕ) → P q → ⊥) × rest m p)

abbrev pub sent_back : ℕ → ℕ → Sent
sent_back n p = record { number = n; position = p; told = 0 }

pub record Answered {A : Type 0} (o : Outcome A) (sends : Sending) (Taken : Type 0) (told : ℕ) (handed left : A) : Type 0 where
  -- a success has the number 0
  pub taken : (o.sent.number ≡ 0) ↔ Taken
  -- it tells this number, and gives this
  pub tells : o.sent.number ≡ 0 → o.sent ≡ sent_of (Ok told)
  pub gives : o.sent.number ≡ 0 → o.given ≡ handed
  -- each refusal is sent back, with its position, exactly where it is the first that applies
  pub refused : (n p : ℕ) → n ≢ 0 → (o.sent ≡ sent_back n p) ↔ sends n p
  -- nothing else is told with a refusal
  pub bare : o.sent.number ≢ 0 → o.sent ≡ sent_back o.sent.number o.sent.position
  -- and what was to be given, or was lent, is all zero or as it was
  pub stays : o.sent.number ≢ 0 → o.given ≡ left
