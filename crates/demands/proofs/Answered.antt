-- How the reasons of an operation are its refusals in words (`specs/Sending.antt`), and what an operation with such reasons keeps to.
--     FirstTold rs n p         the first reason of rs that applies has the number n and the position p
--     Says rs sends            the refusals that the reasons rs give are those of sends
--     says_none                no reason: nothing
--     says_when                one more, with no position; the words of those behind it may take it that it doesn't apply
--     says_at                  one more, with a position
--     says_unless              one more, given where a test doesn't pass; those behind it may take it that it does
--     passes_iff               it isn't given exactly where what the test says holds
--     no_room, says_room        the room is too short
--     refusal_is               what is sent back, by its number and its position
--     answered                 an operation that ends by its reasons is answered by their words
--     answered_room            and so is one that writes into a room
--     answered-given           where it has no reason of its own
-- Assumes nothing.
use mathlib.Core.Path.{◌≡◌, refl, sym, ap, ap₂, ◌∙◌}
use mathlib.Core.Logic.{◌≢◌, ◌↔◌, inl, inr}
use mathlib.Core.Bool.{Bool, not}
use mathlib.Core.Option.{Option, none, some}
use mathlib.Core.List.{List, [], ◌∷◌, ◌++◌}
use Prim.Native.Nat.{ℕ, ◌≤◌}
use lib.Dec.{T, ltb, ltb→lt, lt→ltb, T_not, not_T}
use lib.ListN.{length}
use Rattle.laws.proofs.Tests.{T-of-not}
use Rattle.std.specs.Prelude.{Ok, Err}
use Rattle.answers.specs.declared.refusal.Refusal.{Refusal}
use Rattle.answers.specs.declared.refusal.Refusal.TheVariants.{NoRoom}
use Rattle.answers.specs.Refusal.{number_of, position_of, Sent, sent_of}
use Rattle.answers.specs.Reasons.{Reason, when, first_reason, First, NoneApplies}
use Rattle.answers.specs.Outcome.{Outcome, ended, put_into, written}
use Rattle.answers.proofs.Laws.Reasons.{first_iff}
use Rattle.answers.proofs.Laws.Refusal.{number_pos}
use Rattle.answers.proofs.Laws.Outcome.{accepts_iff, refuses_iff, written_accepts_iff}
use Rattle.demands.specs.Sending as words
use Rattle.demands.specs.Sending.{Sending, accept, sent_back, Answered}
use Rattle.demands.specs.Refusals.{room_refusals}

-- ---- reasons in words

-- the first reason that applies has this number and this position
abbrev pub FirstTold : List Reason → ℕ → ℕ → Type 0
FirstTold rs n p = (f : Refusal) × First rs f × (number_of f ≡ n) × (position_of f ≡ p)

pub record Says (rs : List Reason) (sends : Sending) : Type 0 where
  pub told : (n p : ℕ) → FirstTold rs n p ↔ sends n p

pub says_none : Says [] accept
says_none = record { told = λ n p. (λ k. k.1, λ h. absurd h) }

module _ {rs : List Reason} {rest : Sending} (b : Bool) where
  pub says_when : (f : Refusal) {P : Type 0} → position_of f ≡ 0 → T b ↔ P → ((P → ⊥) → Says rs rest)
      → Says (when b f ∷ rs) (words.refuse (number_of f) P rest)
  says_when f {P} zero iff says = record { told = λ n p. (λ k. to k.0 k.1 k.2 k.3, from) }
    where
      to : {n p : ℕ} (g : Refusal) → First (when b f ∷ rs) g → number_of g ≡ n → position_of g ≡ p → words.refuse (number_of f) P rest n p
      to g (inl h) a q = inl (sym (ap number_of h.1 ∙ a), sym q ∙ sym (ap position_of h.1) ∙ zero, iff.0 h.0)
      to g (inr h) a q = let not_so : P → ⊥ = λ x. h.0 (iff.1 x) in inr (not_so, ((says not_so).told _ _).0 (g, h.1, a, q))

      from : {n p : ℕ} → words.refuse (number_of f) P rest n p → FirstTold (when b f ∷ rs) n p
      from (inl h) = (f, inl (iff.1 h.2, refl), sym h.0, zero ∙ sym h.1)
      from (inr h) =
          let k = ((says h.0).told _ _).1 h.1 in
          (k.0, inr (λ t. h.0 (iff.0 t), k.1), k.2, k.3)

  pub says_at : (at : ℕ → Refusal) (i : ℕ) {P : ℕ → Type 0} → ((p : ℕ) → position_of (at p) ≡ p)
      → ((p : ℕ) → (T b × (at i ≡ at p)) ↔ P p) → Says rs rest → Says (when b (at i) ∷ rs) (words.refuse_at (number_of (at i)) P rest)
  says_at at i {P} place iff says = record { told = λ n p. (λ k. to k.0 k.1 k.2 k.3, from) }
    where
      to : {n p : ℕ} (g : Refusal) → First (when b (at i) ∷ rs) g → number_of g ≡ n → position_of g ≡ p
          → words.refuse_at (number_of (at i)) P rest n p
      to {n} {p} g (inl h) a q =
          let here : i ≡ p = sym (place i) ∙ ap position_of h.1 ∙ q in
          inl (sym (ap number_of h.1 ∙ a), (iff p).0 (h.0, ap at here))
      to g (inr h) a q = inr (λ r x. h.0 ((iff r).1 x).0, (says.told _ _).0 (g, h.1, a, q))

      from : {n p : ℕ} → words.refuse_at (number_of (at i)) P rest n p → FirstTold (when b (at i) ∷ rs) n p
      from {n} {p} (inl h) =
          let q = (iff p).1 h.1 in
          (at i, inl (q.0, refl), sym h.0, ap position_of q.1 ∙ place p)
      from (inr h) =
          let k = (says.told _ _).1 h.1 in
          (k.0, inr (λ t. h.0 i ((iff i).0 (t, refl)), k.1), k.2, k.3)

-- a test that must pass
module _ (b : Bool) {P : Type 0} (iff : T b ↔ P) where
  pub says_unless : {rs : List Reason} {rest : Sending} (f : Refusal) → position_of f ≡ 0 → (P → Says rs rest)
      → Says (when (not b) f ∷ rs) (words.refuse (number_of f) (P → ⊥) rest)
  says_unless f zero says =
      says_when (not b) f zero (λ n x. T_not b n (iff.1 x), λ n. not_T b (λ t. n (iff.0 t)))
      (λ n. says (iff.0 (T-of-not b (λ k. n (λ x. T_not b k (iff.1 x))))))

  pub passes_iff : (T (not b) → ⊥) ↔ P
  passes_iff = (λ n. iff.0 (T-of-not b n), λ x n. T_not b n (iff.1 x))

module _ (out room : List ℕ) where
  abbrev pub no_room : List Reason
  no_room = when (ltb (length room) (length out)) NoRoom ∷ []

  pub says_room : Says no_room (room_refusals out room)
  says_room =
      says_when (ltb (length room) (length out)) NoRoom refl
      (ltb→lt (length room) (length out), lt→ltb (length room) (length out)) (λ _. says_none)

-- ---- what is kept to

pub refusal_is : (f : Refusal) {n p : ℕ} → number_of f ≡ n → position_of f ≡ p → sent_of (Err f) ≡ sent_back n p
refusal_is f a q = ap₂ sent_back a q

module _ {A : Type 0} (rs : List Reason) (stays : A) (n : ℕ) (given : A) where
  abbrev end : Option Refusal → Outcome A
  end o = ended o stays n given

  pub answered : {sends : Sending} {Taken : Type 0} → Says rs sends → NoneApplies rs ↔ Taken
      → Answered (ended (first_reason rs) stays n given) sends Taken n given stays
  answered {sends} says none_is = record {
    taken = (λ e. none_is.0 (accepted.0 e), λ h. accepted.1 (none_is.1 h));
    tells = tells (first_reason rs);
    gives = gives (first_reason rs);
    refused = λ m p h. (told m p h (first_reason rs) refl, sent m p);
    bare = bare (first_reason rs);
    stays = left (first_reason rs);
  }
    where
      accepted : ((end (first_reason rs)).sent.number ≡ 0) ↔ NoneApplies rs
      accepted = accepts_iff rs stays n given

      told : (m p : ℕ) → m ≢ 0 → (o : Option Refusal) → first_reason rs ≡ o → (end o).sent ≡ sent_back m p → sends m p
      told m p h (some f) q e =
          (says.told m p).0 (f, (first_iff rs f).0 q, ap (λ (s : Sent). s.number) e, ap (λ (s : Sent). s.position) e)
      told m p h none q e = absurd (h (sym (ap (λ (s : Sent). s.number) e)))

      sent : (m p : ℕ) → sends m p → (end (first_reason rs)).sent ≡ sent_back m p
      sent m p s =
          let k = (says.told m p).1 s in
          (refuses_iff rs stays n given k.0).1 k.1 ∙ refusal_is k.0 k.2 k.3

      tells : (o : Option Refusal) → (end o).sent.number ≡ 0 → (end o).sent ≡ sent_of (Ok n)
      tells (some f) e = absurd (number_pos f e)
      tells none e = refl

      gives : (o : Option Refusal) → (end o).sent.number ≡ 0 → (end o).given ≡ given
      gives (some f) e = absurd (number_pos f e)
      gives none e = refl

      bare : (o : Option Refusal) → (end o).sent.number ≢ 0 → (end o).sent ≡ sent_back (end o).sent.number (end o).sent.position
      bare (some f) h = refl
      bare none h = absurd (h refl)

      left : (o : Option Refusal) → (end o).sent.number ≢ 0 → (end o).given ≡ stays
      left (some f) h = refl
      left none h = absurd (h refl)

module _ (out room : List ℕ) where
  abbrev whole : List ℕ
  whole = put_into out room

  room_iff : (rs : List Reason) → NoneApplies (rs ++ no_room out room) ↔ (NoneApplies rs × (length out ≤ length room))
  room_iff rs =
      let ends = accepts_iff (rs ++ no_room out room) room (length out) whole in
      let fits = written_accepts_iff rs out room in
      (λ h. fits.0 (ends.1 h), λ h. ends.0 (fits.1 h))

  pub answered_room : (rs : List Reason) {sends : Sending} {P : Type 0} → Says (rs ++ no_room out room) sends → NoneApplies rs ↔ P
      → Answered (written rs out room) sends (P × (length out ≤ length room)) (length out) (put_into out room) room
  answered_room rs says iff =
      let both = room_iff rs in
      answered (rs ++ no_room out room) room (length out) whole says
      (λ h. let k = both.0 h in (iff.0 k.0, k.1), λ h. both.1 (iff.1 h.0, h.1))

  pub answered-given :
      Answered (written [] out room) (room_refusals out room) (length out ≤ length room) (length out) (put_into out room) room
  answered-given =
      let both = room_iff [] in
      answered (no_room out room) room (length out) whole (says_room out room) (λ h. (both.0 h).1, λ h. both.1 (tt, h))
