-- Why an operation is refused: the first reason that applies.
--     reason_told, reason_passed     a reason that applies is told; one that doesn't is passed over
--     first_some, first-none         reasons in front of others: what is told of them is told, else what is told of the others
--     none-append                    none of both applies
--     Each P rs, first-each          what holds of each refusal, where it applies and none before does, holds of the one that is told
--     first_iff, none_iff            what is told as facts: the first that applies, or that none does
-- Assumes nothing.
use mathlib.Core.Path.{◌≡◌, refl, ap, ◌∙◌, subst}
use mathlib.Core.Logic.{◌↔◌, inl, inr}
use mathlib.Core.Bool.{Bool, true, false, cond}
use mathlib.Core.Option.{none, some, some-injective, none-ne-some, some-ne-none}
use mathlib.Core.List.{List, [], ◌∷◌, ◌++◌}
use lib.Dec.{T}
use Rattle.laws.proofs.Tests.{T_true, T_false}
use Rattle.answers.specs.declared.refusal.Refusal.{Refusal}
use Rattle.answers.specs.Reasons.{Reason, when, first_reason, First, NoneApplies}

-- ---- by steps

module _ (b : Bool) (f : Refusal) (rs : List Reason) where
  pub reason_told : b ≡ true → first_reason (when b f ∷ rs) ≡ some f
  reason_told e = rw e refl

  pub reason_passed : b ≡ false → first_reason (when b f ∷ rs) ≡ first_reason rs
  reason_passed e = rw e refl

pub first_some : (rs qs : List Reason) (f : Refusal) → first_reason rs ≡ some f → first_reason (rs ++ qs) ≡ some f
first_some [] qs f e = absurd (none-ne-some f e)
first_some (r ∷ rs) qs f e = go r.applies e (first_some rs qs f)
  where
    go : (b : Bool) → cond b (some r.refusal) (first_reason rs) ≡ some f → (first_reason rs ≡ some f → first_reason (rs ++ qs) ≡ some f)
        → cond b (some r.refusal) (first_reason (rs ++ qs)) ≡ some f
    go true e ih = e
    go false e ih = ih e

pub first-none : (rs qs : List Reason) → first_reason rs ≡ none → first_reason (rs ++ qs) ≡ first_reason qs
first-none [] qs e = refl
first-none (r ∷ rs) qs e = go r.applies e (first-none rs qs)
  where
    go : (b : Bool) → cond b (some r.refusal) (first_reason rs) ≡ none → (first_reason rs ≡ none → first_reason (rs ++ qs) ≡ first_reason qs)
        → cond b (some r.refusal) (first_reason (rs ++ qs)) ≡ first_reason qs
    go true e ih = absurd (some-ne-none r.refusal e)
    go false e ih = ih e

abbrev pub Each : (Refusal → Type 0) → List Reason → Type 0
Each P [] = Unit {0}
Each P (r ∷ rs) = (T r.applies → P r.refusal) × ((T r.applies → ⊥) → Each P rs)

pub first-each : (P : Refusal → Type 0) (rs : List Reason) → Each P rs → (f : Refusal) → first_reason rs ≡ some f → P f
first-each P [] k f e = absurd (none-ne-some f e)
first-each P (r ∷ rs) k f e = go r.applies k e (λ h. first-each P rs h f)
  where
    go : (b : Bool) → (T b → P r.refusal) × ((T b → ⊥) → Each P rs) → cond b (some r.refusal) (first_reason rs) ≡ some f
        → (Each P rs → first_reason rs ≡ some f → P f) → P f
    go true q e ih = subst P (some-injective r.refusal f e) (q.0 tt)
    go false q e ih = ih (q.1 (λ t. t)) e

-- ---- as facts

first→ : (rs : List Reason) (f : Refusal) → first_reason rs ≡ some f → First rs f
first→ [] f e = absurd (none-ne-some f e)
first→ (r ∷ rs) f e = go r.applies refl e (first→ rs f)
  where
    go : (b : Bool) → r.applies ≡ b → cond b (some r.refusal) (first_reason rs) ≡ some f → (first_reason rs ≡ some f → First rs f)
        → First (r ∷ rs) f
    go true a e ih = inl (rw a tt, some-injective r.refusal f e)
    go false a e ih = inr (λ t. rw a at t, ih e)

→first : (rs : List Reason) (f : Refusal) → First rs f → first_reason rs ≡ some f
→first [] f h = absurd h
→first (r ∷ rs) f (inl h) = reason_told r.applies r.refusal rs (T_true r.applies h.0) ∙ ap some h.1
→first (r ∷ rs) f (inr h) = reason_passed r.applies r.refusal rs (T_false r.applies h.0) ∙ →first rs f h.1

none→ : (rs : List Reason) → first_reason rs ≡ none → NoneApplies rs
none→ [] e = tt
none→ (r ∷ rs) e = go r.applies refl e (none→ rs)
  where
    go : (b : Bool) → r.applies ≡ b → cond b (some r.refusal) (first_reason rs) ≡ none → (first_reason rs ≡ none → NoneApplies rs)
        → NoneApplies (r ∷ rs)
    go true a e ih = absurd (some-ne-none r.refusal e)
    go false a e ih = (λ t. rw a at t, ih e)

→none : (rs : List Reason) → NoneApplies rs → first_reason rs ≡ none
→none [] h = refl
→none (r ∷ rs) h = reason_passed r.applies r.refusal rs (T_false r.applies h.0) ∙ →none rs h.1

pub first_iff : (rs : List Reason) (f : Refusal) → (first_reason rs ≡ some f) ↔ First rs f
first_iff rs f = (first→ rs f, →first rs f)

pub none_iff : (rs : List Reason) → (first_reason rs ≡ none) ↔ NoneApplies rs
none_iff rs = (none→ rs, →none rs)

pub none-append : (rs qs : List Reason) → NoneApplies (rs ++ qs) → NoneApplies rs × NoneApplies qs
none-append [] qs h = (tt, h)
none-append (r ∷ rs) qs h = let k = none-append rs qs h.1 in ((h.0, k.0), k.1)
