-- A promise that is an equation to a value has one outcome.
--     value-only     two values that such a promise allows are equal
-- Assumes nothing.
use mathlib.Core.Path.{◌≡◌, sym, ◌∙◌}

pub value-only : {A : Type 0} {v : A} (x y : A) → x ≡ v → y ≡ v → x ≡ y
value-only x y p q = p ∙ sym q
