-- What the writer of a part has left to write, while it writes the children one after another.
--     comma-none, comma-one     no comma before the first child, and one before each other
--     to_write xs C left cs   the bytes still to write where the children cs are left, which make up the taxa left
--     taxon-written          a part of one taxon is its number
--     Writing                at the head of the loop: what is written and what is left is the whole
--     writing_begins         before the first child
--     Turn, turn, taxon-lt, writing_goes_on     one turn, that writes one child
--     writing_ends           after the last child
--     text-written           the whole text
-- Assumes nothing.
use mathlib.Core.Path.{◌≡◌, refl, sym, ap, ◌∙◌, subst}
use mathlib.Core.Logic.{◌≢◌}
use mathlib.Core.Bool.{true, false}
use mathlib.Core.List.{List, [], ◌∷◌, ◌++◌, map, append_assoc, Memᴰ as Mem}
use Prim.Native.Nat.{ℕ, ◌-◌, ◌^◌, ◌≤◌, ◌<◌}
use native.Mathlib.Omega.{arith}
use lib.Dec.{T, eqb, eqb→eq}
use Rattle.laws.specs.Cluster.{inside, single}
use Rattle.laws.specs.Limits.{narrow}
use Rattle.laws.proofs.Tests.{T_true, T_false, true_T, eq→eqb}
use Rattle.laws.proofs.Cluster.{le_of_inside, strict→}
use Rattle.laws.proofs.Lowest.{lowest-lt}
use Rattle.laws.proofs.Width.{narrow_facts}
use Rattle.shapes.specs.Decimal.{decimal}
use Rattle.shapes.specs.Shape.{smallest}
use Rattle.shapes.specs.Text.{opening, closing, comma, semicolon, after_commas, with_commas}
use Rattle.shapes.specs.Drawn.{children_in_order, text_of}
use Rattle.shapes.specs.Nests.{Nests, TreeOn}
use Rattle.shapes.specs.Parts.{part_bytes, child_with}
use Rattle.shapes.proofs.Nests.{Child}
use Rattle.shapes.proofs.Parts.{Left, left-top, next_child, next_inside, next_left, parts_in, parts_none, parts_all, parts_more}
use Rattle.shapes.proofs.PartBytes.{part_taxon, part_vertex}
use Rattle.shapes.proofs.Theorems.{text-length}
use Rattle.texts.specs.declared.text.Text.{Text}
use Rattle.texts.specs.Text.{holding, with_bytes}
use Rattle.texts.proofs.Laws.{with_append, text_held}
use Rattle.drawing.specs.Gathered.{comma_before}

-- ---- a comma

pub comma-none : (C left : ℕ) → left ≡ C → comma_before C left ≡ []
comma-none C left e = rw (T_true (eqb left C) (eq→eqb left C e))

pub comma-one : (C left : ℕ) → left ≢ C → comma_before C left ≡ comma ∷ []
comma-one C left h = rw (T_false (eqb left C) (λ t. h (eqb→eq left C t)))

-- ---- the bytes still to write

module _ (xs : List ℕ) (C : ℕ) where
  abbrev pub to_write : ℕ → List ℕ → List ℕ
  to_write left [] = closing ∷ []
  to_write left (c ∷ cs) = comma_before C left ++ (part_bytes xs c ++ (after_commas (map (part_bytes xs) cs) ++ (closing ∷ [])))

  to_write_first : (cs : List ℕ) → with_commas (map (part_bytes xs) cs) ++ (closing ∷ []) ≡ to_write C cs
  to_write_first [] = refl
  to_write_first (c ∷ cs) =
      rw (comma-none C C refl) (append_assoc (part_bytes xs c) (after_commas (map (part_bytes xs) cs)) (closing ∷ []))

  to_write_later : (left : ℕ) (cs : List ℕ) → left ≢ C → after_commas (map (part_bytes xs) cs) ++ (closing ∷ []) ≡ to_write left cs
  to_write_later left [] h = refl
  to_write_later left (c ∷ cs) h =
      rw (comma-one C left h)
      (ap (λ (l : List ℕ). comma ∷ l) (append_assoc (part_bytes xs c) (after_commas (map (part_bytes xs) cs)) (closing ∷ [])))

  part_first : Nests xs → Mem C xs → (T (single C) → ⊥) → part_bytes xs C ≡ opening ∷ to_write C (children_in_order xs C)
  part_first N m h = part_vertex xs N C m h ∙ ap (λ (l : List ℕ). opening ∷ l) (to_write_first (children_in_order xs C))

pub taxon-written : (xs : List ℕ) (C : ℕ) {t : ℕ} → single C ≡ true → t ≡ smallest C → decimal t ≡ part_bytes xs C
taxon-written xs C one e = ap decimal e ∙ sym (part_taxon xs C (true_T one))

-- ---- the loop

pub record Writing (xs : List ℕ) (C : ℕ) (s₀ s : Text) (left : ℕ) : Type 0 where
  pub nests : Nests xs
  pub member : Mem C xs
  pub more : T (single C) → ⊥
  pub met : Left xs nests C left
  pub bytes : with_bytes s (to_write xs C left (parts_in xs nests C left)) ≡ with_bytes s₀ (to_write xs C C (children_in_order xs C))

-- the child of one turn: it is a member, lies in what is left, and is a smaller number than the part
pub record Turn (xs : List ℕ) (C left c : ℕ) : Type 0 where
  pub member : Mem c xs
  pub le : c ≤ left
  pub falls : left - c < left
  pub lt : c < C

-- after the opening parenthesis
pub writing_begins : {xs : List ℕ} {C : ℕ} (s₀ : Text) → Nests xs → Mem C xs → single C ≡ false → Writing xs C s₀ s₀ C
writing_begins {xs} {C} s₀ N m e = record {
  nests = N;
  member = m;
  more = λ h. subst T e h;
  met = left-top xs N C;
  bytes = ap (λ (cs : List ℕ). with_bytes s₀ (to_write xs C C cs)) (parts_all xs N C);
}

module _ {xs : List ℕ} {C : ℕ} {s₀ s : Text} {left : ℕ} (W : Writing xs C s₀ s left) where
  abbrev N : Nests xs
  N = W.nests

  -- ---- one turn
  module _ (n : left ≢ 0) {t c : ℕ} (h : t ≡ smallest left) (k : c ≡ child_with xs C t) where
    turn_is : c ≡ child_with xs C (smallest left)
    turn_is = k ∙ ap (child_with xs C) h

    turn_child : Child xs C c
    turn_child = subst (Child xs C) (sym turn_is) (next_child xs N C W.member W.more left W.met n)

    turn_inside : T (inside c left)
    turn_inside = subst (λ (x : ℕ). T (inside x left)) (sym turn_is) (next_inside xs N C W.member W.more left W.met n)

    turn_left : Left xs N C (left - c)
    turn_left = subst (λ (x : ℕ). Left xs N C (left - x)) (sym turn_is) (next_left xs N C W.member W.more left W.met n)

    turn_parts : parts_in xs N C left ≡ c ∷ parts_in xs N C (left - c)
    turn_parts =
        subst (λ (x : ℕ). parts_in xs N C left ≡ x ∷ parts_in xs N C (left - x)) (sym turn_is)
        (parts_more xs N C W.member W.more left W.met n)

    turn_nonzero : c ≢ 0
    turn_nonzero = N.nonzero c turn_child.member

    turn_less : left - c ≢ C
    turn_less d = omega (arith, le_of_inside left C W.met.within, turn_nonzero)

    -- what is to write is the comma, the child and the others
    abbrev rest : List ℕ
    rest = parts_in xs N C (left - c)

    turn_bytes : to_write xs C left (parts_in xs N C left) ≡ comma_before C left ++ (part_bytes xs c ++ to_write xs C (left - c) rest)
    turn_bytes =
        ap (to_write xs C left) turn_parts
        ∙ ap (λ (l : List ℕ). comma_before C left ++ (part_bytes xs c ++ l)) (to_write_later xs C (left - c) rest turn_less)

    pub turn : Turn xs C left c
    turn =
        let le = le_of_inside c left turn_inside in
        let strictly = strict→ c C turn_child.strictly in
        record {
          member = turn_child.member;
          le = le;
          falls = omega (arith, turn_nonzero);
          lt = omega (arith, le_of_inside c C strictly.0, strictly.1);
        }

    pub writing_goes_on : {s₁ s₂ : Text} → s₁ ≡ with_bytes s (comma_before C left) → s₂ ≡ with_bytes s₁ (part_bytes xs c)
        → Writing xs C s₀ s₂ (left - c)
    writing_goes_on {s₁} {s₂} p q = record {
      nests = N;
      member = W.member;
      more = W.more;
      met = turn_left;
      bytes =
          ap (λ (x : Text). with_bytes x others) q
          ∙ sym (with_append s₁ (part_bytes xs c) others)
          ∙ ap (λ (x : Text). with_bytes x (part_bytes xs c ++ others)) p
          ∙ sym (with_append s (comma_before C left) (part_bytes xs c ++ others))
          ∙ ap (with_bytes s) (sym turn_bytes)
          ∙ W.bytes;
    }
      where
        others : List ℕ
        others = to_write xs C (left - c) rest

  pub taxon-lt : left ≢ 0 → smallest left < 64
  taxon-lt n = lowest-lt 64 left (omega (arith, le_of_inside left C W.met.within, N.small C W.member)) n

  -- ---- after the last child
  pub writing_ends : left ≡ 0 → (t : Text) {r : Text} → s₀ ≡ with_bytes t (opening ∷ []) → r ≡ with_bytes s (closing ∷ [])
      → r ≡ with_bytes t (part_bytes xs C)
  writing_ends e t p q =
      let last = ap (λ (x : ℕ). to_write xs C x (parts_in xs N C x)) e ∙ ap (to_write xs C 0) (parts_none xs N C) in
      q
      ∙ ap (with_bytes s) (sym last)
      ∙ W.bytes
      ∙ ap (λ (x : Text). with_bytes x (to_write xs C C (children_in_order xs C))) p
      ∙ sym (with_append t (opening ∷ []) (to_write xs C C (children_in_order xs C)))
      ∙ ap (with_bytes t) (sym (part_first xs C N W.member W.more))

-- ---- the whole text

pub text-written : (xs : List ℕ) (C : ℕ) → TreeOn xs C → C < 2 ^ narrow.taxa → {s r : Text} → s ≡ with_bytes (holding []) (part_bytes xs C)
    → r ≡ with_bytes s (semicolon ∷ []) → r ≡ holding (text_of xs C)
text-written xs C tree h p q =
    q
    ∙ ap (λ (x : Text). with_bytes x (semicolon ∷ [])) p
    ∙ sym (with_append (holding []) (part_bytes xs C) (semicolon ∷ []))
    ∙ text_held (text_of xs C) (omega (arith, text-length xs C tree narrow narrow_facts h))
