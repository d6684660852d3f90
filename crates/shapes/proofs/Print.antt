-- A text tells its shape: printing is injective, whatever the shapes.
--     Stops u            the bytes u end, or go on with no figure
--     print_split        of bytes that begin with a printed shape, the shape and what follows it
--     print_inj          equal texts, equal shapes
-- Assumes nothing.
use mathlib.Core.Path.{◌≡◌, refl, sym, ap, ap₂, ◌∙◌, subst}
use mathlib.Core.List.{List, [], ◌∷◌, ◌++◌, append_assoc, head-eq_of_cons-eq, tail-eq_of_cons-eq}
use Prim.Native.Nat.{ℕ, ◌≤◌, ◌<◌}
use native.Mathlib.Omega.{arith}
use lib.Dec.{T, leb, leb→le, lit<}
use Rattle.laws.specs.Lists.{every}
use Rattle.laws.proofs.Tests.{T_and}
use Rattle.shapes.specs.Decimal.{decimal}
use Rattle.shapes.specs.Shape.{Shape, taxon, vertex, Shapes, none, more}
use Rattle.shapes.specs.Text.{opening, closing, comma, semicolon, after_commas, with_commas, print, print_each, text_bytes}
use Rattle.shapes.proofs.Decimal.{is_figure, decimal-figures, decimal-some, decimal_inj}

-- ---- figures, and what follows them

abbrev pub Stops : List ℕ → Type 0
Stops [] = Unit {0}
Stops (b ∷ l) = T (is_figure b) → ⊥

figure-le : (b : ℕ) → T (is_figure b) → 48 ≤ b
figure-le b h = leb→le 48 b (T_and (leb 48 b) (leb b 57) h).0

figures_split : (s t u v : List ℕ) → T (every is_figure s) → T (every is_figure t) → Stops u → Stops v → s ++ u ≡ t ++ v → (s ≡ t) × (u ≡ v)
figures_split [] [] u v h k su sv e = (refl, e)
figures_split [] (b ∷ t) u v h k su sv e = absurd (subst Stops e su (T_and (is_figure b) (every is_figure t) k).0)
figures_split (a ∷ s) [] u v h k su sv e = absurd (subst Stops (sym e) sv (T_and (is_figure a) (every is_figure s) h).0)
figures_split (a ∷ s) (b ∷ t) u v h k su sv e =
    let hs = T_and (is_figure a) (every is_figure s) h in
    let ks = T_and (is_figure b) (every is_figure t) k in
    let q = figures_split s t u v hs.1 ks.1 su sv (tail-eq_of_cons-eq e) in
    (ap₂ (λ (x : ℕ) (l : List ℕ). x ∷ l) (head-eq_of_cons-eq e) q.0, q.1)

-- a taxon begins with a figure
taxon-first : (t b : ℕ) (u v : List ℕ) → b < 48 → decimal t ++ u ≡ b ∷ v → ⊥
taxon-first t b u v h e =
    let q = decimal-some t in
    let p = T_and (is_figure q.0) (every is_figure q.1) (subst (λ (l : List ℕ). T (every is_figure l)) q.2 (decimal-figures t)) in
    omega (arith, figure-le q.0 p.0, head-eq_of_cons-eq (ap (λ (l : List ℕ). l ++ u) (sym q.2) ∙ e))

-- no shape begins with a closing parenthesis
print-first : (s : Shape) (u v : List ℕ) → print s ++ u ≡ closing ∷ v → ⊥
print-first (taxon t) u v e = taxon-first t closing u v (lit< tt) e
print-first (vertex ss) u v e = let z : opening ≡ closing = head-eq_of_cons-eq e in omega arith

-- ---- children

children-first : (s : Shape) (ss : Shapes) (u v : List ℕ) → with_commas (print_each (more s ss)) ++ (closing ∷ v) ≡ closing ∷ u → ⊥
children-first s ss u v e =
    let l = after_commas (print_each ss) in
    print-first s (l ++ (closing ∷ v)) u (sym (append_assoc (print s) l (closing ∷ v)) ∙ e)

stops_after : (ss : Shapes) (u : List ℕ) → Stops (after_commas (print_each ss) ++ (closing ∷ u))
stops_after none u = λ h. h
stops_after (more s ss) u = λ h. h

abbrev Tells : Shape → Shape → Type 0
Tells s s' = (u v : List ℕ) → Stops u → Stops v → print s ++ u ≡ print s' ++ v → (s ≡ s') × (u ≡ v)

abbrev TellsAfter : Shapes → Shapes → Type 0
TellsAfter ss ss' =
    (u v : List ℕ) → after_commas (print_each ss) ++ (closing ∷ u) ≡ after_commas (print_each ss') ++ (closing ∷ v) → (ss ≡ ss') × (u ≡ v)

-- a first child and the others
tells_more : (s s' : Shape) (ss ss' : Shapes) → Tells s s' → TellsAfter ss ss' → (u v : List ℕ)
    → (print s ++ after_commas (print_each ss)) ++ (closing ∷ u) ≡ (print s' ++ after_commas (print_each ss')) ++ (closing ∷ v)
    → (more s ss ≡ more s' ss') × (u ≡ v)
tells_more s s' ss ss' f g u v e =
    let e' = sym (append_assoc (print s) (after_commas (print_each ss)) (closing ∷ u)) ∙ e
    ∙ append_assoc (print s') (after_commas (print_each ss')) (closing ∷ v) in
    let x = after_commas (print_each ss) ++ (closing ∷ u) in
    let y = after_commas (print_each ss') ++ (closing ∷ v) in
    let p = f x y (stops_after ss u) (stops_after ss' v) e' in
    let q = g u v p.1 in
    (ap₂ more p.0 q.0, q.1)

mutual
  pub print_split : (s s' : Shape) → Tells s s'
  print_split (taxon t) (taxon t') u v su sv e =
      let q = figures_split (decimal t) (decimal t') u v (decimal-figures t) (decimal-figures t') su sv e in
      (ap taxon (decimal_inj t t' q.0), q.1)
  print_split (taxon t) (vertex ss) u v su sv e = absurd (taxon-first t opening u _ (lit< tt) e)
  print_split (vertex ss) (taxon t) u v su sv e = absurd (taxon-first t opening v _ (lit< tt) (sym e))
  print_split (vertex ss) (vertex ss') u v su sv e =
      let l = with_commas (print_each ss) in
      let l' = with_commas (print_each ss') in
      let e' = sym (append_assoc l (closing ∷ []) u) ∙ tail-eq_of_cons-eq e ∙ append_assoc l' (closing ∷ []) v in
      let q = first_split ss ss' u v e' in
      (ap vertex q.0, q.1)

  first_split : (ss ss' : Shapes) (u v : List ℕ)
      → with_commas (print_each ss) ++ (closing ∷ u) ≡ with_commas (print_each ss') ++ (closing ∷ v) → (ss ≡ ss') × (u ≡ v)
  first_split none none u v e = (refl, tail-eq_of_cons-eq e)
  first_split none (more s ss) u v e = absurd (children-first s ss u v (sym e))
  first_split (more s ss) none u v e = absurd (children-first s ss v u e)
  first_split (more s ss) (more s' ss') u v e =
      tells_more s s' ss ss' (λ a b sa sb q. print_split s s' a b sa sb q) (λ a b q. after_split ss ss' a b q) u v e

  after_split : (ss ss' : Shapes) → TellsAfter ss ss'
  after_split none none u v e = (refl, tail-eq_of_cons-eq e)
  after_split none (more s ss) u v e = absurd (let z : closing ≡ comma = head-eq_of_cons-eq e in omega arith)
  after_split (more s ss) none u v e = absurd (let z : comma ≡ closing = head-eq_of_cons-eq e in omega arith)
  after_split (more s ss) (more s' ss') u v e =
      tells_more s s' ss ss' (λ a b sa sb q. print_split s s' a b sa sb q) (λ a b q. after_split ss ss' a b q) u v (tail-eq_of_cons-eq e)

pub print_inj : (s s' : Shape) → text_bytes s ≡ text_bytes s' → s ≡ s'
print_inj s s' e = (print_split s s' (semicolon ∷ []) (semicolon ∷ []) (λ h. h) (λ h. h) e).0
