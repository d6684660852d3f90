-- The bytes of a part, from those of its children: what a writer that calls itself on each child goes by.
--     draws-only          shapes that draw the same members are equal
--     part_taxon          one taxon is its number in decimal
--     part_vertex         any other part is its children's bytes with commas between and parentheses round
-- Assumes nothing.
use mathlib.Core.Path.{◌≡◌, refl, ap, ap₂, ◌∙◌}
use mathlib.Core.List.{List, [], ◌∷◌, ◌++◌, map}
use mathlib.Core.List.Memᴰ.{head as here}
use mathlib.Core.List.Memᴰ.{tail as there}
use mathlib.Core.List.{Memᴰ as Mem}
use Prim.Native.Nat.{ℕ, zero, suc, ◌≤◌}
use native.Mathlib.Nat.{le_refl}
use native.Mathlib.Omega.{arith}
use lib.Dec.{T}
use Rattle.laws.specs.Cluster.{single, size}
use Rattle.laws.proofs.Tests.{T_true, T_false}
use Rattle.laws.proofs.Taxa.{size_pos, size-lt}
use Rattle.shapes.specs.Decimal.{decimal}
use Rattle.shapes.specs.Shape.{Shape, taxon, vertex, smallest}
use Rattle.shapes.specs.Text.{opening, closing, with_commas, print, print_each}
use Rattle.shapes.specs.Drawn.{children_in_order, shapes_by, shape_of}
use Rattle.shapes.specs.Parts.{part_bytes}
use Rattle.shapes.specs.Nests.{Nests}
use Rattle.shapes.proofs.Parts.{in_order→}
use Rattle.shapes.proofs.Drawn.{Draws, shape-draws}
use Rattle.shapes.proofs.Only.{ordered-only}

pub draws-only : (xs : List ℕ) (C : ℕ) (s s' : Shape) → Draws xs C s → Draws xs C s' → s ≡ s'
draws-only xs C s s' d d' =
    ordered-only s s' d.ordered d'.ordered d.once d'.once (record {
      to = λ c m. let q = d.sound c m in d'.complete c q.0 q.1;
      from = λ c m. let q = d'.sound c m in d.complete c q.0 q.1;
    })

print_by : (f : ℕ → Shape) (cs : List ℕ) → print_each (shapes_by f cs) ≡ map (λ (c : ℕ). print (f c)) cs
print_by f [] = refl
print_by f (c ∷ cs) = ap (λ (l : List (List ℕ)). print (f c) ∷ l) (print_by f cs)

map_same : (f g : ℕ → List ℕ) (cs : List ℕ) → ((c : ℕ) → Mem c cs → f c ≡ g c) → map f cs ≡ map g cs
map_same f g [] h = refl
map_same f g (c ∷ cs) h = ap₂ (λ (l : List ℕ) (ls : List (List ℕ)). l ∷ ls) (h c (here refl)) (map_same f g cs (λ x m. h x (there m)))

-- ---- the two kinds of shape

shape-taxon : (n : ℕ) (xs : List ℕ) (C : ℕ) → T (single C) → shape_of n xs C ≡ taxon (smallest C)
unfolding shape_of
shape-taxon zero xs C h = refl
shape-taxon (suc n) xs C h = rw (T_true (single C) h)

shape-vertex : (n : ℕ) (xs : List ℕ) (C : ℕ) → (T (single C) → ⊥)
    → shape_of (suc n) xs C ≡ vertex (shapes_by (shape_of n xs) (children_in_order xs C))
unfolding shape_of
shape-vertex n xs C h = rw (T_false (single C) h)

pub part_taxon : (xs : List ℕ) (C : ℕ) → T (single C) → part_bytes xs C ≡ decimal (smallest C)
part_taxon xs C h = ap print (shape-taxon (size C) xs C h)

module _ (xs : List ℕ) (N : Nests xs) (C : ℕ) (m : Mem C xs) (h : T (single C) → ⊥) where
  abbrev wrapped : List (List ℕ) → List ℕ
  wrapped ls = opening ∷ (with_commas ls ++ (closing ∷ []))

  -- the children's shapes don't depend on how many taxa are allowed for
  children-bytes : (n : ℕ) → size C ≤ suc n
      → map (λ (c : ℕ). print (shape_of n xs c)) (children_in_order xs C) ≡ map (part_bytes xs) (children_in_order xs C)
  children-bytes n l = map_same (λ (c : ℕ). print (shape_of n xs c)) (part_bytes xs) (children_in_order xs C) same
    where
      same : (c : ℕ) → Mem c (children_in_order xs C) → print (shape_of n xs c) ≡ part_bytes xs c
      same c k =
          let q = in_order→ xs N C c k in
          let enough : size c ≤ n = omega (arith, size-lt c C q.strictly) in
          ap print (draws-only xs c (shape_of n xs c) (shape_of (size c) xs c) (shape-draws xs N n c q.member enough)
          (shape-draws xs N (size c) c q.member (le_refl (size c))))

  pub part_vertex : part_bytes xs C ≡ opening ∷ (with_commas (map (part_bytes xs) (children_in_order xs C)) ++ (closing ∷ []))
  part_vertex = go (size C) refl
    where
      go : (n : ℕ) → size C ≡ n → print (shape_of n xs C) ≡ wrapped (map (part_bytes xs) (children_in_order xs C))
      go zero e = absurd (omega (arith, size_pos C (N.nonzero C m)))
      go (suc n) e =
          ap print (shape-vertex n xs C h)
          ∙ ap wrapped (print_by (shape_of n xs) (children_in_order xs C) ∙ children-bytes n (omega arith))
