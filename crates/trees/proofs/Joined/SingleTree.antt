-- A one-taxon cluster has one tree: itself.
--     single-right        the list of that one tree is right
-- Assumes nothing.
use mathlib.Core.Path.{◌≡◌, sym, ◌∙◌, subst}
use mathlib.Core.List.Memᴰ
use mathlib.Core.List.{[], ◌∷◌}
use mathlib.Core.List.Memᴰ.{head as here}
use mathlib.Core.List.Memᴰ.{not-nil as mem-nil}
use mathlib.Core.List.Memᴰ.{tail as there}
use mathlib.Core.List.{Memᴰ as Mem}
use mathlib.Core.Logic.{◌≢◌}
use Prim.Native.Nat.{ℕ, ◌-◌, ◌^◌}
use lib.Dec.{T, leb, eqb→eq, eqb_refl}
use lib.ListN.{length}
use Rattle.laws.specs.Cluster.{inside, single}
use Rattle.laws.proofs.Tests.{or_l, eq→eqb}
use Rattle.laws.proofs.Cluster.{inside_refl, taxon-nonzero, below, →nested}
use Rattle.laws.proofs.Taxa.{inside-single}
use Rattle.trees.proofs.Sets.Families.{Fam, fam_ext, one}
use Rattle.trees.proofs.Sets.TreeFacts.{Given, Tree, kids}
use Rattle.trees.proofs.Joined.Cuts.{Right}

module _ (G : Given) (C : ℕ) (listed : Mem C G.listed) (one-taxon : T (single C)) where
  -- nothing but C lies inside C
  inside-only : (c : ℕ) → c ≢ 0 → T (inside c C) → c ≡ C
  inside-only c n h = inside-single c C one-taxon n h

  single-tree : Tree G C (one C)
  single-tree = record {
    listed = λ c h. Memᴰ.cast (eqb→eq c C h) listed;
    within = λ c h. subst (λ (x : ℕ). T (inside c x)) (eqb→eq c C h) (inside_refl c);
    top = eqb_refl C;
    leaves = λ t _ i. eq→eqb (2 ^ t) C (inside-only (2 ^ t) (taxon-nonzero t) i);
    laminar = λ a b h k. →nested a b (below (subst (λ (x : ℕ). T (inside a x)) (eqb→eq a C h ∙ sym (eqb→eq b C k)) (inside_refl a)));
    bounded = λ m h.
        or_l (single m) (leb (length (kids G (one C) m)) (G.degree - 1))
        (subst (λ (x : ℕ). T (single x)) (sym (eqb→eq m C h)) one-taxon);
  }

  single-only : (S : Fam) → Tree G C S → S ≡ one C
  single-only S tree =
      fam_ext S (one C) (λ c s. eq→eqb c C (inside-only c (G.sound c (tree.listed c s)).0 (tree.within c s)))
      (λ c e. subst (λ (x : ℕ). T (S x)) (sym (eqb→eq c C e)) tree.top)

  pub single-right : Right G C (one C ∷ [])
  single-right = record { sound = sound; complete = λ S tree. here (single-only S tree); once = (mem-nil, tt) }
    where
      sound : (S : Fam) → Mem S (one C ∷ []) → Tree G C S
      sound S (here e) = subst (Tree G C) (sym e) single-tree
      sound S (there m) = absurd (mem-nil m)
