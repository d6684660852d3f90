-- Clusters that pass the test of a tree have the facts that drawing rests on.
--     tested_tree     from the test, of clusters of which none is empty or stands twice
-- Assumes nothing.
use mathlib.Core.Path.{◌≡◌, sym, subst}
use mathlib.Core.Logic.{◌≢◌}
use mathlib.Core.List.{List, Memᴰ as Mem}
use Prim.Native.Nat.{ℕ, ◌^◌, ◌≤◌, ◌<◌}
use lib.Dec.{T}
use Rattle.laws.specs.Lists.{keep, Once}
use Rattle.laws.proofs.Keep.{keep_all, elem→, →elem}
use Rattle.trees.specs.Tree.{is_tree}
use Rattle.trees.proofs.Sets.TreeFacts.{Given}
use Rattle.trees.proofs.Joined.TreeTest.{fam_of, test→tree}
use Rattle.shapes.specs.Nests.{TreeOn}
use Rattle.shapes.proofs.Theorems.{tree_on}

-- ---- the tree

module _ (w d C : ℕ) (xs : List ℕ) (o : Once xs) (s : (c : ℕ) → Mem c xs → (c ≢ 0) × (c < 2 ^ w)) where
  abbrev asked : Given
  asked = record { width = w; degree = d; listed = xs; sound = s; once = o }

  members-all : keep (fam_of asked xs) xs ≡ xs
  members-all = keep_all (fam_of asked xs) xs (λ c m. →elem c xs m)

  pub tested_tree : w ≤ 64 → T (is_tree w d C xs) → TreeOn xs C
  tested_tree fits h =
      let t = subst (λ (l : List ℕ). T (is_tree w d C l)) (sym members-all) h in
      subst (λ (l : List ℕ). TreeOn l C) members-all
      (tree_on asked fits C (fam_of asked xs) (test→tree asked C (fam_of asked xs) (λ c k. elem→ c xs k) t))
