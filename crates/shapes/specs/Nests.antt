-- What drawing a set of clusters rests on: the facts of a tree on C, its degree left aside. Laws: `proofs/Nests.antt`; that trees have
-- them: `proofs/Theorems.antt`.
--     Nests xs        clusters that nest, none twice, with the single taxa of each
--     TreeOn xs C     and they have the top C
-- Assumes nothing.
use mathlib.Core.List.{List, Memᴰ as Mem}
use Rattle.std.specs.Prelude.{◌≢◌, ℕ, ◌^◌, ◌<◌, T}
use Rattle.laws.specs.Cluster.{inside, nested}
use Rattle.laws.specs.Lists.{Once}

pub record Nests (xs : List ℕ) : Type 0 where
  pub once : Once xs
  pub nonzero : (c : ℕ) → Mem c xs → c ≢ 0
  pub small : (c : ℕ) → Mem c xs → c < 2 ^ 64
  pub nest : (a b : ℕ) → Mem a xs → Mem b xs → T (nested a b)
  pub leaves : (c t : ℕ) → Mem c xs → T (inside (2 ^ t) c) → Mem (2 ^ t) xs

pub record TreeOn (xs : List ℕ) (C : ℕ) : Type 0 where
  pub nests : Nests xs
  pub top : Mem C xs
  pub within : (c : ℕ) → Mem c xs → T (inside c C)
