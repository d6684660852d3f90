-- What rows without a score do to the weight of a set of scored clusters: nothing.
--     weight-scored      the scored rows alone give a set of scored clusters its weight
-- Assumes nothing.
use mathlib.Core.Path.{◌≡◌, refl, sym, ap, ◌∙◌}
use mathlib.Core.Bool.{Bool, true, false, cond, true≢false}
use mathlib.Core.List.{List, [], ◌∷◌}
use mathlib.Core.List.Memᴰ.{head as here}
use mathlib.Core.List.Memᴰ.{tail as there}
use mathlib.Core.List.{Memᴰ as Mem}
use Prim.Native.Nat.{ℕ}
use lib.Dec.{T}
use lib.IntN.{ℤ, ◌+ℤ◌}
use Rattle.laws.specs.Lists.{keep, keep_if, elem, Once}
use Rattle.laws.specs.Row.{Row, is_scored}
use Rattle.laws.proofs.Keep.{elem→}
use Rattle.laws.proofs.Once.{map_inj}
use Rattle.laws.proofs.Tests.{T_true, T_false}
use Rattle.trees.specs.Rows.{clusters_of, scored_in}
use Rattle.trees.specs.Heaviest.{weight_in, weight_of}
use Rattle.trees.proofs.Formula.Rows.{mem-scored}

-- where no unscored row passes a test, the scored rows alone are weighed
weight_passed : (p : ℕ → Bool) (rs : List Row) → ((r : Row) → Mem r rs → is_scored r ≡ false → p r.cluster ≡ false)
    → weight_in (keep is_scored rs) p ≡ weight_in rs p
weight_passed p [] h = refl
weight_passed p (r ∷ rs) h = go (is_scored r) (h r (here refl)) (weight_passed p rs (λ q m. h q (there m)))
  where
    go : (b : Bool) → (b ≡ false → p r.cluster ≡ false) → weight_in (keep is_scored rs) p ≡ weight_in rs p
        → weight_in (keep_if b r (keep is_scored rs)) p ≡ weight_in (r ∷ rs) p
    go true n ih = ap (λ (z : ℤ). cond (p r.cluster) (r.weight +ℤ z) z) ih
    go false n ih = ih ∙ sym (ap (λ (b : Bool). cond b (r.weight +ℤ weight_in rs p) (weight_in rs p)) (n refl))

pub weight-scored : (rs : List Row) → Once (clusters_of rs) → (xs : List ℕ) → ((c : ℕ) → Mem c xs → Mem c (scored_in rs))
    → weight_of (keep is_scored rs) xs ≡ weight_of rs xs
weight-scored rs once xs within = weight_passed (λ (c : ℕ). elem c xs) rs (λ r m e. T_false (elem r.cluster xs) (other r m e))
  where
    other : (r : Row) → Mem r rs → is_scored r ≡ false → T (elem r.cluster xs) → ⊥
    other r m e t =
        let q = mem-scored rs r.cluster (within r.cluster (elem→ r.cluster xs t)) in
        let same = map_inj (λ (x : Row). x.cluster) rs once q.0 r q.1 m q.3 in
        true≢false (sym (T_true (is_scored q.0) q.2) ∙ ap is_scored same ∙ e)
