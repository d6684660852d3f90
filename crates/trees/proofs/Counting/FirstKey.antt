-- The first key of several tuples, and the counts of tuples that all have a zero count.
--     Found, found           no tuple; or one whose key is the first, and no tuple's key comes before it
--     dead_sum, dead_many    where no tuple is without a zero count, the sum of counts is 0 and nothing stops it at the limit
-- Assumes nothing.
use mathlib.Core.Path.{◌≡◌, refl, sym, ap, ◌∙◌, subst}
use mathlib.Core.Logic.{◌⊎◌, inl, inr}
use mathlib.Core.Bool.{not, ◌&&◌}
use mathlib.Core.Option.{some}
use mathlib.Core.List.Memᴰ
use mathlib.Core.List.{List, [], ◌∷◌, map}
use mathlib.Core.List.Memᴰ.{head as here}
use mathlib.Core.List.Memᴰ.{not-nil as mem-nil}
use mathlib.Core.List.Memᴰ.{tail as there}
use mathlib.Core.List.{Memᴰ as Mem}
use Prim.Native.Nat.{ℕ, ◌*◌}
use native.Mathlib.Decide.{ℕ_discrete}
use native.Mathlib.Nat.{zero-mul, mul-zero}
use native.Mathlib.Omega.{arith}
use lib.Dec.{T, eqb, ltb, ltb→lt}
use Rattle.laws.specs.Lists.{keep, any}
use Rattle.laws.proofs.Keep.{mem-keep, any→}
use Rattle.laws.proofs.Tests.{T_and, and_T, T-or, →neq}
use Rattle.trees.specs.Beneath.{Beneath, Key, key_first, key_of, first_of_keys, first_key, times_counts, sum_counts, is_live, is_marked, is_many}
use Rattle.trees.specs.Solution.{top}
use Rattle.trees.proofs.Ties.KeyOrder.{key_irrefl}
use Rattle.trees.proofs.Counting.Keys.{top-cases, top_self, AtLeast, least_trans, least_antisym, least-top_l, least-top_r, least_of_first}

-- ---- the first key

record Leading (ks : List Key) : Type 0 where
  key : Key
  first : first_key ks ≡ some key
  mem : Mem key ks
  least : (x : Key) → Mem x ks → AtLeast key x

leading_more : (x : Key) (ks : List Key) → Leading ks → Leading (x ∷ ks)
leading_more x ks q = record {
  key = top x q.key;
  first = ap (first_of_keys x) q.first;
  mem = mem (top-cases x q.key);
  least = least;
}
  where
    mem : (top x q.key ≡ x) ⊎ (top x q.key ≡ q.key) → Mem (top x q.key) (x ∷ ks)
    mem (inl e) = here e
    mem (inr e) = there (subst (λ (k : Key). Mem k ks) (sym e) q.mem)

    least : (y : Key) → Mem y (x ∷ ks) → AtLeast (top x q.key) y
    least y (here e) = subst (AtLeast (top x q.key)) (sym e) (least-top_l x q.key)
    least y (there m) = least_trans (top x q.key) q.key y (least-top_r x q.key) (q.least y m)

leading : (x : Key) (ks : List Key) → Leading (x ∷ ks)
leading x [] = record { key = x; first = refl; mem = here refl; least = least }
  where
    least : (y : Key) → Mem y (x ∷ []) → AtLeast x y
    least y (here e) = subst (AtLeast x) (sym e) (top_self x)
    least y (there m) = absurd (mem-nil m)
leading x (y ∷ ks) = leading_more x (y ∷ ks) (leading y ks)

pub data Found (τs : List (List Beneath)) : Type 0 where
  nothing : τs ≡ [] → Found τs
  leads : (τ : List Beneath) → Mem τ τs → first_key (map key_of τs) ≡ some (key_of τ)
      → ((σ : List Beneath) → Mem σ τs → T (key_first (key_of σ) (key_of τ)) → ⊥) → Found τs

pub found : (τs : List (List Beneath)) → Found τs
found [] = nothing refl
found (ρ ∷ τs) = go (leading (key_of ρ) (map key_of τs))
  where
    none_before : (k x : Key) → AtLeast k x → T (key_first x k) → ⊥
    none_before k x l h = key_irrefl k (subst (λ (y : Key). T (key_first y k)) (least_antisym x k (least_of_first x k h) l) h)

    go : Leading (map key_of (ρ ∷ τs)) → Found (ρ ∷ τs)
    go q =
        let p = Memᴰ.of_map key_of (ρ ∷ τs) q.mem in
        leads p.0 p.1 (q.first ∙ ap some (sym p.2))
        (λ σ m. none_before (key_of p.0) (key_of σ)
        (subst (λ (k : Key). AtLeast k (key_of σ)) (sym p.2) (q.least (key_of σ) (Memᴰ.map key_of m))))

-- ---- tuples with a zero count

dead_times : (τ : List Beneath) → (T (is_live τ) → ⊥) → times_counts τ ≡ 0
dead_times [] n = absurd (n tt)
dead_times (e ∷ τ) n = go (ℕ_discrete e.val.count 0) (dead_times τ)
  where
    go : Dec (e.val.count ≡ 0) → ((T (is_live τ) → ⊥) → times_counts τ ≡ 0) → e.val.count * times_counts τ ≡ 0
    go (yes z) ih = ap (λ (k : ℕ). k * times_counts τ) z ∙ zero-mul (times_counts τ)
    go (no f) ih =
        ap (λ (k : ℕ). e.val.count * k) (ih (λ h. n (and_T (not (eqb e.val.count 0)) (is_live τ) (→neq e.val.count 0 f) h)))
        ∙ mul-zero e.val.count

dead_each : (τs : List (List Beneath)) → ((τ : List Beneath) → Mem τ τs → T (is_live τ) → ⊥) → sum_counts τs ≡ 0
dead_each [] f = refl
dead_each (τ ∷ τs) f = omega (arith, dead_times τ (f τ (here refl)), dead_each τs (λ σ m. f σ (there m)))

module _ (τs : List (List Beneath)) (e : keep is_live τs ≡ []) where
  none-live : (τ : List Beneath) → Mem τ τs → T (is_live τ) → ⊥
  none-live τ m h = mem-nil (subst (Mem τ) e (mem-keep is_live τs m h))

  pub dead_sum : sum_counts τs ≡ 0
  dead_sum = dead_each τs none-live

  pub dead_many : (limit : ℕ) → T (is_many limit τs) → ⊥
  dead_many limit h = go (T-or (is_marked τs) (ltb limit (sum_counts τs)) h)
    where
      go : T (is_marked τs) ⊎ T (ltb limit (sum_counts τs)) → ⊥
      go (inl k) =
          let q = any→ (λ (τ : List Beneath). is_live τ && any (λ (x : Beneath). eqb x.val.mark 1) τ) τs k in
          none-live q.0 q.1 (T_and (is_live q.0) (any (λ (x : Beneath). eqb x.val.mark 1) q.0) q.2).0
      go (inr k) = omega (arith, ltb→lt limit (sum_counts τs) k, dead_sum)
