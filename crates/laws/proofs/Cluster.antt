-- Inside, apart, union, and what is left of a cluster without a part of it. All that the proofs about trees know of clusters is here
-- and in `Taxa.antt`.
--     inside→, →inside, apart→, →apart, inside_of_has, has_of_inside     passed on from `Inside.antt`
--     inside_refl, inside_trans, inside_antisym     inside is an order
--     taxa-only                              a cluster is told by its taxa
--     le_of_inside                           a part is no larger a number
--     zero-inside, zero_of_inside            nothing is inside every cluster, and has nothing else inside
--     inside_of_taxa, taxon-nonzero          inside, by the taxa of a width; a taxon isn't nothing
--     apart_sym, apart-zero, zero_of_apart   apart either way; nothing is apart from all, and nothing else from itself
--     apart_of_inside, apart-union           parts of what is apart are apart, and so is a union of such
--     inside-union_l, inside-union_r, union-inside, taxon_of_union     into a union, out of it, and a union inside
--     union-apart, union-lt                  a union of what is apart is the sum; below e, if both are below e and apart from it
--     rest_apart, rest_inside, inside_rest, union_rest, rest_union      R less a part of it, and a union less one of the two
--     strict→, →strict, Nest, nested→, →nested      strictly inside, and nested or apart, out of the test and into it
--     apart-union_of, apart_of_union_of, inside-union_of, union_of-inside, taxon_of_union_of, union_of-lt      the same of unions of lists
--     two_parts                              a union of clusters other than the union has two at least
-- Assumes nothing.
use mathlib.Core.Path.{◌≡◌, refl, sym, ap, ap₂, ◌∙◌, subst, subst₂}
use mathlib.Core.Logic.{◌⊎◌, inl, inr, ◌≢◌, ◌↔◌}
use mathlib.Core.Bool.{not, ◌||◌}
use mathlib.Core.List.Memᴰ.{head as here}
use mathlib.Core.List.Memᴰ.{tail as there}
use mathlib.Core.List.{List, [], ◌∷◌, Memᴰ as Mem}
use Prim.Native.Nat.{ℕ, ◌+◌, ◌-◌, ◌/◌, ◌^◌, ◌≤◌, ◌<◌, zero-le, suc-le-suc}
use native.Mathlib.Decide.{ℕ_discrete}
use native.Mathlib.Omega.{arith}
use lib.Arith.{bin_ind}
use lib.Bits.{bit_and, bit_or, bit_xor, and_shr, or_shr, or_zero_r, and_le_r, and_comm, xor_add_and, or_disjoint}
use lib.ListN.{length}
use lib.Dec.{T, eqb, eqb→eq}
use lib.Pow.{pow_pos}
use Rattle.laws.specs.Cluster.{inside, strict, apart, nested, union_of}
use Rattle.laws.specs.Lists.{every}
use Rattle.laws.proofs.Tests.{T_and, and_T, T-or, or_l, or_r, eq→eqb, neq→, →neq}
pub use Rattle.laws.proofs.Inside.{inside→, →inside, apart→, →apart, inside_of_has, has_of_inside}
use Rattle.laws.proofs.Digits.{Has, has_ext, or_has, has_or_l, has_or_r, not_has_zero}
use Rattle.laws.proofs.Digits.{has_lt, xor_digit}

pub inside_refl : (a : ℕ) → T (inside a a)
inside_refl a = →inside a a (λ t x. x)

pub inside_trans : (a b c : ℕ) → T (inside a b) → T (inside b c) → T (inside a c)
inside_trans a b c h k = →inside a c (λ t x. inside→ b c k t (inside→ a b h t x))

pub inside_antisym : (a b : ℕ) → T (inside a b) → T (inside b a) → a ≡ b
inside_antisym a b h k = has_ext a b (inside→ a b h) (inside→ b a k)

pub taxa-only : (a b : ℕ) → ((i : ℕ) → T (inside (2 ^ i) a) ↔ T (inside (2 ^ i) b)) → a ≡ b
taxa-only a b h =
    has_ext a b (λ t k. has_of_inside t b ((h t).0 (inside_of_has t a k))) (λ t k. has_of_inside t a ((h t).1 (inside_of_has t b k)))

pub le_of_inside : (a b : ℕ) → T (inside a b) → a ≤ b
unfolding inside
le_of_inside a b h = subst (λ (x : ℕ). x ≤ b) (eqb→eq (bit_and a b) a h) (and_le_r a b)

pub zero_of_inside : (a : ℕ) → T (inside a 0) → a ≡ 0
zero_of_inside a h = omega (arith, le_of_inside a 0 h)

pub apart_sym : (a b : ℕ) → T (apart a b) → T (apart b a)
apart_sym a b h = →apart b a (λ t x y. apart→ a b h t y x)

pub apart_of_inside : (a b a' b' : ℕ) → T (apart a b) → T (inside a' a) → T (inside b' b) → T (apart a' b')
apart_of_inside a b a' b' h i j = →apart a' b' (λ t x y. apart→ a b h t (inside→ a' a i t x) (inside→ b' b j t y))

pub zero_of_apart : (a : ℕ) → T (apart a a) → a ≡ 0
zero_of_apart a h = has_ext a 0 (λ t x. absurd (apart→ a a h t x x)) (λ t x. absurd (not_has_zero t x))

pub inside-union_l : (a b : ℕ) → T (inside a (bit_or a b))
inside-union_l a b = →inside a (bit_or a b) (λ t x. has_or_l a b t x)

pub inside-union_r : (a b : ℕ) → T (inside b (bit_or a b))
inside-union_r a b = →inside b (bit_or a b) (λ t x. has_or_r a b t x)

pub union-inside : (a b c : ℕ) → T (inside a c) → T (inside b c) → T (inside (bit_or a b) c)
union-inside a b c h k = →inside (bit_or a b) c (λ t x. go t (or_has a b t x))
  where
    go : (t : ℕ) → Has a t ⊎ Has b t → Has c t
    go t (inl x) = inside→ a c h t x
    go t (inr x) = inside→ b c k t x

pub taxon_of_union : (t a b : ℕ) → T (inside (2 ^ t) (bit_or a b)) → T (inside (2 ^ t) a) ⊎ T (inside (2 ^ t) b)
taxon_of_union t a b h = go (or_has a b t (has_of_inside t (bit_or a b) h))
  where
    go : Has a t ⊎ Has b t → T (inside (2 ^ t) a) ⊎ T (inside (2 ^ t) b)
    go (inl x) = inl (inside_of_has t a x)
    go (inr x) = inr (inside_of_has t b x)

-- inside, by the taxa of a width
pub inside_of_taxa : (w a b : ℕ) → a < 2 ^ w → ((t : ℕ) → t < w → T (inside (2 ^ t) a) → T (inside (2 ^ t) b)) → T (inside a b)
inside_of_taxa w a b h f = →inside a b (λ t x. has_of_inside t b (f t (has_lt w a t h x) (inside_of_has t a x)))

pub zero-inside : (c : ℕ) → T (inside 0 c)
unfolding inside
zero-inside c = tt

pub taxon-nonzero : (t : ℕ) → 2 ^ t ≢ 0
taxon-nonzero t e = omega (arith, pow_pos t, e)

less_xor : (c R : ℕ) → T (inside c R) → bit_xor R c ≡ R - c
unfolding inside
less_xor c R h = omega (arith, xor_add_and R c, and_comm R c ∙ eqb→eq (bit_and c R) c h)

pub rest_apart : (c R : ℕ) → T (inside c R) → T (apart c (R - c))
rest_apart c R h = subst (λ (x : ℕ). T (apart c x)) (less_xor c R h) (→apart c (bit_xor R c) bad)
  where
    bad : (t : ℕ) → Has c t → Has (bit_xor R c) t → ⊥
    bad t x y =
        let z : ◌≡◌ {A = ℕ} 0 1 = sym (ap₂ bit_xor (inside→ c R h t x).one x.one) ∙ sym (xor_digit R c t) ∙ y.one in
        omega arith

pub union-apart : (a b : ℕ) → T (apart a b) → bit_or a b ≡ a + b
unfolding apart
union-apart a b k = or_disjoint a b (eqb→eq (bit_and a b) 0 k)

pub union_rest : (c R : ℕ) → T (inside c R) → bit_or c (R - c) ≡ R
union_rest c R h = union-apart c (R - c) (rest_apart c R h) ∙ omega (arith, le_of_inside c R h)

-- ---- disjoint clusters: what is below e stays below it when joined
and_half : (a b : ℕ) → bit_and a b ≡ 0 → bit_and (a / 2) (b / 2) ≡ 0
and_half a b e = sym (and_shr a b 1) ∙ ap (λ (x : ℕ). x / 2) e

half_apart : (a b : ℕ) → T (apart a b) → T (apart (a / 2) (b / 2))
unfolding apart
half_apart a b h = eq→eqb _ _ (and_half a b (eqb→eq (bit_and a b) 0 h))

half_less : (x e : ℕ) → T (apart e x) → x < e → e / 2 ≢ 0 → x / 2 < e / 2
half_less x e a l n = go (ℕ_discrete (x / 2) (e / 2))
  where
    go : Dec (x / 2 ≡ e / 2) → x / 2 < e / 2
    go (yes q) = absurd (n (zero_of_apart (e / 2) (subst (λ (z : ℕ). T (apart (e / 2) z)) q (half_apart e x a))))
    go (no f) = omega arith

or_half : (x y : ℕ) → bit_or x y / 2 ≡ bit_or (x / 2) (y / 2)
or_half x y = or_shr x y 1

pub union-lt : (e x y : ℕ) → T (apart e x) → T (apart e y) → x < e → y < e → bit_or x y < e
union-lt =
    bin_ind Under (λ x y a b l m. absurd (omega arith)) (λ e ih x y a b l m.
    go e x y l m (ℕ_discrete (e / 2) 0)
    (λ n. ih (x / 2) (y / 2) (half_apart e x a) (half_apart e y b) (half_less x e a l n) (half_less y e b m n)))
  where
    Under : ℕ → Type 0
    Under e = (x y : ℕ) → T (apart e x) → T (apart e y) → x < e → y < e → bit_or x y < e

    go : (e x y : ℕ) → x < e → y < e → Dec (e / 2 ≡ 0) → (e / 2 ≢ 0 → bit_or (x / 2) (y / 2) < e / 2) → bit_or x y < e
    go e x y l m (yes q) ih =
        let x-zero : 0 ≡ x = omega arith in
        let y-zero : 0 ≡ y = omega arith in
        let pos : 0 < e = omega arith in
        subst₂ (λ (u v : ℕ). bit_or u v < e) x-zero y-zero pos
    go e x y l m (no n) ih = omega (arith, ih n, or_half x y)

pub rest_inside : (c R : ℕ) → T (inside c R) → T (inside (R - c) R)
rest_inside c R h = subst (λ (x : ℕ). T (inside (R - c) x)) (union_rest c R h) (inside-union_r c (R - c))

-- what is inside R and apart from a part of it
pub inside_rest : (a c R : ℕ) → T (inside a R) → T (inside c R) → T (apart a c) → T (inside a (R - c))
inside_rest a c R h i k = →inside a (R - c) (λ t x. go t x (or_has c (R - c) t (rw (union_rest c R i) (inside→ a R h t x))))
  where
    go : (t : ℕ) → Has a t → Has c t ⊎ Has (R - c) t → Has (R - c) t
    go t x (inl y) = absurd (apart→ a c k t x y)
    go t x (inr y) = y

pub rest_union : (a b : ℕ) → T (apart a b) → bit_or a b - a ≡ b
rest_union a b h = omega (arith, union-apart a b h)

-- ---- strictly inside, nested

pub strict→ : (a b : ℕ) → T (strict a b) → T (inside a b) × (a ≢ b)
strict→ a b h = let q = T_and (inside a b) (not (eqb a b)) h in (q.0, neq→ a b q.1)

pub →strict : (a b : ℕ) → T (inside a b) → a ≢ b → T (strict a b)
→strict a b h n = and_T (inside a b) (not (eqb a b)) h (→neq a b n)

pub data Nest (a b : ℕ) : Type 0 where
  below : T (inside a b) → Nest a b
  above : T (inside b a) → Nest a b
  away : T (apart a b) → Nest a b

pub nested→ : (a b : ℕ) → T (nested a b) → Nest a b
nested→ a b h = go (T-or (inside a b || inside b a) (apart a b) h)
  where
    two : T (inside a b) ⊎ T (inside b a) → Nest a b
    two (inl x) = below x
    two (inr x) = above x

    go : T (inside a b || inside b a) ⊎ T (apart a b) → Nest a b
    go (inl x) = two (T-or (inside a b) (inside b a) x)
    go (inr x) = away x

pub →nested : (a b : ℕ) → Nest a b → T (nested a b)
→nested a b (below x) = or_l (inside a b || inside b a) (apart a b) (or_l (inside a b) (inside b a) x)
→nested a b (above x) = or_l (inside a b || inside b a) (apart a b) (or_r (inside a b) (inside b a) x)
→nested a b (away x) = or_r (inside a b || inside b a) (apart a b) x

-- ---- apart from several

pub apart-union : (c a b : ℕ) → T (apart c a) → T (apart c b) → T (apart c (bit_or a b))
apart-union c a b h k = →apart c (bit_or a b) (λ t x y. go t x (or_has a b t y))
  where
    go : (t : ℕ) → Has c t → Has a t ⊎ Has b t → ⊥
    go t x (inl y) = apart→ c a h t x y
    go t x (inr y) = apart→ c b k t x y

pub apart-zero : (c : ℕ) → T (apart c 0)
apart-zero c = →apart c 0 (λ t x y. not_has_zero t y)

pub apart-union_of : (c : ℕ) (cs : List ℕ) → T (every (λ (x : ℕ). apart c x) cs) → T (apart c (union_of cs))
apart-union_of c [] h = apart-zero c
apart-union_of c (x ∷ xs) h =
    let q = T_and (apart c x) (every (λ (z : ℕ). apart c z) xs) h in
    apart-union c x (union_of xs) q.0 (apart-union_of c xs q.1)

-- ---- unions of lists

pub inside-union_of : (cs : List ℕ) (c : ℕ) → Mem c cs → T (inside c (union_of cs))
inside-union_of [] c x' = elim x' [ ]
inside-union_of (x ∷ xs) c (here e) = subst (λ (y : ℕ). T (inside y (bit_or x (union_of xs)))) (sym e) (inside-union_l x (union_of xs))
inside-union_of (x ∷ xs) c (there m) =
    inside_trans c (union_of xs) (bit_or x (union_of xs)) (inside-union_of xs c m) (inside-union_r x (union_of xs))

-- what is apart from a union is apart from each of its clusters
pub apart_of_union_of : (c : ℕ) (cs : List ℕ) → T (apart c (union_of cs)) → (x : ℕ) → Mem x cs → T (apart c x)
apart_of_union_of c cs h x m = apart_of_inside c (union_of cs) c x h (inside_refl c) (inside-union_of cs x m)

pub union_of-inside : (cs : List ℕ) (X : ℕ) → ((c : ℕ) → Mem c cs → T (inside c X)) → T (inside (union_of cs) X)
union_of-inside [] X f = zero-inside X
union_of-inside (c ∷ cs) X f = union-inside c (union_of cs) X (f c (here refl)) (union_of-inside cs X (λ x m. f x (there m)))

pub taxon_of_union_of : (cs : List ℕ) (t : ℕ) → T (inside (2 ^ t) (union_of cs)) → (c : ℕ) × Mem c cs × T (inside (2 ^ t) c)
taxon_of_union_of [] t h = absurd (taxon-nonzero t (zero_of_inside (2 ^ t) h))
taxon_of_union_of (c ∷ cs) t h = go (taxon_of_union t c (union_of cs) h) (λ k. taxon_of_union_of cs t k)
  where
    In : List ℕ → Type 0
    In l = (x : ℕ) × Mem x l × T (inside (2 ^ t) x)

    go : T (inside (2 ^ t) c) ⊎ T (inside (2 ^ t) (union_of cs)) → (T (inside (2 ^ t) (union_of cs)) → In cs) → In (c ∷ cs)
    go (inl i) r = (c, here refl, i)
    go (inr i) r = let q = r i in (q.0, there q.1, q.2)

pub two_parts : (cs : List ℕ) (C : ℕ) → union_of cs ≡ C → C ≢ 0 → ((c : ℕ) → Mem c cs → c ≢ C) → 2 ≤ length cs
two_parts [] C e n f = absurd (n (sym e))
two_parts (c ∷ []) C e n f = absurd (f c (here refl) (sym (or_zero_r c) ∙ e))
two_parts (c ∷ c' ∷ cs) C e n f = suc-le-suc (suc-le-suc zero-le)

-- clusters below e and apart from it have a union below it
pub union_of-lt : (e : ℕ) → 0 < e → (cs : List ℕ) → ((c : ℕ) → Mem c cs → T (apart e c) × (c < e))
    → T (apart e (union_of cs)) × (union_of cs < e)
union_of-lt e p [] f = (apart-zero e, p)
union_of-lt e p (c ∷ cs) f =
    let h = f c (here refl) in
    let r = union_of-lt e p cs (λ x m. f x (there m)) in
    (apart-union e c (union_of cs) h.0 r.0, union-lt e c (union_of cs) h.0 r.0 h.1 r.1)
