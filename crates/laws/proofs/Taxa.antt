-- The number of taxa of a cluster, one-taxon clusters, and the highest taxon.
--     taxa-mem, mem-taxa        the one-taxon clusters of a width
--     taxa-length, taxa-falls   how many there are, and that they fall
--     size-taxon, size_pos      one taxon has size 1, and what isn't nothing has 1 at least
--     size_part, size-lt     a part and the rest, and a part that isn't all
--     single→, →single          exactly one taxon: a power of two
--     inside-single             what lies inside a one-taxon cluster is that cluster
--     highest-le, highest_gt    2 ^ highest c is the largest power of two that c reaches
--     highest-only              and no other taxon is
-- Assumes nothing.
use mathlib.Core.Path.{◌≡◌, refl, sym, ap, ap₂, ◌∙◌, subst}
use mathlib.Core.Logic.{◌≢◌}
use mathlib.Core.List.Memᴰ.{head as here}
use mathlib.Core.List.Memᴰ.{tail as there}
use mathlib.Core.List.{◌∷◌, Memᴰ as Mem}
use Prim.Native.Nat.{ℕ, zero, suc, ◌+◌, ◌-◌, ◌/◌, ◌%◌, ◌^◌, ◌≤◌, ◌<◌}
use native.Mathlib.Decide.{ℕ_discrete, dec_le}
use native.Mathlib.Nat.{min-le_left, min-le_right, mod-lt, le_refl}
use native.Mathlib.Omega.{arith}
use lib.Arith.{bin_ind}
use lib.Bits.{bit_and, and_step, and_le_r}
use lib.Count.{ones, ones_in, ones_step}
use lib.Dec.{T, eqb→eq, lit<}
use lib.ListN.{length}
use lib.Pow.{pow_pos, pow_mono, pow-lt}
use Rattle.laws.specs.Cluster.{inside, strict, size, single, taxa, halvings, highest}
use Rattle.laws.specs.Orders.{Falling}
use Rattle.laws.proofs.Tests.{eq→eqb}
use Rattle.laws.proofs.Cluster.{inside→, inside_antisym, le_of_inside, inside_of_has, strict→}
use Rattle.laws.proofs.Digits.{Has, has_of_nonzero, pow_has}

-- ---- the one-taxon clusters of a width

pub taxa-mem : (w t : ℕ) → t < w → Mem (2 ^ t) (taxa w)
taxa-mem zero t h = absurd (omega arith)
taxa-mem (suc w) t h = go (ℕ_discrete t w) (λ k. taxa-mem w t k)
  where
    go : Dec (t ≡ w) → (t < w → Mem (2 ^ t) (taxa w)) → Mem (2 ^ t) (2 ^ w ∷ taxa w)
    go (yes e) r = here (ap (λ (x : ℕ). 2 ^ x) e)
    go (no n) r = there (r (omega arith))

pub mem-taxa : (w u : ℕ) → Mem u (taxa w) → (t : ℕ) × (t < w) × (u ≡ 2 ^ t)
mem-taxa zero u x' = elim x' [ ]
mem-taxa (suc w) u (here e) = (w, omega arith, e)
mem-taxa (suc w) u (there m) = let q = mem-taxa w u m in (q.0, omega (arith, q.1), q.2)

pub taxa-length : (w : ℕ) → length (taxa w) ≡ w
taxa-length zero = refl
taxa-length (suc w) = ap suc (taxa-length w)

pub taxa-falls : (w : ℕ) → Falling (taxa w)
taxa-falls zero = tt
taxa-falls (suc w) = (λ u m. let q = mem-taxa w u m in rw q.2 (pow-lt q.1), taxa-falls w)

-- ---- how many taxa

size-zero : size 0 ≡ 0
unfolding ones ones_in
size-zero = refl

size-one : size 1 ≡ 1
unfolding ones ones_in
size-one = refl

pub size-taxon : (t : ℕ) → size (2 ^ t) ≡ 1
size-taxon zero = size-one
size-taxon (suc t) = ones_step (2 ^ suc t) ∙ ap₂ (λ (x y : ℕ). x + size y) even half ∙ omega (arith, size-taxon t)
  where
    even : 2 ^ suc t % 2 ≡ 0
    even = omega arith

    half : 2 ^ suc t / 2 ≡ 2 ^ t
    half = omega arith

zero_of_size : (c : ℕ) → size c ≡ 0 → c ≡ 0
zero_of_size =
    bin_ind (λ (c : ℕ). size c ≡ 0 → c ≡ 0) (λ e. refl)
    (λ c ih e. omega (arith, ones_step c, ih (omega (arith, ones_step c, e)), e))

pub size_pos : (c : ℕ) → c ≢ 0 → 1 ≤ size c
size_pos c n = go (size c) refl
  where
    go : (k : ℕ) → size c ≡ k → 1 ≤ k
    go zero e = absurd (n (zero_of_size c e))
    go (suc k) e = omega arith

taxon_of_size : (c : ℕ) → size c ≡ 1 → (t : ℕ) × (c ≡ 2 ^ t)
taxon_of_size =
    bin_ind (λ (c : ℕ). size c ≡ 1 → (t : ℕ) × (c ≡ 2 ^ t)) (λ e. absurd (omega (arith, e, size-zero))) step
  where
    step : (c : ℕ) → (size (c / 2) ≡ 1 → (t : ℕ) × (c / 2 ≡ 2 ^ t)) → size c ≡ 1 → (t : ℕ) × (c ≡ 2 ^ t)
    step c ih e = go (c % 2) refl (mod-lt c (lit< tt))
      where
        go : (x : ℕ) → c % 2 ≡ x → x < 2 → (t : ℕ) × (c ≡ 2 ^ t)
        go zero f l = let q = ih (omega (arith, ones_step c, e, f)) in (suc q.0, omega (arith, q.1, f))
        go (suc zero) f l = (0, omega (arith, f, zero_of_size (c / 2) (omega (arith, ones_step c, e, f))))
        go (suc (suc x)) f l = absurd (omega arith)

pub single→ : (c : ℕ) → T (single c) → (t : ℕ) × (c ≡ 2 ^ t)
unfolding single
single→ c h = taxon_of_size c (eqb→eq (size c) 1 h)

pub →single : (t : ℕ) → T (single (2 ^ t))
unfolding single
→single t = eq→eqb (size (2 ^ t)) 1 (size-taxon t)

-- a one-taxon cluster has nothing inside it but itself
inside-taxon : (t a : ℕ) → a ≢ 0 → T (inside a (2 ^ t)) → a ≡ 2 ^ t
inside-taxon t a n h = inside_antisym a (2 ^ t) h (inside_of_has t a (go (has_of_nonzero (suc t) a lt n)))
  where
    lt : a < 2 ^ suc t
    lt = omega (arith, le_of_inside a (2 ^ t) h, pow_pos t)

    go : (s : ℕ) × (s < suc t) × Has a s → Has a t
    go p = subst (Has a) (pow_has t p.0 (inside→ a (2 ^ t) h p.0 p.2)) p.2

pub inside-single : (a c : ℕ) → T (single c) → a ≢ 0 → T (inside a c) → a ≡ c
inside-single a c s n h =
    let q = single→ c s in
    inside-taxon q.0 a n (subst (λ (x : ℕ). T (inside a x)) q.1 h) ∙ sym q.1

-- ---- a part of a cluster, and the rest

-- a's taxa are b's too: so are those of their halves, and a's lowest digit is b's
inside_half : (a b : ℕ) → bit_and a b ≡ a → (bit_and (a / 2) (b / 2) ≡ a / 2) × (a % 2 ≤ b % 2)
inside_half a b h =
    let s = and_step a b in
    let l = min-le_left (a % 2) (b % 2) in
    let r = min-le_right (a % 2) (b % 2) in
    (omega (arith, s, l, r, h), omega (arith, s, l, r, h))

size_rest : (a b : ℕ) → bit_and a b ≡ a → size a + size (b - a) ≡ size b
size_rest = bin_ind Splits (λ b h. omega (arith, size-zero, ap size (let q : b - 0 ≡ b = omega arith in q))) step
  where
    Splits : ℕ → Type 0
    Splits a = (b : ℕ) → bit_and a b ≡ a → size a + size (b - a) ≡ size b

    step : (a : ℕ) → Splits (a / 2) → Splits a
    step a ih b h =
        let p = inside_half a b h in
        let le : a ≤ b = subst (λ (n : ℕ). n ≤ b) h (and_le_r a b) in
        let e : (b - a) / 2 ≡ b / 2 - a / 2 = omega (arith, p.1) in
        let f : (b - a) % 2 ≡ b % 2 - a % 2 = omega (arith, p.1) in
        let g : size (b - a) ≡ (b % 2 - a % 2) + size (b / 2 - a / 2) = ones_step (b - a) ∙ ap₂ (λ (m n : ℕ). m + size n) f e in
        omega (arith, ones_step a, ones_step b, g, ih (b / 2) p.0, p.1)

-- the taxa of a part and of what is left are those of the whole
pub size_part : (a b : ℕ) → T (inside a b) → size a + size (b - a) ≡ size b
unfolding inside
size_part a b h = size_rest a b (eqb→eq (bit_and a b) a h)

pub size-lt : (a b : ℕ) → T (strict a b) → size a < size b
size-lt a b h =
    let q = strict→ a b h in
    let n : b - a ≢ 0 = λ e. q.1 (omega (arith, le_of_inside a b q.0)) in
    omega (arith, size_part a b q.0, size_pos (b - a) n)

-- ---- the highest taxon

halvings-bounds : (n c : ℕ) → c ≤ n → 0 < c → (2 ^ halvings n c ≤ c) × (c < 2 ^ suc (halvings n c))
unfolding halvings
halvings-bounds zero c h p = absurd (omega arith)
halvings-bounds (suc n) zero h p = absurd (omega arith)
halvings-bounds (suc n) (suc zero) h p = (omega arith, omega arith)
halvings-bounds (suc n) (suc (suc c)) h p = up (halvings-bounds n (suc (suc c) / 2) (omega arith) (omega arith))
  where
    k : ℕ
    k = halvings n (suc (suc c) / 2)

    up : (2 ^ k ≤ suc (suc c) / 2) × (suc (suc c) / 2 < 2 ^ suc k) → (2 ^ suc k ≤ suc (suc c)) × (suc (suc c) < 2 ^ suc (suc k))
    up q = (omega (arith, q.0), omega (arith, q.1))

pub highest-le : (c : ℕ) → 0 < c → 2 ^ highest c ≤ c
highest-le c p = (halvings-bounds c c (le_refl c) p).0

pub highest_gt : (c : ℕ) → 0 < c → c < 2 ^ suc (highest c)
highest_gt c p = (halvings-bounds c c (le_refl c) p).1

pub highest-only : (c t : ℕ) → 2 ^ t ≤ c → c < 2 ^ suc t → highest c ≡ t
highest-only c t h k = go (dec_le (suc (highest c)) t) (dec_le (suc t) (highest c))
  where
    p : 0 < c
    p = omega (arith, pow_pos t)

    go : Dec (suc (highest c) ≤ t) → Dec (suc t ≤ highest c) → highest c ≡ t
    go (yes l) b = absurd (omega (arith, highest_gt c p, pow_mono l))
    go (no f) (yes l) = absurd (omega (arith, highest-le c p, pow_mono l))
    go (no f) (no g) = omega arith
