-- Numbers as bytes and back, over any number of bytes k.
--     low_first_back       the k bytes of a number that they hold make that number
--     number_at_back       the bytes of the number of k bytes are those bytes
--     number_at-lt         k bytes hold a number below byte_values ^ k
--     low_first-small      the bytes of a number of one byte: itself, then zeros
--     low_first-length     how many they are
--     number_at-front, number_at_behind, get_d_behind     a number or a byte in bytes that have others behind them, and in those behind
--     byte_values-pow      k bytes have 8 * k bits
--     word_is, stores_are     four bytes as the code reads and stores them
-- Assumes nothing.
use mathlib.Core.Path.{◌≡◌, refl, sym, ap, ap₂, ◌∙◌}
use mathlib.Core.List.{List, [], ◌∷◌, ◌++◌}
use Prim.Native.Nat.{ℕ, zero, suc, ◌+◌, ◌*◌, ◌/◌, ◌%◌, ◌^◌, ◌≤◌, ◌<◌}
use native.Mathlib.Nat.{pow-suc}
use native.Mathlib.Numerals.{add-one}
use native.Mathlib.Omega.{arith}
use lib.ListN.{length, get_or, set, take, drop, get_or-append}
use lib.Pow.{pow-add}
use lib.Seq.{drop-cons, sets, get_or-append-add}
use Rattle.cluster.specs.Bytes.{byte_values, word_bytes, number_at, low_first}

-- ---- there and back

-- a byte put in front moves every place by one
number_at-cons : (k : ℕ) (b : ℕ) (l : List ℕ) (i : ℕ) → number_at k (b ∷ l) (suc i) ≡ number_at k l i
number_at-cons zero b l i = refl
number_at-cons (suc k) b l i = ap (λ (n : ℕ). get_or l i 0 + byte_values * n) (number_at-cons k b l (suc i))

rest_lt : (k n : ℕ) → n < byte_values ^ suc k → n / byte_values < byte_values ^ k
rest_lt k n h = omega (arith, pow-suc byte_values k)

pub low_first_back : (k n : ℕ) → n < byte_values ^ k → number_at k (low_first k n) 0 ≡ n
low_first_back zero n h = omega arith
low_first_back (suc k) n h =
    let rest : number_at k (low_first (suc k) n) 1 ≡ n / byte_values =
    number_at-cons k (n % byte_values) (low_first k (n / byte_values)) 0 ∙ low_first_back k (n / byte_values) (rest_lt k n h) in
    omega (arith, rest)

module _ (l : List ℕ) (byte : (i : ℕ) → get_or l i 0 < byte_values) where
  pub number_at-lt : (k i : ℕ) → number_at k l i < byte_values ^ k
  number_at-lt zero i = omega arith
  number_at-lt (suc k) i = omega (arith, byte i, number_at-lt k (suc i), pow-suc byte_values k)

  pub number_at_back : (k i : ℕ) → i + k ≤ length l → low_first k (number_at k l i) ≡ take k (drop i l)
  number_at_back zero i h = refl
  number_at_back (suc k) i h =
      let low : number_at (suc k) l i % byte_values ≡ get_or l i 0 = omega (arith, byte i) in
      let high : number_at (suc k) l i / byte_values ≡ number_at k l (suc i) = omega (arith, byte i) in
      ap₂ (λ (b n : ℕ). b ∷ low_first k n) low high
      ∙ ap (λ (s : List ℕ). get_or l i 0 ∷ s) (number_at_back k (suc i) (omega arith))
      ∙ ap (take (suc k)) (sym (drop-cons l i 0 (omega arith)))

pub low_first-small : (k n : ℕ) → n < byte_values → low_first (suc k) n ≡ n ∷ low_first k 0
low_first-small k n h =
    let low : n % byte_values ≡ n = omega arith in
    let high : n / byte_values ≡ 0 = omega arith in
    ap₂ (λ (b m : ℕ). b ∷ low_first k m) low high

pub low_first-length : (k n : ℕ) → length (low_first k n) ≡ k
low_first-length zero n = refl
low_first-length (suc k) n = ap suc (low_first-length k (n / byte_values))

pub byte_values-pow : (k : ℕ) → 2 ^ (8 * k) ≡ byte_values ^ k
byte_values-pow zero = refl
byte_values-pow (suc k) =
    let more : 8 * suc k ≡ 8 * k + 8 = omega arith in
    ap (λ (n : ℕ). 2 ^ n) more
    ∙ pow-add 2 (8 * k) 8
    ∙ ap (λ (n : ℕ). n * byte_values) (byte_values-pow k)
    ∙ sym (pow-suc byte_values k)

-- ---- bytes one behind another

pub number_at-front : (k : ℕ) (l m : List ℕ) (i : ℕ) → i + k ≤ length l → number_at k (l ++ m) i ≡ number_at k l i
number_at-front zero l m i h = refl
number_at-front (suc k) l m i h =
    ap₂ (λ (b n : ℕ). b + byte_values * n) (get_or-append l m 0 i (omega arith)) (number_at-front k l m (suc i) (omega arith))

number_at-append : (k : ℕ) (l m : List ℕ) (i : ℕ) → number_at k (l ++ m) (length l + i) ≡ number_at k m i
number_at-append zero l m i = refl
number_at-append (suc k) l m i =
    let on : suc (length l + i) ≡ length l + suc i = omega arith in
    ap₂ (λ (b n : ℕ). b + byte_values * n) (get_or-append-add l m i 0) (ap (number_at k (l ++ m)) on ∙ number_at-append k l m (suc i))

module _ (k n : ℕ) (m : List ℕ) where
  pub number_at_behind : (j i : ℕ) → number_at j (low_first k n ++ m) (k + i) ≡ number_at j m i
  number_at_behind j i =
      ap (λ (x : ℕ). number_at j (low_first k n ++ m) (x + i)) (sym (low_first-length k n)) ∙ number_at-append j (low_first k n) m i

  pub get_d_behind : (i : ℕ) → get_or (low_first k n ++ m) (k + i) 0 ≡ get_or m i 0
  get_d_behind i =
      ap (λ (x : ℕ). get_or (low_first k n ++ m) (x + i) 0) (sym (low_first-length k n)) ∙ get_or-append-add (low_first k n) m i 0

-- ---- the four bytes of a word, at the places that the code has

two_on : (i : ℕ) → i + 2 ≡ suc (suc i)
two_on i = omega arith

three_on : (i : ℕ) → i + 3 ≡ suc (suc (suc i))
three_on i = omega arith

module _ (l : List ℕ) (i : ℕ) where
  pub word_is : number_at word_bytes (get_or l i 0 ∷ get_or l (i + 1) 0 ∷ get_or l (i + 2) 0 ∷ get_or l (i + 3) 0 ∷ []) 0 ≡ number_at word_bytes l i
  word_is = rw (add-one i, two_on i, three_on i)

  pub stores_are : (a b c d : ℕ) → set (set (set (set l i a) (i + 1) b) (i + 2) c) (i + 3) d ≡ sets l i (a ∷ b ∷ c ∷ d ∷ [])
  stores_are a b c d = rw (add-one i, two_on i, three_on i)
