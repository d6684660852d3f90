-- One word of marks, walked by its set bits, and the two words of a row.
--     every_bit→, →every_bit     each set bit passes a test
--     every_bit-none, every_bit_fails, every_bit-drop     the walk over the set bits of a word
--     mark_fit_is              one bit: the row that it marks is looked up, and its cluster tested
--     words_are                the walks over two words: no mark past the rows, and each marked row passes
-- Assumes nothing.
use mathlib.Core.Path.{◌≡◌, sym, subst}
use mathlib.Core.Logic.{◌⊎◌, inl, inr, ⊎_elim}
use mathlib.Core.Bool.{Bool, true, false, not, ◌&&◌, ◌||◌}
use mathlib.Core.List.{List}
use Prim.Native.Nat.{ℕ, ◌+◌, ◌-◌, ◌*◌, ◌^◌, ◌≤◌, ◌<◌}
use native.Mathlib.Decide.{dec_lt}
use native.Mathlib.Omega.{arith}
use borrow.Author.Tests.{lt-ltb, le-ltb}
use lib.Dec.{T, ltb, ltb→lt, lt→ltb}
use lib.ListN.{length, get_or}
use denote.Ref.{Bor}
use Rattle.std.specs.List.{HoldsAt}
use Rattle.std.specs.Option.{MatchOption}
use Rattle.std.proofs.Common.{Option, Some, None}
use Rattle.laws.specs.Cluster.{inside}
use Rattle.laws.specs.Limits.{word_values}
use Rattle.laws.proofs.Down.{every→down, down→every}
use Rattle.laws.proofs.Tests.{T_and, and_T, imp→, →imp, T_true, T_false, true_T, bool_ext}
use Rattle.kept.specs.Marks.{has_mark}
use Rattle.kept.specs.Fields.{every_bit}
use Rattle.kept.proofs.Laws.Marks.{Marked, mark-none, mark-lt, lt_of_marks, mark_rest, rest_mark, mark-low, mark_high}

-- ---- each set bit
module _ (m n : ℕ) (p : ℕ → Bool) where
  abbrev at_bit : ℕ → Bool
  at_bit i = not (has_mark m i) || p i

  pub every_bit→ : T (every_bit m n p) → (i : ℕ) → i < n → Marked m i → T (p i)
  unfolding every_bit
  every_bit→ h i l = imp→ (has_mark m i) (p i) (every→down at_bit (λ (j : ℕ). j) n h i l)

  pub →every_bit : ((i : ℕ) → i < n → Marked m i → T (p i)) → T (every_bit m n p)
  unfolding every_bit
  →every_bit f = down→every at_bit (λ (j : ℕ). j) n (λ i l. →imp (has_mark m i) (p i) (f i l))

-- ---- the walk over the set bits of a word
module _ (n : ℕ) (p : ℕ → Bool) where
  pub every_bit-none : every_bit 0 n p ≡ true
  every_bit-none = T_true _ (→every_bit 0 n p (λ i l h. absurd (mark-none i h)))

  pub every_bit_fails : (m b : ℕ) → b < n → Marked m b → p b ≡ false → every_bit m n p ≡ false
  every_bit_fails m b l h e = T_false (every_bit m n p) (λ k. subst T e (every_bit→ m n p k b l h))

  pub every_bit-drop : (m b : ℕ) → Marked m b → p b ≡ true → every_bit m n p ≡ every_bit (m - 2 ^ b) n p
  every_bit-drop m b h e = bool_ext _ _ (λ k. →every_bit (m - 2 ^ b) n p (λ i l g. every_bit→ m n p k i l (rest_mark m b i h g))) back
    where
      one : (i : ℕ) → T (every_bit (m - 2 ^ b) n p) → i < n → (i ≡ b) ⊎ Marked (m - 2 ^ b) i → T (p i)
      one i k l (inl q) = subst (λ (x : ℕ). T (p x)) (sym q) (true_T e)
      one i k l (inr g) = every_bit→ (m - 2 ^ b) n p k i l g

      back : T (every_bit (m - 2 ^ b) n p) → T (every_bit m n p)
      back k = →every_bit m n p (λ i l g. one i k l (mark_rest m b i h g))

-- what is looked up in place j is there and lies inside c, as the code tests it
pub mark_fit_is : (cs : List ℕ) (j c : ℕ) (found : Option (Bor ℕ)) (r : Bool)
    → MatchOption found (length cs ≤ j) (λ (x : Bor ℕ). (j < length cs) × HoldsAt (λ (y : ℕ). x.now ≡ y) cs j)
    → MatchOption found (r ≡ false) (λ (x : Bor ℕ). r ≡ inside x.now c)
    → r ≡ (ltb j (length cs) && inside (get_or cs j 0) c)
mark_fit_is cs j c None r past e = rw (le-ltb _ _ past, e)
mark_fit_is cs j c (Some x) r at e = rw (lt-ltb _ _ at.0, e, at.1 0)

-- ---- both words of a row
module _ (n : ℕ) (p : ℕ → Bool) (lo hi : ℕ) (small : lo < word_values) (short : hi < word_values) where
  -- row b + k is one of the first n, and passes
  abbrev passes : ℕ → ℕ → Bool
  passes b k = ltb (b + k) n && p (b + k)

  abbrev members : ℕ
  members = lo + word_values * hi

  -- a mark is one of the low word, or one of the high word
  split : (i : ℕ) → Marked members i → ((i < 64) × Marked lo i) ⊎ ((64 ≤ i) × Marked hi (i - 64))
  split i h = go (dec_lt i 64)
    where
      go : Dec (i < 64) → ((i < 64) × Marked lo i) ⊎ ((64 ≤ i) × Marked hi (i - 64))
      go (yes l) = inl (l, subst T (mark-low lo hi i l) h)
      go (no d) =
          let e : i ≡ 64 + (i - 64) = omega arith in
          inr (omega arith, subst T (mark_high lo hi (i - 64) small) (subst (Marked (lo + word_values * hi)) e h))

  each : T (every_bit lo 64 (passes 0)) → T (every_bit hi 64 (passes 64)) → (i : ℕ) → Marked members i → (i < n) × T (p i)
  each a b i h = ⊎_elim low high (split i h)
    where
      low : (i < 64) × Marked lo i → (i < n) × T (p i)
      low q =
          let r = T_and (ltb (0 + i) n) (p (0 + i)) (every_bit→ lo 64 (passes 0) a i q.0 q.1) in
          let e : 0 + i ≡ i = omega arith in
          (omega (arith, ltb→lt (0 + i) n r.0), subst (λ (x : ℕ). T (p x)) e r.1)

      high : (64 ≤ i) × Marked hi (i - 64) → (i < n) × T (p i)
      high q =
          let l = mark-lt 64 hi (i - 64) short q.1 in
          let r = T_and (ltb (64 + (i - 64)) n) (p (64 + (i - 64))) (every_bit→ hi 64 (passes 64) b (i - 64) l q.1) in
          let e : 64 + (i - 64) ≡ i = omega (arith, q.0) in
          (omega (arith, ltb→lt (64 + (i - 64)) n r.0, e), subst (λ (x : ℕ). T (p x)) e r.1)

  pub words_are : (every_bit lo 64 (passes 0) && every_bit hi 64 (passes 64)) ≡ (ltb members (2 ^ n) && every_bit members n p)
  words_are = bool_ext _ _ to from
    where
      to : T (every_bit lo 64 (passes 0) && every_bit hi 64 (passes 64)) → T (ltb members (2 ^ n) && every_bit members n p)
      to h =
          let q = T_and (every_bit lo 64 (passes 0)) (every_bit hi 64 (passes 64)) h in
          let f = each q.0 q.1 in
          and_T (ltb members (2 ^ n)) (every_bit members n p)
          (lt→ltb _ _ (lt_of_marks n members (λ i k. (f i k).0)))
          (→every_bit members n p (λ i l k. (f i k).1))

      at : (b i : ℕ) → T (ltb members (2 ^ n) && every_bit members n p) → Marked members (b + i) → T (passes b i)
      at b i h k =
          let q = T_and (ltb members (2 ^ n)) (every_bit members n p) h in
          let l = mark-lt n members (b + i) (ltb→lt _ _ q.0) k in
          and_T (ltb (b + i) n) (p (b + i)) (lt→ltb _ _ l) (every_bit→ members n p q.1 (b + i) l k)

      from : T (ltb members (2 ^ n) && every_bit members n p) → T (every_bit lo 64 (passes 0) && every_bit hi 64 (passes 64))
      from h =
          and_T (every_bit lo 64 (passes 0)) (every_bit hi 64 (passes 64))
          (→every_bit lo 64 (passes 0) (λ i l k.
          let e : i ≡ 0 + i = omega arith in
          at 0 i h (subst (Marked members) e (subst T (sym (mark-low lo hi i l)) k))))
          (→every_bit hi 64 (passes 64) (λ i l k. at 64 i h (subst T (sym (mark_high lo hi i small)) k)))
