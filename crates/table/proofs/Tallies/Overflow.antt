-- One more child overflows no word: the child lies inside what is left, and the others are apart from it.
--     Safe                 what `under` asks of its two tallies
--     Words, words-fit     the marks of two families without a common member add up word by word
--     light-fits           two weights within a million for each of the members that a tree on R can have, R a word
--     set_of, members_of, set_coded     the set of a result as a number, and as a family
--     words_safe, words_clear     marks that add up, and weights that do, are safe, and no low word carries
--     part_clear, part_safe     so for a part of R and the covers of what it leaves
-- Assumes nothing.
use mathlib.Core.Path.{◌≡◌, sym, ap, ◌∙◌, subst, subst₂}
use mathlib.Core.Option.{Option, none, some}
use mathlib.Core.List.{List}
use Prim.Native.Nat.{ℕ, ◌+◌, ◌-◌, ◌*◌, ◌/◌, ◌%◌, ◌≤◌, ◌<◌}
use native.Mathlib.Nat.{div-lt_iff_lt-mul, lt_of_lt_of_le}
use native.Mathlib.Omega.{arith}
use lib.Count.{ones-le}
use lib.Dec.{T, lit<}
use lib.IntN.{ℤ, nat_abs, ◌+ℤ◌}
use lib.ListN.{length}
use lib.Pow.{pow_mono}
use mir.Syntax.{w64}
use mir.Val.{SFits}
use Rattle.laws.specs.Cluster.{inside, size}
use Rattle.laws.specs.Limits.{weight_max, row_cap, word_values}
use Rattle.laws.proofs.Integers.{abs_sum-le, mag_le_abs}
use Rattle.laws.proofs.Taxa.{size_part}
use Rattle.trees.specs.Result.{marks_in}
use Rattle.trees.specs.Solution.{Sol}
use Rattle.trees.proofs.Sets.Families.{Fam, join, empty, Disj}
use Rattle.trees.proofs.Ties.Marks.{marks-lt, marks-none, marks_join, no_carry}
use Rattle.table.specs.declared.tally.Tally.{Tally}
use Rattle.table.specs.Tally.{tally_with}
use Rattle.table.proofs.Tallies.Encoded.{Clear}
use Rattle.table.proofs.Tallies.Held.{Keeps, held_disj}

pub record Safe (a b : Tally) : Type 0 where
  pub best : SFits w64 (a.best +ℤ b.best)
  pub low : a.low + b.low < word_values
  pub high : a.high + b.high < word_values

-- ---- words

pub record Words (m n : ℕ) : Type 0 where
  pub low : m % word_values + n % word_values < word_values
  pub high : m / word_values + n / word_values < word_values

-- all marks are in two words
marks_high : (cs : List ℕ) (S : Fam) → length cs ≤ row_cap → marks_in cs S / word_values < word_values
marks_high cs S h =
    (div-lt_iff_lt-mul {k = word_values} {x = marks_in cs S} {y = word_values} (lit< tt)).1 (lt_of_lt_of_le (marks-lt cs S) (pow_mono h))

high_sum : (m n : ℕ) → m % word_values + n % word_values < word_values → m / word_values + n / word_values ≡ (m + n) / word_values
high_sum m n h = omega arith

pub words-fit : (cs : List ℕ) (S U : Fam) → length cs ≤ row_cap → Disj S U → Words (marks_in cs S) (marks_in cs U)
words-fit cs S U h d =
    let carry = no_carry 64 cs S U d in
    let e = high_sum (marks_in cs S) (marks_in cs U) carry ∙ ap (λ (m : ℕ). m / word_values) (sym (marks_join cs S U d)) in
    record { low = carry; high = subst (λ (m : ℕ). m < word_values) (sym e) (marks_high cs (join S U) h) }

-- ---- weights

pub light-fits : (R : ℕ) (y z : ℤ) → R < word_values → nat_abs y + nat_abs z ≤ 3 * weight_max * size R → SFits w64 (y +ℤ z)
light-fits R y z h l = record { sfits = omega (arith, mag_le_abs (y +ℤ z), abs_sum-le y z, ones-le 64 R h) }

best-le : (cs : List ℕ) (b m R limit n : ℕ) (u : Option Sol) → Keeps cs b m R u
    → nat_abs (tally_with limit n u).best ≤ 2 * weight_max * size R
best-le cs b m R limit n none h = omega arith
best-le cs b m R limit n (some x) h = omega (arith, h.light)

-- ---- the family of a result, and none where there is no tree

abbrev pub set_of : Option Sol → ℕ
set_of none = 0
set_of (some x) = x.1.1

module _ (cs : List ℕ) (b : ℕ) where
  abbrev pub members_of : (m R : ℕ) (u : Option Sol) → Keeps cs b m R u → Fam
  members_of m R none h = empty
  members_of m R (some x) h = h.members

  pub set_coded : (m R : ℕ) (u : Option Sol) (h : Keeps cs b m R u) → set_of u ≡ marks_in cs (members_of m R u h)
  set_coded m R none h = sym (marks-none cs empty (λ c k t. t))
  set_coded m R (some x) h = h.coded

  members_disj : (m n c R : ℕ) (u v : Option Sol) → T (inside c R) → (h : Keeps cs b m c u) (l : Keeps cs b n (R - c) v)
      → Disj (members_of m c u h) (members_of n (R - c) v l)
  members_disj m n c R none v i h l z s t = s
  members_disj m n c R (some x) none i h l z s t = t
  members_disj m n c R (some x) (some y) i h l z s t = held_disj cs b m n c R x y i h l z s t

-- ---- one more child

module _ (limit k : ℕ) where
  pub words_safe : (u v : Option Sol) → Words (set_of u) (set_of v) → SFits w64 ((tally_with limit 1 u).best +ℤ (tally_with limit k v).best)
      → Safe (tally_with limit 1 u) (tally_with limit k v)
  words_safe none none w f = record { best = f; low = w.low; high = w.high }
  words_safe none (some y) w f = record { best = f; low = w.low; high = w.high }
  words_safe (some x) none w f = record { best = f; low = w.low; high = w.high }
  words_safe (some x) (some y) w f = record { best = f; low = w.low; high = w.high }

pub words_clear : (u v : Option Sol) → Words (set_of u) (set_of v) → Clear u v
words_clear none v w = tt
words_clear (some x) none w = tt
words_clear (some x) (some y) w = w.low

module _ (cs : List ℕ) (b m n c R : ℕ) (u v : Option Sol) (short : length cs ≤ row_cap) (i : T (inside c R))
    (h : Keeps cs b m c u) (l : Keeps cs b n (R - c) v) where
  part_words : Words (set_of u) (set_of v)
  part_words =
      subst₂ Words (sym (set_coded cs b m c u h)) (sym (set_coded cs b n (R - c) v l))
      (words-fit cs (members_of cs b m c u h) (members_of cs b n (R - c) v l) short (members_disj cs b m n c R u v i h l))

  pub part_clear : Clear u v
  part_clear = words_clear u v part_words

  pub part_safe : (limit k : ℕ) → R < word_values → Safe (tally_with limit 1 u) (tally_with limit k v)
  part_safe limit k small =
      words_safe limit k u v part_words
      (light-fits R (tally_with limit 1 u).best (tally_with limit k v).best small
      (omega (arith, best-le cs b m c limit 1 u h, best-le cs b n (R - c) limit k v l, size_part c R i)))
