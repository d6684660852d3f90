-- What the rows beneath a row give to it: its tuples, their counts and their keys (RULES 7). These are the rules' formulas: they fix an
-- answer for every table, whether or not its fields came from trees.
--     Beneath                  a row beneath, with its fields
--     counted t, summed r t    the rows beneath that may stand in a tuple: in the row length, and in count and best
--     times_counts, sum_counts   the product of a tuple's counts, and the sum over tuples
--     is_live τ, is_marked τs    no zero count in the tuple; some such tuple has a marked count
--     is_many limit τs          the count is stopped at the limit: marked by a tuple, or past it
--     Key, key_of τ             a weight and a set; the children's bests and members joined
--     key_first, first_of_keys, first_key     the order of keys, heaviest first, then the tie rule; the first of two, and of several
-- Sets of members are numbers as in `Result.antt`: the set with the largest cluster in exactly one of two is the larger number, and the
-- members of clusters that are apart are joined by adding.
-- Assumes nothing.
use Rattle.std.specs.Prelude.{Bool, not, cond, ◌&&◌, ◌||◌, List, [], ◌∷◌, ℕ, ◌+◌, ◌*◌, eqb, ltb, ℤ, pos, ◌+ℤ◌}
use Rattle.std.proofs.Math.Option.{Option, none, some}
use Rattle.std.specs.Int.Signed.{lt_z}
use Rattle.laws.specs.Row.{Row}
use Rattle.laws.specs.Lists.{keep, every, any}
use Rattle.trees.specs.Rows.{Entry, sc}
use Rattle.trees.specs.Result.{Result}

-- ---- the tuples
module _ {A : Type 0} where
  abbrev pub counted : List (Entry A) → List (Entry A)
  counted t = keep sc t

  abbrev pub summed : Row → List (Entry A) → List (Entry A)
  summed r t = keep sc t

-- ---- counts
abbrev pub Beneath : Type 0
Beneath = Entry Result

abbrev pub times_counts : List Beneath → ℕ
times_counts [] = 1
times_counts (e ∷ τ) = e.val.count * times_counts τ

abbrev pub sum_counts : List (List Beneath) → ℕ
sum_counts [] = 0
sum_counts (τ ∷ τs) = times_counts τ + sum_counts τs

abbrev pub is_live : List Beneath → Bool
is_live τ = every (λ (e : Beneath). not (eqb e.val.count 0)) τ

abbrev pub is_marked : List (List Beneath) → Bool
is_marked τs = any (λ (τ : List Beneath). is_live τ && any (λ (e : Beneath). eqb e.val.mark 1) τ) τs

-- a count stopped at the limit: marked by a tuple, or past the limit
abbrev pub is_many : ℕ → List (List Beneath) → Bool
is_many limit τs = is_marked τs || ltb limit (sum_counts τs)

-- ---- best weight and members
abbrev pub Key : Type 0
Key = ℤ × ℕ

-- heavier; or as heavy, and first by the tie rule
abbrev pub key_first : Key → Key → Bool
key_first x y = lt_z y.0 x.0 || (not (lt_z x.0 y.0) && ltb y.1 x.1)

abbrev pub key_of : List Beneath → Key
key_of [] = (pos 0, 0)
key_of (e ∷ τ) = (e.val.best +ℤ (key_of τ).0, e.val.members + (key_of τ).1)

abbrev pub first_of_keys : Key → Option Key → Option Key
first_of_keys x none = some x
first_of_keys x (some y) = some (cond (key_first x y) x y)

abbrev pub first_key : List Key → Option Key
first_key [] = none
first_key (x ∷ xs) = first_of_keys x (first_key xs)
