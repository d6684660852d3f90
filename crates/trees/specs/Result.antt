-- What a row of the table holds beside cluster, weight and state (RULES 5).
--     Result              row length, count, mark, best weight and member marks
--     blank               all zero
--     count_field, mark_field     a true count as the two fields: the limit and 1 exactly where it is larger than the limit
--     marks_in cs p        the member marks as one number: bit i is the i-th row from the smallest cluster, set where its cluster passes p
--     marks_of cs xs       the marks of a set of clusters; cs are the clusters of all rows, the largest first
-- Assumes nothing.
use Rattle.std.specs.Prelude.{Bool, cond, List, [], ◌∷◌, ℕ, ◌+◌, ◌^◌, leb, ℤ, pos}
use lib.ListN.{length}
use Rattle.laws.specs.Lists.{elem}

pub record Result : Type 0 where
  pub length : ℕ
  pub count : ℕ
  pub mark : ℕ
  pub best : ℤ
  pub members : ℕ

abbrev pub blank : Result
blank = record { length = 0; count = 0; mark = 0; best = pos 0; members = 0 }

abbrev pub count_field : ℕ → ℕ → ℕ
count_field limit n = cond (leb n limit) n limit

abbrev pub mark_field : ℕ → ℕ → ℕ
mark_field limit n = cond (leb n limit) 0 1

abbrev pub marks_in : List ℕ → (ℕ → Bool) → ℕ
marks_in [] p = 0
marks_in (c ∷ cs) p = cond (p c) (2 ^ lib.ListN.length cs + marks_in cs p) (marks_in cs p)

abbrev pub marks_of : List ℕ → List ℕ → ℕ
marks_of cs xs = marks_in cs (λ (c : ℕ). elem c xs)
