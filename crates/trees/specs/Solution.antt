-- Counts, and counts with the key of the first heaviest tree, as kinds of result. Laws: `proofs/Counting/Keys.antt`.
--     count_kind              the kind of counts
--     top, join_k             the first of two keys; keys added
--     Sol, plus_sol, times_sol no tree; or a count and the key of the first heaviest
--     sol_kind bit            the kind of counts with keys, bit being the mark of a cluster
--     Res                    a number of tuples, and a count with a key
-- Assumes nothing.
use Rattle.std.specs.Prelude.{cond, ℕ, ◌+◌, ◌*◌, pos, ◌+ℤ◌}
use Rattle.std.proofs.Math.Option.{Option, none, some}
use Rattle.trees.specs.Beneath.{Key, key_first}
use Rattle.trees.specs.Kind.{Kind}

abbrev pub count_kind : Kind ℕ
count_kind = record { none = 0; unit = 1; plus = ◌+◌; times = ◌*◌; own = λ r. 1 }

abbrev pub top : Key → Key → Key
top x y = cond (key_first x y) x y

abbrev pub join_k : Key → Key → Key
join_k x y = (x.0 +ℤ y.0, x.1 + y.1)

abbrev pub Sol : Type 0
Sol = ℕ × Key

abbrev pub plus_sol : Option Sol → Option Sol → Option Sol
plus_sol none y = y
plus_sol (some x) none = some x
plus_sol (some x) (some y) = some (x.0 + y.0, top x.1 y.1)

abbrev pub times_sol : Option Sol → Option Sol → Option Sol
times_sol none y = none
times_sol (some x) none = none
times_sol (some x) (some y) = some (x.0 * y.0, join_k x.1 y.1)

module _ (bit : ℕ → ℕ) where
  abbrev pub sol_kind : Kind (Option Sol)
  sol_kind = record {
    none = none;
    unit = some (1, (pos 0, 0));
    plus = plus_sol;
    times = times_sol;
    own = λ r. some (1, (r.weight, bit r.cluster));
  }

abbrev pub Res : Type 0
Res = ℕ × Option Sol
