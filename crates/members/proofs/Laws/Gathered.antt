-- The marked rows gathered, one by one: their clusters in a list, and their weights added up, each being scored.
--     gathered_none, gathered_skips, gathered_takes     no row; one row more, marked or not
--     added, added_fits     the sum with the weight of one row more, as the code has it, fits 64 bits
--     members-length, members-front, members-fit     the clusters of rows in an array: they are its first, and it is long enough
--     gathered-size         as many clusters as marked rows
-- Assumes nothing.
use mathlib.Core.Path.{◌≡◌, refl, sym, ap, ap₂, ◌∙◌}
use mathlib.Core.Bool.{true, false}
use mathlib.Core.List.{List, [], ◌∷◌, ◌++◌, map, reverse, reverse-cons}
use Prim.Native.Nat.{ℕ, ◌+◌, ◌-◌, ◌*◌, ◌≤◌, ◌<◌}
use native.Mathlib.Omega.{arith}
use lib.IntN.{ℤ, pos, nat_abs, ◌+ℤ◌}
use lib.ListN.{length, get_or, take, replicate, length-append, length-map, length-reverse}
use lib.Seq.{take_at}
use lib.Signed.{mag, nat_abs-le}
use mir.Facts.{to_z-of_z}
use mir.Syntax.{w32, w64}
use mir.Val.{SFits, to_z, of_z}
use Rattle.arrayvec.specs.ArrayVec.{ArrayVec}
use Rattle.laws.specs.Limits.{row_cap}
use Rattle.laws.specs.State.{scored}
use Rattle.laws.proofs.Integers.{abs_sum-le}
use Rattle.kept.specs.declared.table.Table.{Table}
use Rattle.kept.specs.Marks.{has_mark}
use Rattle.members.specs.declared.marks.Members.{Members}
use Rattle.members.specs.Marked.{marked_to, members_in, weight_to}
use Rattle.members.specs.Gathered.{weight_span, Gathered}
use Rattle.members.proofs.Laws.Marked.{marked_takes, marked_skips, scored_skips, scored_takes}
use Rattle.members.proofs.Laws.Weighed.{near_fits, cast_back, weight_skips, weight_takes}

-- ---- the array
module _ (cs rows : List ℕ) where
  abbrev ascending : List ℕ
  ascending = reverse (map (λ (i : ℕ). get_or cs i 0) rows)

  pub members-length : length (reverse (map (λ (i : ℕ). get_or cs i 0) rows)) ≡ length rows
  members-length = length-reverse (map (λ (i : ℕ). get_or cs i 0) rows) ∙ length-map rows (λ (i : ℕ). get_or cs i 0)

  pub members-front : take (length rows) (members_in cs rows) ≡ reverse (map (λ (i : ℕ). get_or cs i 0) rows)
  members-front = take_at ascending (replicate (row_cap - length rows) 0) (length rows) members-length

  pub members-fit : length rows ≤ length (members_in cs rows)
  members-fit = omega (arith, members-length, length-append ascending (replicate (row_cap - length rows) 0))

-- ---- the marked rows
pub gathered_none : {t : Table} {m : ℕ}
    → Gathered t m 0 (record { clusters = record { items = [] }; weight = pos 0 })
gathered_none = record { few = omega arith; clusters = refl; weight = refl; near = omega arith; scored = refl }

module _ {t : Table} {m n : ℕ} {r : Members} (g : Gathered t m n r) where
  abbrev at : ℕ → ℕ
  at i = get_or t.clusters i 0

  -- the clusters of rows, ascending
  abbrev upward : List ℕ → List ℕ
  upward l = reverse (map at l)

  pub gathered-size : length r.clusters.items ≡ length (marked_to m n)
  gathered-size = ap length g.clusters ∙ members-length t.clusters (marked_to m n)

  -- one row more
  pub gathered_skips : has_mark m n ≡ false → Gathered t m (n + 1) r
  gathered_skips e = record {
    few = omega (arith, g.few);
    clusters = g.clusters ∙ sym (ap upward (marked_skips m n e));
    weight = g.weight ∙ sym (weight_skips t.weights m n e);
    near = rw (weight_skips t.weights m n e) (omega (arith, g.near));
    scored = scored_skips t.states m n e ∙ g.scored;
  }

  abbrev pub added : ℤ
  added = to_z w64 (of_z w64 r.weight) +ℤ to_z w64 (of_z w64 (to_z w32 (of_z w32 (get_or t.weights n (pos 0)))))

  module _ (h : n < row_cap) (e : has_mark m n ≡ true) (k : mag (get_or t.weights n (pos 0)) < weight_span) where
    added_is : added ≡ weight_to t.weights m (n + 1)
    added_is =
        let fits = near_fits (weight_to t.weights m n) n (omega arith) g.near in
        ap₂ ◌+ℤ◌ (ap (λ (z : ℤ). to_z w64 (of_z w64 z)) g.weight ∙ to_z-of_z fits) (cast_back (get_or t.weights n (pos 0)) k)
        ∙ sym (weight_takes t.weights m n e)

    near-more : nat_abs (weight_to t.weights m (n + 1)) ≤ weight_span * (n + 1)
    near-more =
        let z = get_or t.weights n (pos 0) in
        rw (weight_takes t.weights m n e) (omega (arith, abs_sum-le (weight_to t.weights m n) z, nat_abs-le z k, g.near))

    pub added_fits : SFits w64 added
    added_fits = rw added_is (near_fits (weight_to t.weights m (n + 1)) (n + 1) (omega arith) near-more)

    pub gathered_takes : scored (get_or t.states n 0) ≡ true → {v : ArrayVec ℕ} → v.items ≡ r.clusters.items ++ get_or t.clusters n 0 ∷ []
        → Gathered t m (n + 1) (record { clusters = v; weight = to_z w64 (of_z w64 added) })
    gathered_takes s q = record {
      few = omega (arith, g.few, ap length q, length-append r.clusters.items (at n ∷ []));
      clusters =
          q ∙ ap (λ (l : List ℕ). l ++ at n ∷ []) g.clusters
          ∙ sym (ap upward (marked_takes m n e) ∙ reverse-cons (at n) (map at (marked_to m n)));
      weight = to_z-of_z added_fits ∙ added_is;
      near = near-more;
      scored = scored_takes t.states m n e s ∙ g.scored;
    }
