-- Digests, one row at a time, and repeated rescorings, one at a time.
--     digest_to-none, digest_to-more     no row, and one row more, with its best as the code reads it
--     rescored_times-none, rescored-more     no rescoring, and one more
--     rescored_end     all rescorings of the table that a build hands back
-- Assumes nothing.
use Rattle.std.proofs.Common.{◌≡◌, ℕ, ◌+◌, get_or, ℤ, pos, sym, refl, ap, ◌∙◌, ap₂, add-one}
use Rattle.laws.specs.Limits.{narrow}
use Rattle.answers.specs.Outcome.{Outcome, outcome_of}
use Rattle.kept.specs.declared.table.Table.{Table}
use Rattle.table.specs.declared.making.Built.{Built}
use Rattle.table.specs.declared.rescoring.Rescored.{Rescored}
use Rattle.table.specs.Rescore.{rescore_table}
use Rattle.digests.specs.Digest.{wrap, row_digest, Results, digest_to, rescored_times}

module _ (k : Results) where
  pub digest_to-none : digest_to k 0 ≡ 0
  unfolding digest_to
  digest_to-none = refl

  pub digest_to-more : (i n r : ℕ) (z : ℤ) → z ≡ get_or k.bests i (pos 0) → n ≡ digest_to k i
      → r ≡ row_digest (get_or k.lengths i 0) (get_or k.counts i 0) (get_or k.marks i 0) z (get_or k.lows i 0) (get_or k.highs i 0)
      → wrap n r ≡ digest_to k (i + 1)
  unfolding digest_to
  digest_to-more i n r z e h j = rw (add-one i, h, j, e)

module _ (c : ℕ) (z : ℤ) (s : ℕ) (t : Table) where
  pub rescored_times-none : rescored_times 0 c z s t ≡ t
  unfolding rescored_times
  rescored_times-none = refl

  rescored_times-more : (n : ℕ) → rescored_times (n + 1) c z s t ≡ (rescore_table narrow (rescored_times n c z s t) c z s).given
  unfolding rescored_times
  rescored_times-more n = rw (add-one n)

  pub rescored-more : (n : ℕ) (u : Table) (r : Rescored) → u ≡ rescored_times n c z s t
      → outcome_of r.answer r.table ≡ rescore_table narrow u c z s
      → r.table ≡ rescored_times (n + 1) c z s t
  rescored-more n u r e k =
      ap (λ (m : Outcome Table). m.given) (k ∙ ap (λ (x : Table). rescore_table narrow x c z s) e) ∙ sym (rescored_times-more n)

-- with the score and the built table as the code has them
pub rescored_end : (i n c : ℕ) (y z : ℤ) (s : ℕ) (b : Built) (m : Outcome Table) (u : Table) → i ≡ n → y ≡ z
    → outcome_of b.answer b.table ≡ m → u ≡ rescored_times i c y s b.table → u ≡ rescored_times n c z s m.given
rescored_end i n c y z s b m u e h k q =
    q ∙ ap (λ (j : ℕ). rescored_times j c y s b.table) e ∙ ap₂ (λ (x : ℤ) (p : Outcome Table). rescored_times n c x s p.given) h k
