-- Which gel sheets are taken, each rule under one name (RULES 13).
--     wrong_iff, right_iff     a sheet is bad exactly when it has no bytes or a line at fault, and the first is told; else it is right
--     many_iff                 there are too many clusters
--     taken_iff                no reason for refusing a sheet applies exactly when it is right, with few clusters and enough room
--     right-sized              a right sheet has 1 to 32 lines, of 128 marks at most
-- Assumes nothing.
use mathlib.Core.Path.{◌≡◌, refl, sym, ap, ◌∙◌}
use mathlib.Core.Logic.{◌⊎◌, inl, inr, ◌↔◌}
use mathlib.Core.Bool.{Bool, true, false, true≢false}
use mathlib.Core.List.{List, [], ◌∷◌}
use Prim.Native.Nat.{ℕ, ◌≤◌, ◌<◌}
use native.Mathlib.Decide.{dec_le}
use native.Mathlib.Omega.{arith}
use lib.Dec.{T, eqb, ltb, eqb→eq, ltb→lt, lt→ltb, nltb→le, not_T}
use lib.ListN.{length}
use Rattle.laws.specs.Limits.{narrow}
use Rattle.laws.proofs.First.{found_iff, unfound_iff}
use Rattle.laws.proofs.Tests.{T-or, or_l, or_r, eq→eqb}
use Rattle.answers.specs.declared.refusal.Refusal.TheVariants.{BadSheet}
use Rattle.answers.specs.Reasons.{NoneApplies}
use Rattle.answers.specs.Refusal.{position_of}
use Rattle.gel.specs.Lines.{line_max, line_count, is_fault, first_fault, is_bad_sheet}
use Rattle.gel.specs.Columns.{sheet_rows, sheet_bytes}
use Rattle.gel.specs.Facts.{RightLine, FirstWrong, RightSheet}
use Rattle.gel.specs.Import.{import_reasons}
use Rattle.gel.proofs.Laws.Faults.{fault→right, right→fault}
use Rattle.gel.proofs.Laws.Lines.{lines-some}
use Rattle.gel.proofs.Laws.Made.{Sized}

-- ---- which sheets are taken

empty-first : (s : List ℕ) → length s ≡ 0 → first_fault s ≡ 0
empty-first [] e = refl
empty-first (b ∷ s) e = absurd (omega (arith, e))

module _ (s : List ℕ) where
  fault_of : (i : ℕ) → (RightLine s i → ⊥) → is_fault s i ≡ true
  fault_of i n = go (is_fault s i) refl
    where
      go : (b : Bool) → is_fault s i ≡ b → b ≡ true
      go true e = refl
      go false e = absurd (n (fault→right s i e))

  pub wrong_iff : (i : ℕ) → (T (is_bad_sheet s) × (BadSheet (first_fault s) ≡ BadSheet i)) ↔ FirstWrong s i
  wrong_iff i = (λ k. to (T-or (eqb (length s) 0) (ltb (first_fault s) (line_count s)) k.0) (ap position_of k.1), from)
    where
      to : T (eqb (length s) 0) ⊎ T (ltb (first_fault s) (line_count s)) → first_fault s ≡ i → FirstWrong s i
      to (inl t) e = let z = eqb→eq (length s) 0 t in inl (z, sym e ∙ empty-first s z)
      to (inr t) e =
          let q = (found_iff (is_fault s) (line_count s) i).0 (t, e) in
          inr (record {
            within = q.0;
            wrong = λ r. true≢false (sym q.1 ∙ right→fault s i r);
            before = λ j h. fault→right s j (q.2 j h);
          })

      from : FirstWrong s i → T (is_bad_sheet s) × (BadSheet (first_fault s) ≡ BadSheet i)
      from (inl k) = (
        or_l (eqb (length s) 0) (ltb (first_fault s) (line_count s)) (eq→eqb (length s) 0 k.0),
        ap BadSheet (empty-first s k.0 ∙ sym k.1),
      )
      from (inr k) =
          let q = (found_iff (is_fault s) (line_count s) i).1 (k.within, fault_of i k.wrong, λ j h. right→fault s j (k.before j h)) in
          (or_r (eqb (length s) 0) (ltb (first_fault s) (line_count s)) q.0, ap BadSheet q.1)

  pub right_iff : (T (is_bad_sheet s) → ⊥) ↔ RightSheet s
  right_iff = (to, λ r t. from r (T-or (eqb (length s) 0) (ltb (first_fault s) (line_count s)) t))
    where
      to : (T (is_bad_sheet s) → ⊥) → RightSheet s
      to n = record {
        filled = λ e. n (or_l (eqb (length s) 0) (ltb (first_fault s) (line_count s)) (eq→eqb (length s) 0 e));
        right = λ i h. fault→right s i
            ((unfound_iff (is_fault s) (line_count s)).0 (λ t. n (or_r (eqb (length s) 0) (ltb (first_fault s) (line_count s)) t)) i h);
      }

      from : RightSheet s → T (eqb (length s) 0) ⊎ T (ltb (first_fault s) (line_count s)) → ⊥
      from r (inl t) = r.filled (eqb→eq (length s) 0 t)
      from r (inr t) = (unfound_iff (is_fault s) (line_count s)).1 (λ i h. right→fault s i (r.right i h)) t

  pub many_iff : T (ltb narrow.rows (length (sheet_rows s))) ↔ (narrow.rows < length (sheet_rows s))
  many_iff = (ltb→lt narrow.rows (length (sheet_rows s)), lt→ltb narrow.rows (length (sheet_rows s)))

  not-below : (a b : ℕ) → (T (ltb a b) → ⊥) ↔ (b ≤ a)
  not-below a b = (λ n. nltb→le a b (not_T (ltb a b) n), λ h t. omega (arith, h, ltb→lt a b t))

  pub taken_iff : (room : List ℕ)
      → NoneApplies (import_reasons s room)
      ↔ (RightSheet s × (length (sheet_rows s) ≤ narrow.rows) × (length (sheet_bytes s) ≤ length room))
  taken_iff room =
      let few = not-below narrow.rows (length (sheet_rows s)) in
      let fits = not-below (length room) (length (sheet_bytes s)) in (
        λ k. (right_iff.0 k.0, few.0 k.1.0, fits.0 k.1.1.0),
        λ h. (right_iff.1 h.0, (few.1 h.1, (fits.1 h.2, tt))),
      )

  pub right-sized : RightSheet s → Sized s
  right-sized r = record {
    some = some;
    most = most (dec_le (line_count s) line_max);
    narrow = let k = r.right 0 some in omega (arith, k.long, k.most);
  }
    where
      filled : Dec (1 ≤ length s) → 1 ≤ length s
      filled (yes h) = h
      filled (no h) = absurd (r.filled (omega (arith, h)))

      some : 1 ≤ line_count s
      some = lines-some s (filled (dec_le 1 (length s)))

      most : Dec (line_count s ≤ line_max) → line_count s ≤ line_max
      most (yes h) = h
      most (no h) = absurd (omega (arith, (r.right line_max (omega (arith, h))).low))
