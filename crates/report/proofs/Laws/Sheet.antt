-- What is said of a gel sheet, for each way out of the code, and how long it can be.
--     sheet_refused, sheet_taken     the line of a refusal, and of a success
--     sheet_line-length-le            the line of numbers of 64 bits has no more than 66 bytes
--     sheet_held                     so a text has room for it, and none of it is cut
-- Assumes nothing.
use mathlib.Core.Path.{◌≡◌, sym, ap, ◌∙◌}
use mathlib.Core.Bool.{Bool, cond}
use mathlib.Core.List.{[]}
use Prim.Native.Nat.{ℕ, ◌^◌, ◌≤◌, ◌<◌}
use native.Mathlib.Omega.{arith}
use borrow.Author.Tests.{ne_eqb}
use lib.ListN.{length, length-append}
use Rattle.answers.specs.Refusal.{Answer}
use Rattle.std.specs.Prelude.{Ok, Err}
use Rattle.answers.specs.declared.refusal.Refusal.{Refusal}
use Rattle.answers.specs.Refusal.{number_of, sent_of}
use Rattle.answers.proofs.Laws.Refusal.{number_pos}
use Rattle.shapes.proofs.Decimal.{decimal-length-le}
use Rattle.texts.specs.declared.text.Text.{Text}
use Rattle.texts.specs.Text.{holding, with_bytes}
use Rattle.texts.proofs.Laws.{text_held}
use Rattle.report.specs.Words.{refused_words}
use Rattle.report.specs.Sheet.{taken_line, sheet_line}
use Rattle.report.proofs.Laws.Words.{refused_words-length-le}

-- ---- by the answer

refused_line_lem : (f : Refusal) (m : ℕ) → refused_words (sent_of (Err f)) ≡ sheet_line (sent_of (Err f)) m
refused_line_lem f m =
    sym (ap (λ (b : Bool). cond b (taken_line 0 m) (refused_words (sent_of (Err f)))) (ne_eqb (number_of f) 0 (number_pos f)))

module _ {a : Answer} (m : ℕ) where
  pub sheet_refused : {f : Refusal} → a ≡ Err f → refused_words (sent_of (Err f)) ≡ sheet_line (sent_of a) m
  sheet_refused {f} e = refused_line_lem f m ∙ ap (λ (b : Answer). sheet_line (sent_of b) m) (sym e)

  pub sheet_taken : {n : ℕ} → a ≡ Ok n → taken_line n m ≡ sheet_line (sent_of a) m
  sheet_taken e = ap (λ (b : Answer). sheet_line (sent_of b) m) (sym e)

-- ---- how long it can be

taken_line-length-le : (n m : ℕ) → n < 2 ^ 64 → m < 2 ^ 64 → length (taken_line n m) ≤ 66
taken_line-length-le n m h k =
    let first = decimal-length-le 19 n (omega arith) in
    let second = decimal-length-le 19 m (omega arith) in
    simp length-append (omega arith)

pub sheet_line-length-le : (a : Answer) (m : ℕ) → (sent_of a).told < 2 ^ 64 → (sent_of a).position < 2 ^ 64 → m < 2 ^ 64
    → length (sheet_line (sent_of a) m) ≤ 66
sheet_line-length-le (Ok n) m h p k = taken_line-length-le n m h k
sheet_line-length-le (Err f) m h p k = omega (arith, ap length (refused_line_lem f m), refused_words-length-le f p)

pub sheet_held : (a : Answer) (m : ℕ) → (sent_of a).told < 2 ^ 64 → (sent_of a).position < 2 ^ 64 → m < 2 ^ 64
    → {t : Text} → t ≡ with_bytes (holding []) (sheet_line (sent_of a) m) → t ≡ holding (sheet_line (sent_of a) m)
sheet_held a m h p k e = e ∙ text_held (sheet_line (sent_of a) m) (omega (arith, sheet_line-length-le a m h p k))
