-- Texts in the making. Laws: `proofs/Laws.antt`.
--     text_cap            the bytes that a text has room for: as many as the longest line has that `besttree` prints
--     holding l          the text of the bytes l, and zeros behind them
--     longer t l         the bytes of t, then those of l; what stands behind them is as it was
--     with_bytes t l      the bytes of t, then as many of l as there is room for
-- Assumes nothing.
use Rattle.std.specs.Prelude.{List, ◌++◌, ℕ, ◌+◌, ◌-◌, length, replicate, take, drop}
use Rattle.texts.specs.declared.text.Text.{Text}

abbrev pub text_cap : ℕ
text_cap = 172

abbrev pub holding : List ℕ → Text
holding l = record { bytes = l ++ replicate (text_cap - length l) 0; size = length l }

abbrev pub longer : Text → List ℕ → Text
longer t l = record {
  bytes = take t.size t.bytes ++ l ++ drop (t.size + length l) t.bytes;
  size = t.size + length l;
}

unfoldable pub with_bytes : Text → List ℕ → Text
with_bytes t l = longer t (take (text_cap - t.size) l)
