-- `cluster::bytes::put_word` meets its contract: the four bytes that stand after the copy are the word's, low byte first. Assumes nothing.
use Rattle.std.proofs.Common.{◌≡◌, List, ℕ, ◌+◌, ◌-◌, ◌≤◌, take, length, sym, refl, ◌∙◌, arith, w32}
use Rattle.std.specs.Int.{to_le_bytes}
use Rattle.std.proofs.Math.Nat.{div-div-eq-div-mul}
use Rattle.std.proofs.lemmas.List.Edits.{sets, sets-eq}
use Rattle.std.proofs.lemmas.List.{append_assoc, drop-drop}
use borrow.Rule.Slice.PartMut.{put_mid}
use Rattle.cluster.specs.Bytes.{word_bytes, low_first}
use Rattle.cluster.proofs.bytes.put_word.Goals as goal

-- the library's bytes of a word
four_bytes : (n : ℕ) → to_le_bytes w32 n ≡ low_first word_bytes n
four_bytes n = rw (div-div-eq-div-mul n 256 256, div-div-eq-div-mul n 65536 256) refl

-- four elements put at a place, in one or one by one
put_four : (l bs : List ℕ) (at k : ℕ) → k ≡ length bs → at + length bs ≤ length l → put_mid at k l bs ≡ sets l at bs
put_four l bs at k e h = rw (e, drop-drop (length bs) at l) (sym (append_assoc (take at l) bs _) ∙ sym (sets-eq bs l at h))

pub returns : goal.returns
returns c =
    let a = c.args in
    let copied : c.copy_from_slice.new.self ≡ low_first word_bytes a.n = c.copy_from_slice.ensures.after ∙ c.to_le_bytes.ensures ∙ four_bytes a.n in
    rw copied (put_four a.room.now (low_first word_bytes a.n) a.at (a.at + 4 - a.at) (omega arith) c.requires)
