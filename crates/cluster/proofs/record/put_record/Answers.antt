-- `cluster::record::put_record` meets its contract: three words stored, one after the other. Assumes nothing.
use Rattle.std.proofs.Common.{◌≡◌, List, ◌++◌, ℕ, ◌≤◌, ◌<◌, length, drop, ap, ◌∙◌, of_z, rules}
use mir.Facts.{to_z-of_z}
use mir.Val.{SFits}
use Rattle.std.specs.Int.{w32}
use Rattle.std.proofs.lemmas.List.Edits.{sets}
use Rattle.laws.specs.Limits.{narrow}
use Rattle.cluster.specs.declared.record.Record.{Record}
use Rattle.cluster.specs.Bytes.{byte_values, word_bytes, low_first}
use Rattle.cluster.specs.Record.{record_bytes, weight_at, state_at, row_in, bytes_of}
use Rattle.cluster.proofs.Laws.Record.{stored_is}
use Rattle.cluster.proofs.record.put_record.Goals as goal

-- the three stores, over plain lists
stores : (r : Record) (l : List ℕ) {a b c : List ℕ} {u : ℕ} → record_bytes ≤ length l → r.state < byte_values
    → a ≡ sets l 0 (low_first word_bytes r.cluster) → b ≡ sets a (weight_at narrow) (low_first word_bytes u)
    → c ≡ sets b (state_at narrow) (low_first word_bytes r.state) → u ≡ of_z w32 r.weight
    → c ≡ bytes_of narrow (row_in r) ++ drop record_bytes l
stores r l h k p q t e = t ∙ rw (q, p, e) (stored_is r l h k)

pub returns : goal.returns
returns c =
    let weight_fits : SFits w32 c.args.r.weight = search rules in
    stores c.args.r c.args.room.now c.requires (search rules) c.put_word.ensures c.put_word-2.ensures c.put_word-3.ensures
    (c.unsigned_of.ensures ∙ ap (of_z w32) (to_z-of_z weight_fits))
