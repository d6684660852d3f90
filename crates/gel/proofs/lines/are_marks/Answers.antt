-- `gel::lines::are_marks` meets its contract: the bytes are tested one after another. Assumes nothing.
use Rattle.std.proofs.Common.{Bool, true, ◌&&◌, ℕ, ◌∙◌, rules}
use Rattle.std.proofs.lemmas.Iterator.{YieldsList-from_slice}
use Rattle.std.proofs.lemmas.Iterator.Consumers.{fold_from_yields_List}
use Rattle.gel.specs.Lines.{is_mark}
use Rattle.laws.proofs.Chains.{fold-every}
use Rattle.gel.proofs.lines.are_marks.Goals as goal

pub returns : goal.returns
returns c =
    fold_from_yields_List _ (λ (whole : Bool) (b : ℕ). whole && is_mark b) true c.fold.result c.fold.ensures.ran
    (YieldsList-from_slice c.args.bytes.now cc) (λ a x b q k. search rules)
    ∙ fold-every is_mark true c.args.bytes.now
