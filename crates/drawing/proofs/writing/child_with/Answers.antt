-- `drawing::writing::child_with` meets its contract: the chain gives the largest of the parts with the taxon. Assumes nothing.
use Rattle.std.proofs.Common.{◌∙◌, rules}
use Rattle.std.proofs.iter.runs.Made.{chains}
use Rattle.drawing.proofs.PartWith.{child_found}
use Rattle.drawing.proofs.writing.child_with.Goals as goal

pub returns : goal.returns
returns c =
    let a = c.args in c.unwrap_or.ensures ∙ child_found a.xs.now a.part a.taxon c.max.result c.requires (search (rules, chains))
