-- `members::nesting::has_taxa` meets its contract: the chain asks of the taxa upward. Assumes nothing.
use Rattle.std.proofs.Common.{◌*◌, ◌^◌, ◌%◌, refl, sym, ◌∙◌, rules, tests}
use Rattle.std.proofs.lemmas.Iterator.{YieldsList-from_map, YieldsList-from_range}
use Rattle.std.proofs.lemmas.Iterator.Search.{all_from_yields_List}
use Rattle.laws.specs.Limits.{narrow, word_values}
use Rattle.members.proofs.Laws.TreeTest.{has_taxon, taxa_upward}
use Rattle.members.proofs.nesting.has_taxa.Goals as goal

pub returns : goal.returns
returns c =
    let p = has_taxon c.args.c c.args.xs.now in
    let upward = YieldsList-from_range 0 narrow.taxa narrow.taxa c.map.ensures.source refl in
    all_from_yields_List p _ _ _ c.all.ensures.ran
    (YieldsList-from_map _ (λ i. 1 * 2 ^ i % word_values) upward c.map.ensures.closure (λ x r q k. search rules))
    (λ x b q k. search (rules, tests))
    ∙ sym (taxa_upward p narrow.taxa)
