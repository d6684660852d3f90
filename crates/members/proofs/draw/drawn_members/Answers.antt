-- `members::draw::drawn_members` meets its contract: the three tests of the marks, in the definition's order. Assumes nothing.
use Rattle.std.proofs.Common.{w64, of_z, sym, ap, ◌∙◌, rules}
use Rattle.laws.proofs.Signed.{same_bits}
use Rattle.members.proofs.Laws.Draw.{found_unscored, found_other, found_no_tree, found_tree}
use Rattle.members.proofs.draw.drawn_members.Goals as goal
use Rattle.members.proofs.draw.drawn_members.Goals.{then-members-t-via-then-members-t, then-members-t-via-else-members-t+then-not-is_tree}

pub returns-in_default : goal.returns-in_default
returns-in_default c = found_unscored c.requires c.in_default.ensures

pub returns-then-members-t : goal.returns-then-members-t
returns-then-members-t c =
    elim c.then-members-t.branch [
      | then-members-t-via-then-members-t w ↦ found_other c.requires c.in-Some.ensures (λ e. w.if-members-t.true (ap (of_z w64) e))
      | then-members-t-via-else-members-t+then-not-is_tree w ↦
          found_no_tree c.requires c.in-Some.ensures (same_bits w64 (search rules) (search rules) w.if-members-t.false)
          (rw w.deref.ensures.0 at (sym w.if-not-is_tree.ensures))
    ]

pub returns : goal.returns
returns c =
    found_tree c.requires c.in-Some.ensures (same_bits w64 (search rules) (search rules) c.if-members-t.false)
    (rw c.deref.ensures.0 at (sym c.if-not-is_tree.ensures)) c.len-size.ensures.value
    (c.copy_from_slice.ensures.after ∙ c.deref-2.ensures.0)
