-- `members::nesting::is_nested` meets its contract. The check finds this alone; it is written out so that a wrong test is refused with the
-- values at which it is wrong. Assumes nothing.
use Rattle.std.proofs.Common.{rules}
use Rattle.members.proofs.nesting.is_nested.Goals as goal

pub returns-then-is_inside-2 : goal.returns-then-is_inside-2
returns-then-is_inside-2 c = search rules
