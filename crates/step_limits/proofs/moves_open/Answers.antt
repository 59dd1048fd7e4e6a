use Rattle.std.proofs.Common.{rules}
use Rattle.step_limits.proofs.Turns.{nothing-moves, moves-open-is}
use Rattle.step_limits.proofs.moves_open.Goals as goal

pub returns-then-moved-eq0 : goal.returns-then-moved-eq0
returns-then-moved-eq0 c = search (nothing-moves, rules)

pub returns-else-moved-eq0 : goal.returns-else-moved-eq0
returns-else-moved-eq0 c = moves-open-is _ _ c.moved.ensures c.if-moved-eq0.false c.from_link.result c.from_link.ensures.0 c.is_open.ensures
