use Rattle.std.proofs.Common.{rules}
use Rattle.step_rows.proofs.Lists.{begun-none}
use Rattle.step_rows.proofs.Turns.{base-turn}
use Rattle.step_rows.proofs.base_row.Goals as goal

pub loop-i-init : goal.loop-i-init
loop-i-init c = (search rules, begun-none _ _ _ 0, search rules)

pub loop-i-preserved : goal.loop-i-preserved
loop-i-preserved c = (search rules, base-turn c.requires (search rules) c.loop-i.invariant.1 c.begin_link.ensures, search rules)
