use Rattle.std.proofs.Common.{rules}
use Rattle.step_rows.proofs.Turns.{alone-none, alone-link}
use Rattle.step_limits.proofs.Passed.{no-links, one-link}
use Rattle.step_limits.proofs.links_within_limits.Goals as goal

pub loop-i-init : goal.loop-i-init
loop-i-init c = (search rules, no-links, alone-none _ _)

pub loop-i-preserved : goal.loop-i-preserved
loop-i-preserved c = (search rules, one-link c.loop-i.invariant.1 (search rules) (search rules) (search rules) c.begin_link.ensures, alone-link c.loop-i.invariant.2 _ _ _ (search rules) c.begin_link.ensures)
