use Rattle.std.proofs.Common.{rules, arith}
use Rattle.traces.proofs.Turns.{moving_none, moving_more, moving_all}
use Rattle.traces.proofs.move_all.Goals as goal

pub loop-i-init : goal.loop-i-init
loop-i-init c = search moving_none

pub loop-i-preserved : goal.loop-i-preserved
loop-i-preserved c = search (rules, moving_more)

pub returns : goal.returns
returns c = moving_all _ _ _ _ _ _ _ c.loop-i.invariant (omega arith)
