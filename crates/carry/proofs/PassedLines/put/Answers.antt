use Rattle.std.proofs.Common.{rules}
use Rattle.carry.proofs.Reading.{copied_none, copied_next}
use Rattle.carry.proofs.PassedLines.put.Goals as goal

pub loop-init : goal.loop-init
loop-init c = search (copied_none, rules)

pub loop-preserved : goal.loop-preserved
loop-preserved c = search (copied_next, rules)
