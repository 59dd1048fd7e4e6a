use Rattle.std.proofs.Common.{rules}
use Rattle.carry.proofs.Filling.{volumes-none, volumes-next}
use Rattle.carry.proofs.fill_volumes.Goals as goal

pub loop-i-init : goal.loop-i-init
loop-i-init c = search (volumes-none, rules)

pub loop-i-preserved : goal.loop-i-preserved
loop-i-preserved c = search (volumes-next, rules)
