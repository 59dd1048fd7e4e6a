-- `split::measure` meets its contract. The texts are put where there is no room.
use Rattle.split.proofs.Writing.{measured}
use Rattle.split.proofs.measure.Goals as goal

pub returns : goal.returns
returns c = measured c.args.whole.now c.requires.held c.args.halves.now c.put_network-network_1.ensures c.put_plan-plan_1.ensures c.put_network-network_2.ensures c.put_plan-plan_2.ensures
