use Rattle.std.proofs.Common.{rules}
use Rattle.base_laws.proofs.Kit.{arith}
use Rattle.step_rows.proofs.Scatter.{added_none, added-turn}
use Rattle.step_rows.proofs.add_movements.Goals as goal

pub loop-j-init : goal.loop-j-init
loop-j-init c = search (added_none, rules)

pub loop-j-preserved : goal.loop-j-preserved
loop-j-preserved c = added-turn c.requires (omega (arith, c.loop-j-test.true, c.requires.named.size)) c.loop-j.invariant c.moved.ensures c.add_movement.ensures
