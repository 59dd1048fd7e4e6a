use Rattle.base_laws.proofs.Kit.{refl}
use Rattle.carry.proofs.Reading.{steps-none, steps_next}
use Rattle.carry.proofs.put_steps.Goals as goal

pub loop-n-init : goal.loop-n-init
loop-n-init c = steps-none refl

pub loop-n-preserved : goal.loop-n-preserved
loop-n-preserved c =
    steps_next c.loop-n.invariant c.loop-n-test.true c.requires.rising.few-links c.step_width.ensures c.read_again-line.ensures c.fill_volumes.ensures c.fill_volumes.auto.row
    (rw c.past_width.ensures at c.put_line.ensures)
