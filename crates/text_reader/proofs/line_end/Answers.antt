use Rattle.std.proofs.Common.{arith}
use Rattle.text_reader.proofs.Passing.{in-byte, line-ends}
use Rattle.text_reader.proofs.line_end.Goals as goal

pub loop-place-preserved : goal.loop-place-preserved
loop-place-preserved c = in-byte c.loop-place.invariant c.loop-place-test.true c.if-text-place-ne10.true

pub returns-else-text-place-ne10 : goal.returns-else-text-place-ne10
returns-else-text-place-ne10 c = line-ends c.loop-place.invariant (λ h. c.if-text-place-ne10.false)

pub returns-after-loop-place : goal.returns-after-loop-place
returns-after-loop-place c = line-ends c.loop-place.invariant (λ h. omega (arith, c.loop-place-test.false))
