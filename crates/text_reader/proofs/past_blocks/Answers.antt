use Rattle.std.proofs.Common.{rules}
use Rattle.text_reader.proofs.Passing.{pass-block}
use Rattle.text_reader.proofs.past_blocks.Goals as goal

pub loop-place-preserved : goal.loop-place-preserved
loop-place-preserved c = pass-block c.loop-place.invariant (search rules) c.separators_in-sum.ensures (search rules) (search rules)
