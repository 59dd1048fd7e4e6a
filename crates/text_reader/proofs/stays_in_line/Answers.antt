use Rattle.text_reader.proofs.Passing.{stays-none, stays-more}
use Rattle.text_reader.proofs.stays_in_line.Goals as goal

pub loop-k-init : goal.loop-k-init
loop-k-init c = stays-none c.args.text.now c.args.at

pub loop-k-preserved : goal.loop-k-preserved
loop-k-preserved c = stays-more _ _ _ c.loop-k.invariant
