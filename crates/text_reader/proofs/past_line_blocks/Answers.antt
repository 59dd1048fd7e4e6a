use Rattle.std.proofs.Common.{◌∙◌, sym, arith}
use Rattle.text_reader.specs.Passing.{block_size}
use Rattle.text_reader.proofs.Passing.{in-block}
use Rattle.text_reader.proofs.past_line_blocks.Goals as goal

pub loop-place-preserved : goal.loop-place-preserved
loop-place-preserved c =
    in-block block_size c.loop-place.invariant (omega (arith, c.loop-place.invariant.within, c.loop-place-test.true)) (sym c.stays_in_line.ensures ∙ c.if-stays_in_line.true)
