use Rattle.split_text.proofs.Picked.{picks-none}
use Rattle.split_text.proofs.Lines.{signals-more, signals-same}
use Rattle.split_text.proofs.put_signals.Goals as goal
use Rattle.split_text.proofs.put_signals.Goals.{then-half-r-ne0, else-half-r-ne0}

pub loop-r-init : goal.loop-r-init
loop-r-init c = picks-none _ _ _ _

pub loop-r-preserved : goal.loop-r-preserved
loop-r-preserved c =
    let h = c.loop-r-test.true in
    let half = c.args.half.now in
    let t = c.loop-r.invariant in
    elim c.if-half-r-ne0.branch [
      | then-half-r-ne0 w ↦ rw w.output-is (signals-more c.requires half h t w.if-half-r-ne0.true _ w.from-row.ensures w.width.ensures w.put_line.ensures)
      | else-half-r-ne0 w ↦ rw w.output-is (signals-same c.requires half h t w.if-half-r-ne0.false)
    ]
