-- `plancheck_report::write_rows` meets its contract: one law for each turn.
use Rattle.base_laws.proofs.Kit.{arith}
use Rattle.plancheck_report.proofs.Boundaries.{rows-first, rows-again}
use Rattle.plancheck_report.proofs.write_rows.Goals as goal

pub loop-n-init : goal.loop-n-init
loop-n-init c = search rows-first

pub loop-n-preserved : goal.loop-n-preserved
loop-n-preserved c =
    let wrote = rw (c.row_start.ensures, c.row_start-in-loop-n.ensures, c.time_of.ensures) at c.write_boundary-next.ensures in
    rows-again c.requires c.loop-n.n (omega arith) c.loop-n.invariant wrote
