use Rattle.std.proofs.Common.{rules, arith, refl}
use Rattle.std.proofs.Math.Seq.{set-get_or}
use Rattle.base_search.specs.Checks.{checked}
use Rattle.base_search.proofs.Laws.{passed_on}
use Rattle.cells_lines.proofs.Cells.{cells-none, cells-all, cells-refused, cells-too-many, cells-more}
use Rattle.cells_lines.proofs.read_cells.Goals as goal

pub loop-n-init : goal.loop-n-init
loop-n-init c = search (cells-none, rules)

pub returns-then-not-is_cell-clause-ok : goal.returns-then-not-is_cell-clause-ok
returns-then-not-is_cell-clause-ok c = rw set-get_or (cells-all c.loop-n.invariant refl (omega arith) (grind arith))

pub returns-in_err-cell-clause-err : goal.returns-in_err-cell-clause-err
returns-in_err-cell-clause-err c = let e = cells-refused c.loop-n.invariant (grind arith) c.in_err-cell.ensures.err in grind arith

pub loop-n-preserved : goal.loop-n-preserved
loop-n-preserved c = cells-more c.loop-n.invariant (grind arith) c.in_ok-cell.ensures.ok (omega arith) (omega arith)

pub returns-in_err-checked-clause-err : goal.returns-in_err-checked-clause-err
unfolding checked
returns-in_err-checked-clause-err c = rw (passed_on _ _ c.from_residual-in_err-checked.ensures.1) (let e = cells-too-many c.loop-n.invariant (grind arith) (omega arith) in grind arith)

pub returns-clause-ok : goal.returns-clause-ok
unfolding checked
returns-clause-ok c = cells-all c.loop-n.invariant (omega arith) (omega arith) (grind arith)
