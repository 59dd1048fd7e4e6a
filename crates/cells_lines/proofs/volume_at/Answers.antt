-- `cells_lines::volume_at` meets its contract.
use Rattle.std.proofs.Common.{arith}
use Rattle.base_search.specs.Checks.{checked}
use Rattle.base_search.proofs.Laws.{passed_on}
use Rattle.text_reader.specs.Reading.{record_at}
use Rattle.cells_lines.specs.Corridor.{volume_form}
use Rattle.cells_lines.proofs.Lines.{no-record, row_of}
use Rattle.cells_lines.proofs.volume_at.Goals as goal

pub returns-in_err-next-clause-err : goal.returns-in_err-next-clause-err
unfolding volume_form
returns-in_err-next-clause-err c = let n = no-record c.args.letter c.args.text.now c.args.at c.line_at.ensures c.in_err-next.ensures.ok_part in grind arith

pub returns-in_err-checked-clause-err : goal.returns-in_err-checked-clause-err
unfolding volume_form checked
returns-in_err-checked-clause-err c =
    let r = row_of c.args.letter c.args.text.now c.args.at c.line_at.ensures c.in_ok-next.ensures.ok_part in
    rw (passed_on _ _ c.from_residual-in_err-checked.ensures.1) (grind arith)

pub returns-clause-ok : goal.returns-clause-ok
unfolding volume_form record_at checked
returns-clause-ok c = let r = row_of c.args.letter c.args.text.now c.args.at c.line_at.ensures c.in_ok-next.ensures.ok_part in grind arith
