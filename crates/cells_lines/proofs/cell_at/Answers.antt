-- `cells_lines::cell_at` meets its contract.
use Rattle.std.proofs.Common.{arith}
use Rattle.base_search.specs.Checks.{verdict, checked, or_else}
use Rattle.base_search.proofs.Laws.{passed_on}
use Rattle.text_reader.specs.Reading.{record_at}
use Rattle.cells_lines.specs.Corridor.{letter_c, cell_of, start_of, cell_form, start_held, cell_line_checks}
use Rattle.cells_lines.proofs.Lines.{no-record, row_of}
use Rattle.cells_lines.proofs.cell_at.Goals as goal

pub returns-in_err-next-clause-err : goal.returns-in_err-next-clause-err
unfolding cell_line_checks cell_form verdict checked or_else
returns-in_err-next-clause-err c = let n = no-record letter_c c.args.text.now c.args.at c.line_at.ensures c.in_err-next.ensures.ok_part in grind arith

pub returns-in_err-checked-clause-err : goal.returns-in_err-checked-clause-err
unfolding cell_of start_of cell_line_checks cell_form verdict checked or_else
returns-in_err-checked-clause-err c =
    let r = row_of letter_c c.args.text.now c.args.at c.line_at.ensures c.in_ok-next.ensures.ok_part in
    rw (passed_on _ _ c.from_residual-in_err-checked.ensures.1) (grind arith)

pub returns-in_err-checked-2-clause-err : goal.returns-in_err-checked-2-clause-err
unfolding cell_of start_of cell_line_checks cell_form start_held verdict checked or_else
returns-in_err-checked-2-clause-err c =
    let r = row_of letter_c c.args.text.now c.args.at c.line_at.ensures c.in_ok-next.ensures.ok_part in
    rw (passed_on _ _ c.from_residual-in_err-checked-2.ensures.1) (grind arith)

pub returns-clause-ok : goal.returns-clause-ok
unfolding cell_of start_of cell_line_checks cell_form start_held verdict checked or_else record_at
returns-clause-ok c = let r = row_of letter_c c.args.text.now c.args.at c.line_at.ensures c.in_ok-next.ensures.ok_part in grind arith
