-- `cases_cells::compare::judge` meets its contract.
use Rattle.std.proofs.Common.{rules}
use Rattle.text_reader.specs.Lines.{lines}
use Rattle.cells_call.proofs.Guarantees.{volumes-told}
use Rattle.cases_cells.proofs.compare.judge.Goals as goal

pub returns : goal.returns
returns g c = rw (← volumes-told (lines c.args.corridor.now), ← c.run_cells-answer.ensures.answer_value) (search rules)
