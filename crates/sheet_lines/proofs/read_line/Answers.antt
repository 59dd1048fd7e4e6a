-- `sheet_lines::read_line` meets its contract.
use Rattle.sheet_lines.proofs.Lines.{numbers-asked, line-malformed, line-judged}
use Rattle.sheet_lines.proofs.read_line.Goals as goal

pub valid_numbers-requires : goal.valid_numbers-requires
valid_numbers-requires c = numbers-asked c.requires c.args.offset c.from.ensures c.read_row.ensures

pub returns : goal.returns
returns c = rw c.then_some.ensures (line-judged c.requires c.args.offset c.from.ensures c.read_row.ensures c.in_ok-next.was c.valid_numbers.result c.valid_numbers.ensures)

pub returns-in_err-next : goal.returns-in_err-next
returns-in_err-next c = rw c.from_residual.ensures (line-malformed c.requires c.args.offset c.from.ensures c.read_row.ensures c.in_err-next.was)
