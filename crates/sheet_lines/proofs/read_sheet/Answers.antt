use Rattle.sheet_lines.proofs.Lines.{read_none, line-asked, read-refused, read_next, read-ended}
use Rattle.sheet_lines.proofs.read_sheet.Goals as goal

pub loop-r-init : goal.loop-r-init
loop-r-init c = read_none c.requires c.args.offset c.told-table

pub read_line-requires : goal.read_line-requires
read_line-requires c = line-asked c.requires c.args.offset c.loop-r.invariant c.loop-r-test.true

pub returns-in_default : goal.returns-in_default
returns-in_default c = read-refused c.requires c.args.offset c.loop-r.invariant c.loop-r-test.true c.read_line.ensures c.in_default.is c.refusal.ensures

pub loop-r-preserved : goal.loop-r-preserved
loop-r-preserved c = read_next c.requires c.args.offset c.loop-r.invariant c.loop-r-test.true c.read_line.ensures c.in-Some.is

pub returns : goal.returns
returns c = read-ended c.requires c.args.offset c.loop-r.invariant c.loop-r-test.false c.is_end.ensures c.checked.ensures
