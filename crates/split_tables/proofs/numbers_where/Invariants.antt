-- `split_tables::numbers_where` meets its contract.
use Rattle.split_tables.proofs.Items.{NumberedTo}
use Rattle.split_tables.proofs.numbers_where.Given as goal

abbrev pub invariant-loop-k : goal.invariant-loop-k
invariant-loop-k g l = NumberedTo (goal.F-post g l.is_in) l.count g.row.N l.numbers l.last l.k
