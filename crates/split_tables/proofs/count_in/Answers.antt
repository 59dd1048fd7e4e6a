-- `split_tables::count_in` meets its contract.
use Rattle.std.proofs.Common.{rules}
use Rattle.model_split.proofs.Numbering.{rank-le}
use Rattle.split_tables.proofs.Items.{counted_all}
use Rattle.split_tables.proofs.count_in.Goals as goal

pub returns : goal.returns
returns c = search (counted_all, rank-le, rules)
