-- `split_tables::in_set` meets its contract.
use Rattle.std.proofs.Common.{rules}
use Rattle.model_split.specs.Call.{in_set}
use Rattle.split_tables.proofs.in_set.Goals as goal

pub returns : goal.returns
unfolding in_set
returns c = search rules
