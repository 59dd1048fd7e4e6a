-- `split_tables::is_border` meets its contract.
use Rattle.split_tables.specs.Tables.{is_in, is_border}
use Rattle.split_tables.proofs.Tables.{just_one}
use Rattle.split_tables.proofs.is_border.Goals as goal

pub returns : goal.returns
unfolding is_border is_in
returns c = just_one _ _
