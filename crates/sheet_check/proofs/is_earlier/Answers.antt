-- `sheet_check::is_earlier` meets its contract.
use Rattle.std.proofs.Common.{rules}
use Rattle.base_laws.specs.Test.{◌and◌, ◌or◌}
use Rattle.model_sheet.specs.Pass.{earlier}
use Rattle.sheet_check.proofs.is_earlier.Goals as goal

pub returns : goal.returns
unfolding earlier ◌and◌ ◌or◌
returns c = search rules
