-- `network_signals::valid_phases` meets its contract.
use Rattle.std.proofs.Common.{rules}
use Rattle.base_laws.specs.Test.{◌and◌, within}
use Rattle.network_signals.proofs.valid_phases.Goals as goal

pub returns : goal.returns
unfolding within ◌and◌
returns c = search rules
