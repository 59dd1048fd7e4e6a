-- `network_trams::valid_phase` meets its contract.
use Rattle.std.proofs.Common.{rules}
use Rattle.base_laws.specs.Test.{◌and◌, within}
use Rattle.network_trams.specs.Trams.{valid_phase_in}
use Rattle.network_trams.proofs.valid_phase.Goals as goal

pub returns : goal.returns
unfolding valid_phase_in within ◌and◌
returns c = search rules
