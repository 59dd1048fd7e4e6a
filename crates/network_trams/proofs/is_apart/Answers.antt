-- `network_trams::is_apart` meets its contract.
use Rattle.std.proofs.Common.{refl}
use Rattle.base_laws.specs.Test.{◌or◌}
use Rattle.network_trams.specs.Trams.{apart_in}
use Rattle.network_trams.proofs.is_apart.Goals as goal

pub returns : goal.returns
unfolding apart_in ◌or◌
returns c = refl
