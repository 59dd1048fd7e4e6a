-- `network_steps::valid_step` meets its contract.
use Rattle.std.proofs.Common.{◌≡◌, refl, rules}
use Rattle.base_laws.specs.Test.{◌and◌, within}
use Rattle.network_steps.specs.Steps.{valid_step_in}
use Rattle.network_steps.proofs.valid_step.Goals as goal

pub returns : goal.returns
unfolding valid_step_in ◌and◌ within
returns c = let short : c.contains.result ≡ within 1 c.args.seconds 60 = search rules in rw (short, c.valid_demands.ensures) refl
