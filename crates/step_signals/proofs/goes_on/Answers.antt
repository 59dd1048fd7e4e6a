use Rattle.std.proofs.Common.{rules}
use Rattle.base_laws.specs.Test.{◌and◌}
use Rattle.step_signals.specs.Rules.{goes_on}
use Rattle.step_signals.proofs.goes_on.Goals as goal

pub returns : goal.returns
unfolding goes_on ◌and◌
returns c = search rules
