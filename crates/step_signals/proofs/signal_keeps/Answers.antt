use Rattle.std.proofs.Common.{rules}
use Rattle.base_laws.specs.Test.{◌and◌}
use Rattle.step_signals.specs.Rules.{keeps_all}
use Rattle.step_signals.proofs.Rules.{goes-keeps}
use Rattle.step_signals.proofs.signal_keeps.Goals as goal

pub returns-then-asked-ne0 : goal.returns-then-asked-ne0
unfolding keeps_all ◌and◌
returns-then-asked-ne0 c = search rules

pub returns-then-goes_on : goal.returns-then-goes_on
unfolding keeps_all
returns-then-goes_on c = search (goes-keeps, rules)

pub returns-else-goes_on : goal.returns-else-goes_on
unfolding keeps_all
returns-else-goes_on c = search rules
