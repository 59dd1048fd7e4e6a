-- Each rule is the definition's.
use Rattle.std.proofs.Common.{rules}
use Rattle.base_laws.specs.Test.{◌or◌}
use Rattle.step_signals.specs.Rules.{signal_test}
use Rattle.step_signals.proofs.SignalRule.holds.Goals as goal

pub returns-in-OnePhase : goal.returns-in-OnePhase
unfolding signal_test ◌or◌
returns-in-OnePhase c = search rules

pub returns-in-TramPhase : goal.returns-in-TramPhase
unfolding signal_test ◌or◌
returns-in-TramPhase c = search rules

pub returns-in-Order : goal.returns-in-Order
unfolding signal_test ◌or◌
returns-in-Order c = search rules

pub returns-in-LeastTime : goal.returns-in-LeastTime
unfolding signal_test ◌or◌
returns-in-LeastTime c = search rules

pub returns-in-GreatestTime : goal.returns-in-GreatestTime
unfolding signal_test ◌or◌
returns-in-GreatestTime c = search rules

pub returns-in-Cycle : goal.returns-in-Cycle
unfolding signal_test ◌or◌
returns-in-Cycle c = search rules
