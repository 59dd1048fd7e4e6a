use Rattle.std.proofs.Common.{rules}
use Rattle.step_signals.specs.Rules.{signal_rule_holds}
use Rattle.step_check.specs.Step.{rule_holds}
use Rattle.step_check.proofs.Rule.holds.Goals as goal

pub returns-in-Signal : goal.returns-in-Signal
unfolding rule_holds signal_rule_holds
returns-in-Signal c = search rules

pub returns-in-Limit : goal.returns-in-Limit
unfolding rule_holds
returns-in-Limit c = search rules

pub returns-in-Sum : goal.returns-in-Sum
unfolding rule_holds
returns-in-Sum c = search rules
