use Rattle.std.proofs.Common.{rules}
use Rattle.step_sums.specs.Sums.{leaves_arrived}
use Rattle.step_sums.proofs.Turns.{arrived-before}
use Rattle.step_sums.proofs.StepRows.leaves_arrived.Goals as goal

pub returns-then-left-start : goal.returns-then-left-start
returns-then-left-start c = search (arrived-before, rules)

pub returns : goal.returns
unfolding leaves_arrived
returns c = search rules
