use Rattle.std.proofs.Common.{rules}
use Rattle.base_search.specs.Checks.{checked}
use Rattle.base_search.proofs.checked.Goals as goal

pub returns-then-holds : goal.returns-then-holds
unfolding checked
returns-then-holds c = search rules

pub returns-else-holds : goal.returns-else-holds
unfolding checked
returns-else-holds c = search rules
