-- `step_past::move_on` meets its contract.
use Rattle.std.proofs.Common.{rules}
use Rattle.step_past.proofs.Moving.{move-plan}
use Rattle.step_past.proofs.move_on.Goals as goal

pub returns-then-tables-to : goal.returns-then-tables-to
returns-then-tables-to c = search (move-plan, rules)
