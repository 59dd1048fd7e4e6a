-- `cases_plan::answers::judge` meets its contract.
use Rattle.std.proofs.Common.{rules}
use Rattle.cases_plan.specs.Compare.{reported_to}
use Rattle.cases_plan.proofs.answers.judge.Goals as goal

pub returns : goal.returns
unfolding reported_to
returns g c =
    let e = c.answer_to-outcome.ensures in
    rw (← e.value, ← e.ledger_after, ← e.second_ledger_after, ← e.buffer_after, ← c.checksum.ensures) (search rules)
