-- `cases_split::compare::judge` meets its contract.
use Rattle.cases_split.proofs.compare.judge.Goals as goal

pub returns : goal.returns
returns g c =
    let split = c.split-answer.ensures.split_in_two in
    rw (← split.told, ← split.holds) c.is_as_stored.ensures
