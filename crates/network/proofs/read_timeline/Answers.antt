-- `network::read_timeline` meets its contract.
use Rattle.base_search.proofs.Laws.{passed_on}
use Rattle.std.proofs.Common.{refl, rules}
use Rattle.network.proofs.Timeline.{forms-stop, steps-asked, steps-stop, end-asked, end-stop, past-asked, past-stop, timeline-judged}
use Rattle.network.proofs.read_timeline.Goals as goal

pub returns-in_err-reading : goal.returns-in_err-reading
returns-in_err-reading c = rw (passed_on _ _ c.from_residual.ensures.1) (forms-stop c.requires c.read_past.ensures c.in_err-reading.was)

pub read_steps-requires : goal.read_steps-requires
read_steps-requires c = steps-asked c.requires c.read_past.ensures c.in_ok-reading.was (search rules)

pub returns-in_err-reading-2 : goal.returns-in_err-reading-2
returns-in_err-reading-2 c = rw (passed_on _ _ c.from_residual-in_err-reading-2.ensures.1) (steps-stop c.requires c.read_past.ensures c.in_ok-reading.was c.read_steps.ensures c.in_err-reading-2.was)

pub check_end-requires : goal.check_end-requires
check_end-requires c = end-asked c.requires c.read_past.ensures c.in_ok-reading.was c.read_steps.ensures c.in_ok-reading-2.was

pub returns-in_err-check_end : goal.returns-in_err-check_end
returns-in_err-check_end c =
    rw (passed_on _ _ c.from_residual-in_err-check_end.ensures.1) (end-stop c.requires c.read_past.ensures c.in_ok-reading.was c.read_steps.ensures c.in_ok-reading-2.was c.check_end.ensures c.in_err-check_end.was)

pub check_past-requires : goal.check_past-requires
check_past-requires c =
    past-asked c.requires c.read_past.ensures c.in_ok-reading.was c.read_steps.ensures c.in_ok-reading-2.was c.check_end.ensures c.in_ok-check_end.was _ refl refl refl refl

pub returns-in_err-check_past : goal.returns-in_err-check_past
returns-in_err-check_past c =
    rw (passed_on _ _ c.from_residual-in_err-check_past.ensures.1)
    (past-stop c.requires c.read_past.ensures c.in_ok-reading.was c.read_steps.ensures c.in_ok-reading-2.was c.check_end.ensures c.in_ok-check_end.was c.check_past.ensures.judged c.in_err-check_past.was)

pub returns : goal.returns
returns c =
    timeline-judged c.requires c.read_past.ensures c.in_ok-reading.was c.read_steps.ensures c.in_ok-reading-2.was c.check_end.ensures c.in_ok-check_end.was c.check_past.ensures.judged c.in_ok-check_past.was (c.check_past.ensures.held c.in_ok-check_past.was) _ refl refl refl refl refl
