-- `plan_check::check_plan` meets its contract.
use Rattle.base_search.proofs.Laws.{passed_on}
use Rattle.plan_check.proofs.Plans.{plan-refused, plan-promised}
use Rattle.plan_check.proofs.check_plan.Goals as goal

pub judge_loaded-requires : goal.judge_loaded-requires
judge_loaded-requires c = (c.read_start.ensures.held _ c.in_ok-tables.was).loaded

pub returns-in_err-tables : goal.returns-in_err-tables
returns-in_err-tables c =
    let p = plan-promised (plan-refused c.args.network.now c.args.plan.now c.args.ledger.now (c.read_start.ensures.refused _ c.in_err-tables.was)) in
    rw (passed_on _ _ c.from_residual.ensures.1) (record { value = p.0; ledger_after = p.1.0; promises = p.1.1.0; empty_holds = p.1.1.1.0; padding_ignored = p.1.1.1.1 })

pub returns : goal.returns
returns c =
    let text = (c.read_start.ensures.held _ c.in_ok-tables.was).same-text in
    let p = plan-promised (rw text at c.judge_loaded.ensures) in
    record { value = p.0; ledger_after = p.1.0; promises = p.1.1.0; empty_holds = p.1.1.1.0; padding_ignored = p.1.1.1.1 }
