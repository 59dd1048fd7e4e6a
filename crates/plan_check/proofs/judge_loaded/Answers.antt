-- `plan_check::judge_loaded` meets its contract: one law for each way out.
use Rattle.plan_check.proofs.Plans.{plan-short, run-asked, plan_run}
use Rattle.plan_check.proofs.judge_loaded.Goals as goal

pub returns-then-ledger-row_start : goal.returns-then-ledger-row_start
returns-then-ledger-row_start c = rw c.refusal.ensures (plan-short c.args.tables.now c.args.plan.now c.args.ledger.now c.requires c.row_start.ensures c.if-ledger-row_start.true)

pub run_steps-requires : goal.run_steps-requires
run_steps-requires c = run-asked c.args.tables.now c.args.plan.now c.args.ledger.now c.requires c.row_start.ensures c.if-ledger-row_start.false

pub returns : goal.returns
returns c = plan_run c.args.tables.now c.args.plan.now c.args.ledger.now c.requires c.row_start.ensures c.if-ledger-row_start.false c.run_steps.ensures
