-- `plan_steps::run_steps` meets its contract: one law for each way out.
use Rattle.base_search.proofs.Laws.{passed_on}
use Rattle.plan_steps.proofs.Runs.{run-refused, run-finished}
use Rattle.plan_steps.proofs.run_steps.Goals as goal

pub returns-in_err-state : goal.returns-in_err-state
returns-in_err-state c = rw (passed_on _ _ c.from_residual.ensures.1) (run-refused _ c.requires c.take_steps.ensures c.in_err-state.was)

pub returns : goal.returns
returns c = run-finished _ c.requires c.take_steps.ensures c.in_ok-state.was c.finish.ensures
