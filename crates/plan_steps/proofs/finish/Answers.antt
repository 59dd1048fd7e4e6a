-- `plan_steps::finish` meets its contract.
use Rattle.base_search.proofs.Laws.{passed_on}
use Rattle.base_laws.proofs.Kit.{sym, ◌∙◌}
use Rattle.plan_steps.proofs.Runs.{finish-end, finish-more}
use Rattle.plan_steps.proofs.finish.Goals as goal

pub returns-in_err-checked : goal.returns-in_err-checked
returns-in_err-checked c = rw (passed_on _ _ c.from_residual.ensures.1) (finish-more _ _ _ _ _ c.is_end.ensures _ (sym c.checked.ensures ∙ c.in_err-checked.was))

pub returns : goal.returns
returns c = finish-end _ _ _ _ _ c.is_end.ensures (sym c.checked.ensures ∙ c.in_ok-checked.was)
