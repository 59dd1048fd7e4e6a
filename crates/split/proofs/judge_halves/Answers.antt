-- `split::judge_halves` meets its contract. One law for each way out.
use Rattle.base_search.proofs.Laws.{passed_on}
use Rattle.base_laws.proofs.Kit.{◌∙◌, sym}
use Rattle.split.proofs.Splitting.{parts-asked, form-asked, no-split, no-parts, form-judged}
use Rattle.split.proofs.judge_halves.Goals as goal

pub parts_signals-requires : goal.parts_signals-requires
parts_signals-requires c = parts-asked c.requires

pub plan_form-requires : goal.plan_form-requires
plan_form-requires c = form-asked c.requires

pub returns-in_err-checked : goal.returns-in_err-checked
returns-in_err-checked c = rw (passed_on _ _ c.from_residual.ensures.1) (no-split c.requires c.can_split.ensures (sym c.checked.ensures ∙ c.in_err-checked.was))

pub returns-in_err-checked-2 : goal.returns-in_err-checked-2
returns-in_err-checked-2 c = rw (passed_on _ _ c.from_residual-in_err-checked-2.ensures.1) (no-parts c.requires c.can_split.ensures (sym c.checked.ensures ∙ c.in_ok-checked.was) c.parts_signals.ensures (sym c.checked-2.ensures ∙ c.in_err-checked-2.was))

pub returns : goal.returns
returns c = form-judged c.requires c.can_split.ensures (sym c.checked.ensures ∙ c.in_ok-checked.was) c.parts_signals.ensures (sym c.checked-2.ensures ∙ c.in_ok-checked-2.was) c.plan_form.ensures
