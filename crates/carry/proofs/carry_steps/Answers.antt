-- `carry::carry_steps` meets its contract: one law for each way out.
use Rattle.base_search.proofs.Laws.{passed_on, checked-true}
use Rattle.base_laws.proofs.Kit.{refl, sym, ◌∙◌}
use Rattle.carry.proofs.Carrying.{step-refused, more-lines, write-asked, carried-told}
use Rattle.carry.proofs.carry_steps.Goals as goal

pub returns-in_err-state : goal.returns-in_err-state
returns-in_err-state c = rw (passed_on _ _ c.from_residual.ensures.1) (step-refused _ _ _ c.requires c.take_steps.ensures c.in_err-state.was)

pub returns-in_err-checked : goal.returns-in_err-checked
returns-in_err-checked c =
    rw (passed_on _ _ c.from_residual-in_err-checked.ensures.1) (more-lines _ _ _ c.requires c.take_steps.ensures c.in_ok-state.was c.is_end-ended.ensures (sym c.checked.ensures ∙ c.in_err-checked.was))

pub write_carried-requires : goal.write_carried-requires
write_carried-requires c = write-asked c.args.plan.now _ c.args.carried.now c.requires c.take_steps.ensures c.in_ok-state.was refl refl refl refl c.take_steps.auto.ledger

pub returns : goal.returns
returns c = carried-told _ _ _ c.requires c.take_steps.ensures c.in_ok-state.was refl refl refl refl (sym c.is_end-ended.ensures ∙ checked-true _ _ _ _ (sym c.checked.ensures ∙ c.in_ok-checked.was)) c.write_carried.ensures
