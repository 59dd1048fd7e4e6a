-- `plan_steps::take_steps` meets its contract: one law for each call and each way out.
use Rattle.std.proofs.Common.{rules}
use Rattle.base_search.proofs.Laws.{passed_on}
use Rattle.base_laws.proofs.Kit.{refl, arith}
use Rattle.plan_steps.proofs.Runs.{trams-asked, row-cut, running-first, steps-stopped, running-next, steps-taken}
use Rattle.plan_steps.proofs.Reading.{cleared-default}
use Rattle.plan_steps.proofs.take_steps.Goals as goal

pub load_trams-trams-requires : goal.load_trams-trams-requires
load_trams-trams-requires c = trams-asked c.requires (search rules)

pub write_row-requires : goal.write_row-requires
write_row-requires c = (row-cut c.requires).1

pub loop-init : goal.loop-init
loop-init c =
    running-first c.requires _ {at = 0} refl c.write_row.ensures c.first_waiting.ensures _ refl refl c.load_trams-trams.ensures c.first_state-state.ensures
    (cleared-default (λ x e. e) c.default-lines.ensures.0 c.default-lines.ensures.1.0 c.default-lines.ensures.1.1.0)

pub loop-preserved : goal.loop-preserved
loop-preserved c = running-next c.loop.invariant c.loop-test.true c.take_step.ensures c.in_ok-state.was

pub returns-in_err-state : goal.returns-in_err-state
returns-in_err-state c =
    rw (passed_on _ _ c.from_residual.ensures.1)
    (record { outcome = steps-stopped c.loop.invariant c.loop-test.true c.take_step.ensures c.in_err-state.was })

pub returns : goal.returns
returns c = record { outcome = steps-taken c.loop.invariant (omega arith) }
