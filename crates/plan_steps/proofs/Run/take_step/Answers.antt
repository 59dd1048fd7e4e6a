-- `plan_steps::Run::take_step` meets its contract: one law for each call and each way out.
use Rattle.std.proofs.Common.{rules}
use Rattle.base_laws.proofs.Kit.{refl}
use Rattle.base_search.proofs.Laws.{passed_on}
use Rattle.plan_steps.proofs.Taking.{read-asked, step-malformed, arrivals-asked, add-asked, tables-fit, judge-asked, step-refused, next-asked, step-passed}
use Rattle.plan_steps.proofs.Run.take_step.Goals as goal

pub read_lines-requires : goal.read_lines-requires
read_lines-requires c = read-asked c.requires

pub returns-in_default : goal.returns-in_default
returns-in_default c = rw c.refusal.ensures (step-malformed c.requires c.read_lines.ensures c.in_default.is)

pub add_waiting-requires : goal.add_waiting-requires
add_waiting-requires c = add-asked c.requires c.read_lines.ensures c.in-Some.is

pub next_arrivals-requires : goal.next_arrivals-requires
next_arrivals-requires c = arrivals-asked c.requires

pub invariant_of-step : goal.invariant_of-step
invariant_of-step c = record { fit = tables-fit c.requires c.read_lines.ensures c.in-Some.is c.add_waiting.ensures c.next_arrivals.ensures }

pub judge_step-requires : goal.judge_step-requires
judge_step-requires c = judge-asked c.requires c.read_lines.ensures c.in-Some.is c.add_waiting.ensures c.next_arrivals.ensures (search rules) refl

pub returns-in_err-judge_step : goal.returns-in_err-judge_step
returns-in_err-judge_step c = rw (passed_on _ _ c.from_residual.ensures.1)
    (step-refused c.requires c.read_lines.ensures c.in-Some.is c.add_waiting.ensures c.next_arrivals.ensures (search rules) refl c.judge_step.ensures c.in_err-judge_step.was)

pub next_state-requires : goal.next_state-requires
next_state-requires c = next-asked c.requires c.read_lines.ensures c.in-Some.is c.add_waiting.ensures c.next_arrivals.ensures (search rules) refl c.judge_step.ensures c.in_ok-judge_step.was

pub returns : goal.returns
returns c = step-passed c.requires c.read_lines.ensures c.in-Some.is c.add_waiting.ensures c.next_arrivals.ensures (search rules) refl c.judge_step.ensures c.in_ok-judge_step.was
    c.judge_step.auto.row c.row_start.ensures c.write_row.ensures c.next_state.ensures
