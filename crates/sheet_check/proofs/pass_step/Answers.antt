-- `sheet_check::pass_step` meets its contract.
use Rattle.base_laws.proofs.Kit.{arith}
use Rattle.plan_steps.proofs.Reading.{cleared-default}
use Rattle.sheet_check.proofs.Step.{read-asked, step-never, watch-asked, advance-asked, time-fits, step_gone}
use Rattle.sheet_check.proofs.pass_step.Goals as goal

pub read_lines-requires : goal.read_lines-requires
read_lines-requires c = read-asked c.requires (cleared-default (λ x e. e) c.default-said.ensures.0 c.default-said.ensures.1.0 c.default-said.ensures.1.1.0)

pub returns-in_default : goal.returns-in_default
returns-in_default c = step-never c.requires c.read_lines.ensures c.in_default.is

pub watch_signals-requires : goal.watch_signals-requires
watch_signals-requires c = watch-asked c.requires c.read_lines.ensures c.in-Some.is

pub advance-requires : goal.advance-requires
advance-requires c = advance-asked c.requires c.read_lines.ensures c.in-Some.is

pub overflow_add-result : goal.overflow_add-result
overflow_add-result c = omega (arith, time-fits c.requires c.read_lines.ensures c.in-Some.is c.watch_signals.ensures)

pub returns : goal.returns
returns c = step_gone c.requires c.read_lines.ensures c.in-Some.is c.watch_signals.ensures c.advance.ensures
