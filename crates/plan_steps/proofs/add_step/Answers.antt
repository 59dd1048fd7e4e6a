use Rattle.base_laws.proofs.Kit.{refl, arith}
use Rattle.plan_steps.proofs.add_step.Goals as goal

pub overflow_sub-inside : goal.overflow_sub-inside
overflow_sub-inside c =
    omega (arith, c.all_admitted-admitted.ensures.0, c.all_let_out-let_out.ensures.0, c.requires.enough)

pub returns : goal.returns
returns c = rw (c.travel_time-time.ensures.0, c.all_admitted-admitted.ensures.0, c.all_let_out-let_out.ensures.0) refl
