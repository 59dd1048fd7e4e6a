-- `split_text::put_step` meets its contract.
use Rattle.std.proofs.Common.{rules, arith}
use Rattle.base_laws.proofs.Kit.{ℕ, refl, ◌++◌, drop, replicate, length-replicate}
use Rattle.network_tables.specs.Fields.{step_size, demand_in, moved_in}
use Rattle.network_tables.proofs.Rows.{again_joined}
use Rattle.split_text.specs.Filling.{raised}
use Rattle.split_text.proofs.Filling.{filled-front}
use Rattle.split_text.proofs.Reading.{plan-asked}
use Rattle.split_text.proofs.Rows.{border-asked, step-put}
use Rattle.split_text.proofs.put_step.Goals as goal

pub read_plan-plan_at-requires : goal.read_plan-plan_at-requires
read_plan-plan_at-requires c = plan-asked c.requires.asked.held refl

pub add_border-into-requires-clause-asked : goal.add_border-into-requires-clause-asked
add_border-into-requires-clause-asked c = border-asked c.args.whole.now c.requires.asked.held

pub returns : goal.returns
unfolding raised
returns c =
    let counts = c.args.whole.now.tables.reading.counts in
    let half = c.args.half.now in
    let width = c.step_width-width.ensures in
    let few = c.args.whole.now.tables.sized.few.links in
    let step = c.read_again-step_at.new.row ++ drop c.step_width-width.result (replicate step_size 0) in
    let line = c.read_plan-plan_at.new.line in
    let into = c.add_border-into.result in
    step-put c.args.whole.now c.requires.asked.held c.args.place refl width (again_joined (omega (arith, width, few, length-replicate {A = ℕ} step_size 0)) c.read_again-step_at.ensures) c.read_plan-plan_at.ensures
    (c.add_border-into.ensures (moved_in counts line) (λ k number h p. search rules)) refl refl
    (filled-front half.links counts.links _ (omega (arith, few)) (c.put_kept.ensures.filled (raised (demand_in step) into) (λ k number h p. search rules)))
    (search rules) c.put_line.ensures
