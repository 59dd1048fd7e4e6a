-- `split_text::put_plan_line` meets its contract.
use Rattle.std.proofs.Common.{rules, arith}
use Rattle.base_laws.proofs.Kit.{refl, get_or}
use Rattle.network_tables.specs.Fields.{admitted_in, let_out_in, moved_in}
use Rattle.split_text.specs.Filling.{raised}
use Rattle.split_text.proofs.Filling.{filled-front}
use Rattle.split_text.proofs.Reading.{plan-asked}
use Rattle.split_text.proofs.Rows.{border-asked, line-put}
use Rattle.split_text.proofs.put_plan_line.Goals as goal

pub read_plan-next-requires : goal.read_plan-next-requires
read_plan-next-requires c = plan-asked c.requires.plan.asked.held refl

pub add_border-into-requires-clause-asked : goal.add_border-into-requires-clause-asked
add_border-into-requires-clause-asked c = border-asked c.args.whole.now c.requires.plan.asked.held

pub add_border-from-requires-clause-asked : goal.add_border-from-requires-clause-asked
add_border-from-requires-clause-asked c = border-asked c.args.whole.now c.requires.plan.asked.held

pub returns : goal.returns
unfolding raised
returns c =
    let counts = c.args.whole.now.tables.reading.counts in
    let few = c.args.whole.now.tables.sized.few in
    let half = c.args.half.now in
    let line = c.read_plan-next.new.line in
    let into = c.add_border-into.result in
    let from = c.add_border-from.result in
    line-put c.args.whole.now c.args.at c.read_plan-next.ensures
    (c.add_border-into.ensures (moved_in counts line) (λ k number h p. search rules))
    (c.add_border-from.ensures (moved_in counts line) (λ k number h p. search rules)) refl
    (filled-front half.signals counts.signals _ (omega (arith, few.signals)) (c.put_kept.ensures.filled (λ r. get_or line r 0) (λ k number h p. search rules)))
    (filled-front half.links counts.links _ (omega (arith, few.links)) (c.put_kept-2.ensures.filled (raised (admitted_in counts line) into) (λ k number h p. search rules)))
    (filled-front half.links counts.links _ (omega (arith, few.links)) (c.put_kept-3.ensures.filled (raised (let_out_in counts line) from) (λ k number h p. search rules)))
    (filled-front half.movements counts.movements _ (omega (arith, few.movements)) (c.put_kept-4.ensures.filled (moved_in counts line) (λ k number h p. search rules)))
    (search rules) c.put_line.ensures
