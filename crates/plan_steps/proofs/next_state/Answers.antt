-- `plan_steps::next_state` meets its contract: what it calls gives the parts of the state.
use Rattle.base_laws.proofs.Kit.{refl, ◌∙◌, arith}
use Rattle.plan_steps.proofs.Adding.{waiting-sum}
use Rattle.plan_steps.proofs.next_state.Goals as goal

pub add_step-totals-requires : goal.add_step-totals-requires
add_step-totals-requires c =
    let few = waiting-sum c.next_waiting.new.waiting c.args.counts.links (omega (arith, c.next_waiting.ensures.size, c.requires.waits-asked.few.links)) in
    rw (c.sum_of-outside.ensures.0, few) (c.requires.totals-asked c.next_waiting.new.waiting c.next_waiting.ensures)

pub returns : goal.returns
returns c =
    record {
      stay = c.next_waiting.ensures;
      advanced = c.advance.ensures;
      place = refl;
      totals = c.add_step-totals.ensures;
      outside = c.sum_of-outside.ensures.0 ∙ waiting-sum c.next_waiting.new.waiting c.args.counts.links (omega (arith, c.next_waiting.ensures.size, c.requires.waits-asked.few.links));
    }
