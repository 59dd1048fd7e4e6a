use Rattle.base_laws.proofs.Kit.{arith, refl, ◌∙◌}
use Rattle.network_writer.specs.Texts.{rows_to}
use Rattle.network_writer.proofs.Rows.{one-many, count-next, count-all}
use Rattle.network_writer.proofs.count_rows.Goals as goal

pub loop-k-init : goal.loop-k-init
unfolding rows_to
loop-k-init g c = record { few = omega arith; counted = λ f gives. refl }

pub loop-k-preserved : goal.loop-k-preserved
loop-k-preserved g c =
    let here = rw c.index-items-k.is at c.change.ensures in
    let one = one-many c.change.result c.is_some.ensures c.from-count.ensures in
    record {
      few = omega (arith, one.0);
      counted = λ f gives. count-next f _ (c.loop-k.invariant.counted f gives) (one.1 ∙ gives c.loop-k.k c.index-items-k.result c.change.result c.loop-k-test.true here);
    }

pub returns : goal.returns
returns g c = λ f gives. count-all f (omega (arith, c.loop-k.auto.k-end, c.loop-k-test.false)) (c.loop-k.invariant.counted f gives)
