use Rattle.base_laws.proofs.Kit.{arith}
use Rattle.network_writer.proofs.Rows.{items-none, items-next, items-all, row-put, none-put}
use Rattle.network_writer.proofs.Output.put_rows.Goals as goal
use Rattle.network_writer.proofs.Output.put_rows.Goals.{in-Some, in_default}

pub loop-k-init : goal.loop-k-init
loop-k-init g c = record { near = omega arith; put = λ f gives. items-none _ f _ }

pub loop-k-preserved : goal.loop-k-preserved
loop-k-preserved g c =
    let here = rw c.index-items-k.is at c.change.ensures in
    elim c.match-change.branch [
      | in-Some w ↦
          rw w.self-is (record {
            near = omega (arith, w.put_line.ensures.ends, w.put_line.ensures.few);
            put = λ f gives.
                let given = rw w.in-Some.is at (gives c.loop-k.k c.index-items-k.result c.change.result c.loop-k-test.true here) in
                items-next _ f _ (c.loop-k.invariant.put f gives) (row-put _ (given _ w.into.ensures) w.put_line.ensures);
          })
      | in_default w ↦
          rw w.self-is (record {
            near = omega arith;
            put = λ f gives.
                let given = rw w.in_default.is at (gives c.loop-k.k c.index-items-k.result c.change.result c.loop-k-test.true here) in
                items-next _ f _ (c.loop-k.invariant.put f gives) (none-put _ given _);
          })
    ]

pub returns : goal.returns
returns g c = λ f gives. items-all _ f (omega (arith, c.loop-k.auto.k-end, c.loop-k-test.false)) (c.loop-k.invariant.put f gives)
