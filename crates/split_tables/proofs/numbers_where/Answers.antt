use Rattle.base_laws.proofs.Kit.{arith}
use Rattle.split_tables.proofs.Items.{numbered-none, numbered-more, numbered-other, numbered-all}
use Rattle.split_tables.proofs.numbers_where.Goals as goal
use Rattle.split_tables.proofs.numbers_where.Goals.{then-is_in, else-is_in}

pub loop-k-init : goal.loop-k-init
loop-k-init g c = numbered-none _ _ _

pub overflow_add-last : goal.overflow_add-last
overflow_add-last g c = omega (arith, c.loop-k.invariant.last-small)

pub loop-k-preserved : goal.loop-k-preserved
loop-k-preserved g c =
    let h = c.loop-k-test.true in
    let t = c.loop-k.invariant in
    elim c.if-is_in.branch [
      | then-is_in w ↦ rw (w.last-is, w.numbers-is) (numbered-more t h (omega arith) c.is_in.ensures w.if-is_in.true)
      | else-is_in w ↦ rw (w.last-is, w.numbers-is) (numbered-other t h (omega arith) c.is_in.ensures w.if-is_in.false)
    ]

pub returns : goal.returns
returns g c = numbered-all c.loop-k.invariant (omega arith)
