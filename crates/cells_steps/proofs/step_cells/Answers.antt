use Rattle.std.proofs.Common.{rules, arith}
use Rattle.cells_steps.proofs.Flows.{inflow-waiting}
use Rattle.cells_steps.proofs.Turns.{going_none, going_done, next-held, going-fits, leaves-on, leaves-by-exit, going_more}
use Rattle.cells_steps.proofs.step_cells.Goals as goal
use Rattle.cells_steps.proofs.step_cells.Goals.{then-next-cells, else-next-cells}

pub loop-i-init : goal.loop-i-init
loop-i-init c = search (going_none, rules)

pub overflow_add-filled : goal.overflow_add-filled
overflow_add-filled c = search (going-fits, rules)

pub inflow-leaving-requires-clause-volume_bound : goal.inflow-leaving-requires-clause-volume_bound
inflow-leaving-requires-clause-volume_bound c = next-held c.requires c.loop-i.invariant (omega arith)

pub overflow_sub-volumes : goal.overflow_sub-volumes
overflow_sub-volumes c = grind (arith, inflow-waiting)

pub loop-i-preserved : goal.loop-i-preserved
loop-i-preserved c =
    elim c.if-next-cells.branch [
      | then-next-cells w ↦ going_more c.requires c.loop-i.invariant (omega arith) (leaves-on c.requires c.loop-i.invariant (omega arith) (omega arith) cc)
      | else-next-cells w ↦ going_more c.requires c.loop-i.invariant (omega arith) (leaves-by-exit c.requires c.loop-i.invariant (omega arith) (omega arith) cc)
    ]

pub returns : goal.returns
returns c = search (going_done, rules)
