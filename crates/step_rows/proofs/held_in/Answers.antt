use Rattle.std.proofs.Common.{rules}
use Rattle.base_laws.proofs.Kit.{sym, arith}
use Rattle.step_rows.proofs.Sums.{sum-none}
use Rattle.step_rows.proofs.Turns.{held-turn}
use Rattle.step_rows.proofs.held_in.Goals as goal

pub loop-i-init : goal.loop-i-init
loop-i-init c = (search rules, sym (sum-none _), search rules)

pub loop-i-preserved : goal.loop-i-preserved
loop-i-preserved c =
    let r = c.args.row.now in
    (search rules, held-turn r c.loop-i.i c.loop-i.invariant.1 c.entered.ensures c.left.ensures (omega arith), search rules)
