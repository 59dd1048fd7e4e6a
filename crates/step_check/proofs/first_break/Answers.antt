use Rattle.std.proofs.Common.{rules}
use Rattle.base_laws.proofs.Kit.{arith}
use Rattle.step_check.proofs.Search.{row-turn, row_next, fits-before-16, rows-at, items-first, item-kept, rule-kept, broken-here, none-broken}
use Rattle.step_check.proofs.first_break.Goals as goal

pub form_row_for-requires : goal.form_row_for-requires
form_row_for-requires c = let o = c.judge.invariant in λ e. fits-before-16 c.requires o.3 o.2 e (omega arith)

pub loop-item-init : goal.loop-item-init
loop-item-init c = let o = c.judge.invariant in (omega arith, o.1, items-first c.requires o.3 (row-turn o.2 (omega arith) c.form_row_for.ensures c.form_row_for.auto.row))

pub holds-requires-clause-rule_rows : goal.holds-requires-clause-rule_rows
holds-requires-clause-rule_rows c = let o = c.judge.invariant in rows-at c.requires o.3 (row-turn o.2 (omega arith) c.form_row_for.ensures c.form_row_for.auto.row)

pub loop-item-preserved : goal.loop-item-preserved
loop-item-preserved c =
    let w = c.loop-item.invariant in
    (omega arith, w.1, item-kept (row-turn c.judge.invariant.2 (omega arith) c.form_row_for.ensures c.form_row_for.auto.row) (omega arith) w.2 c.holds.ensures (search rules))

pub judge-preserved : goal.judge-preserved
judge-preserved c =
    let w = c.loop-item.invariant in
    let row = row-turn c.judge.invariant.2 (omega arith) c.form_row_for.ensures c.form_row_for.auto.row in
    (omega arith, w.1, row_next row, rule-kept row (omega arith) w.2 (omega (arith, c.items-items.ensures)))

pub returns-after-judge : goal.returns-after-judge
returns-after-judge c = let o = c.judge.invariant in none-broken (omega arith) o.1 o.3 o.2

pub returns-then-not-holds : goal.returns-then-not-holds
returns-then-not-holds c =
    let w = c.loop-item.invariant in
    broken-here (row-turn c.judge.invariant.2 (omega arith) c.form_row_for.ensures c.form_row_for.auto.row) (omega arith) w.2 (omega (arith, c.items-items.ensures)) c.holds.ensures (search rules)
    (rw c.number.ensures at c.new.ensures)
