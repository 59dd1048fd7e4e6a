use Rattle.std.proofs.Common.{rules}
use Rattle.std.proofs.lemmas.List.{get_or_default}
use Rattle.base_laws.proofs.Kit.{◌≤◌, ◌<◌, ◌≡◌, List, [], arith, refl, ap, get_or, length-take, get_or-take, ◌∙◌, ℕ}
use Rattle.network_writer.specs.Plan.{plan_row}
use Rattle.network_writer.proofs.Plan.{plan-none, plan-next, plan-all}
use Rattle.network_writer.proofs.put_plan.Goals as goal

pub loop-row-init : goal.loop-row-init
loop-row-init g c = plan-none c.requires _ _ c.plan_width.ensures refl

pub loop-row-preserved : goal.loop-row-preserved
loop-row-preserved g c =
    let a = c.args in
    let n = c.loop-row.row-index in
    let row = c.row-item.result in
    let h : n < a.counts.steps = omega (arith, length-take a.counts.steps a.rows.now) in
    let e : row ≡ get_or a.rows.now n [] = c.row-item.is ∙ get_or-take a.counts.steps a.rows.now n row h ∙ get_or_default a.rows.now n row [] (omega (arith, c.requires.steps)) in
    plan-next c.requires c.loop-row.invariant h (c.fill_line.ensures ∙ ap (λ (r : List ℕ). plan_row r a.counts) e) c.fill_line.auto.line c.put_line.ensures

pub returns : goal.returns
returns g c =
    let a = c.args in
    let all : a.counts.steps ≤ c.loop-row.row-index = omega (arith, length-take a.counts.steps a.rows.now, c.requires.steps) in
    let p = plan-all c.requires c.loop-row.invariant all refl in
    let b = c.loop-row.invariant.put.put.buffer in
    search rules
