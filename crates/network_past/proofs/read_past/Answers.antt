use Rattle.std.proofs.Common.{◌≡◌, rules, Some}
use Rattle.base_laws.proofs.Kit.{refl, arith}
use Rattle.base_search.proofs.Laws.{passed_on}
use Rattle.network_tables.proofs.Rows.{row-refused}
use Rattle.network_past.proofs.Forms.{forms-begin, forms-malformed, forms-next, forms-done}
use Rattle.network_past.proofs.read_past.Goals as goal

pub loop-m-init : goal.loop-m-init
loop-m-init c = search (forms-begin, rules)

pub returns-in_err-place : goal.returns-in_err-place
returns-in_err-place c =
    let told = row-refused c.read_row-read.result c.in_err-place.ensures.value in
    let none = told.0 in
    rw (passed_on _ _ c.from_residual.ensures.1, told.1) (search (forms-malformed, rules))

pub loop-m-preserved : goal.loop-m-preserved
loop-m-preserved c =
    let read : c.read_row-read.result ≡ Some c.in_ok-place.place = grind arith in
    forms-next c.requires c.loop-m.invariant (search rules) c.past_width-width.ensures c.read_row-read.ensures read refl c.next_time-timed.ensures

pub returns : goal.returns
returns c = search (forms-done, rules)
