use Rattle.std.proofs.Common.{◌≡◌, rules, arith, Some}
use Rattle.base_laws.proofs.Kit.{refl}
use Rattle.base_search.proofs.Laws.{passed_on}
use Rattle.network_tables.proofs.Rows.{row-refused}
use Rattle.network_steps.proofs.Steps.{steps-begin, steps-malformed, steps-invalid, add-asked, steps_next, steps-done}
use Rattle.network_steps.proofs.read_steps.Goals as goal

pub loop-n-init : goal.loop-n-init
loop-n-init c = search (steps-begin, rules)

pub returns-in_err-place : goal.returns-in_err-place
returns-in_err-place c =
    let told = row-refused c.read_row-read.result c.in_err-place.ensures.value in
    let none = told.0 in
    rw (passed_on _ _ c.from_residual.ensures.1, told.1) (search (steps-malformed, rules))

pub returns-then-not-valid_step : goal.returns-then-not-valid_step
returns-then-not-valid_step c =
    let read : c.read_row-read.result ≡ Some c.in_ok-place.place = grind arith in
    search (steps-invalid, rules)

pub add_each-requires : goal.add_each-requires
add_each-requires c =
    let read : c.read_row-read.result ≡ Some c.in_ok-place.place = grind arith in
    add-asked c.requires c.loop-n.invariant (search rules) c.step_width-width.ensures c.read_row-read.ensures
    read c.step_length-seconds.ensures c.valid_step.ensures c.if-not-valid_step.false-raw

pub loop-n-preserved : goal.loop-n-preserved
loop-n-preserved c =
    let read : c.read_row-read.result ≡ Some c.in_ok-place.place = grind arith in
    steps_next c.requires c.loop-n.invariant (search rules) c.step_width-width.ensures c.read_row-read.ensures
    read c.step_length-seconds.ensures c.valid_step.ensures c.if-not-valid_step.false-raw
    refl c.next_time.ensures c.add_each.ensures

pub returns : goal.returns
returns c = search (steps-done, rules)
