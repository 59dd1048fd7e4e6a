use Rattle.std.proofs.Common.{arith, ◌≡◌, ◌+◌, Err}
use Rattle.base_search.specs.Checks.{refusal}
use Rattle.listing_lines.proofs.Lines.{read-sets}
use Rattle.listing_call.proofs.Reading.{reading-none, reading-done, reading-bad, reading-stop, adds-fit, reading-more}
use Rattle.listing_call.proofs.Tables.read_listing.Goals as goal

pub loop-at-init : goal.loop-at-init
loop-at-init c = search reading-none

pub returns-in_err-setting : goal.returns-in_err-setting
returns-in_err-setting c =
    let r : c.from_residual.result ≡ Err (refusal 22 (c.loop-at.line + 1) 0) = grind arith in
    rw r (reading-bad _ _ _ _ _ _ _ _ c.loop-at.invariant c.loop-at-test.true (grind arith))

pub returns-in_err-place : goal.returns-in_err-place
returns-in_err-place c =
    let r : c.from_residual-in_err-place.result ≡ Err c.in_err-place.field-0.0 = grind arith in
    rw r (reading-stop _ _ _ _ _ _ _ _ c.loop-at.invariant c.loop-at-test.true c.in_ok-setting.setting c.in_ok-setting.next (grind arith) c.args.self.now.fit c.in_err-place.field-0.0 (grind arith))

pub overflow_add-numbers : goal.overflow_add-numbers
overflow_add-numbers c =
    omega (arith, adds-fit _ _ _ _ _ _ _ _ c.loop-at.invariant c.loop-at-test.true c.in_ok-setting.setting c.in_ok-setting.next (grind arith) c.args.self.now.fit c.in_ok-place.place c.in_ok-place.number (grind arith))

pub loop-at-smaller : goal.loop-at-smaller
loop-at-smaller c = let r = read-sets _ _ _ c.loop-at.invariant.starts c.in_ok-setting.setting c.in_ok-setting.next (grind arith) in omega arith

pub loop-at-preserved : goal.loop-at-preserved
loop-at-preserved c =
    rw c.set_bit.ensures
    (reading-more _ _ _ _ _ _ _ _ c.loop-at.invariant c.loop-at-test.true c.in_ok-setting.setting c.in_ok-setting.next (grind arith) c.args.self.now.fit c.in_ok-place.place c.in_ok-place.number (grind arith))

pub returns : goal.returns
returns c = search reading-done
