use Rattle.std.proofs.Common.{rules}
use Rattle.text_reader.proofs.Turns.{digit_low, digit-high}
use Rattle.text_reader.proofs.Sentinel.{run_none, run-stop, run-big, run_more, run-full}
use Rattle.text_reader.proofs.sentinel_digits_from.Goals as goal

pub loop-k-init : goal.loop-k-init
loop-k-init c = search (run_none, rules)

pub returns-then-not-is_digit : goal.returns-then-not-is_digit
returns-then-not-is_digit c = search run-stop

pub shifted-requires : goal.shifted-requires
shifted-requires c = (digit_low _ _ c.is_digit.ensures c.if-not-is_digit.false-raw, digit-high _ _ c.is_digit.ensures c.if-not-is_digit.false-raw)

pub returns-in_err-value : goal.returns-in_err-value
returns-in_err-value c =
    rw c.from_residual.ensures
    (run-big _ _ _ _ c.loop-k.invariant _ c.from-b.ensures _ c.is_digit.ensures c.if-not-is_digit.false-raw c.in_err-value.ensures)

pub loop-k-preserved : goal.loop-k-preserved
loop-k-preserved c =
    run_more _ _ _ _ c.loop-k.invariant _ c.from-b.ensures _ c.is_digit.ensures c.if-not-is_digit.false-raw _ c.loop-k-test.true c.requires.text_value c.in_ok-value.ensures.0 c.in_ok-value.ensures.1

pub returns : goal.returns
returns c = search run-full
