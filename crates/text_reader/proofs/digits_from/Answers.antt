use Rattle.std.proofs.Common.{◌+◌, ◌≡◌, ◌∙◌, ap, length, arith, rules}
use Rattle.base_laws.proofs.Kit.{add-zero, length-append}
use Rattle.text_reader.specs.Reading.{separator}
use Rattle.text_reader.proofs.Looks.{taken-turn, taken-end}
use Rattle.text_reader.proofs.Turns.{saying-none, rest-ended, rest-long, rest-stop, rest-not, rest-big, rest-turn, digit_low, digit-high}
use Rattle.text_reader.proofs.digits_from.Goals as goal

pub loop-k-init : goal.loop-k-init
loop-k-init c = rw add-zero (saying-none c.args.text.now c.args.from)

pub returns-then-is_separator : goal.returns-then-is_separator
returns-then-is_separator c =
    let turn = taken-turn c.take.result.n _ _ c.requires _ (search rules) (search rules) (search rules) _ _ c.loop-k.yielded_by _ _ c.next.ensures.steps _ c.in-Some.is in
    rw turn.index (rest-stop _ _ _ _ _ c.loop-k.invariant turn.within _ (c.is_separator.ensures ∙ ap separator turn.byte) c.if-is_separator.true)

pub returns-then-not-is_digit : goal.returns-then-not-is_digit
returns-then-not-is_digit c =
    let turn = taken-turn c.take.result.n _ _ c.requires _ (search rules) (search rules) (search rules) _ _ c.loop-k.yielded_by _ _ c.next.ensures.steps _ c.in-Some.is in
    rest-not _ _ _ _ _ c.loop-k.invariant turn.within _ (c.is_separator.ensures ∙ ap separator turn.byte) c.if-is_separator.false _ (c.from-b.ensures ∙ turn.byte) _ c.is_digit.ensures c.if-not-is_digit.true-raw

pub shifted-requires : goal.shifted-requires
shifted-requires c = (digit_low _ _ c.is_digit.ensures c.if-not-is_digit.false-raw, digit-high _ _ c.is_digit.ensures c.if-not-is_digit.false-raw)

pub returns-in_err-value : goal.returns-in_err-value
returns-in_err-value c =
    let turn = taken-turn c.take.result.n _ _ c.requires _ (search rules) (search rules) (search rules) _ _ c.loop-k.yielded_by _ _ c.next.ensures.steps _ c.in-Some.is in
    rw c.from_residual.ensures
    (rest-big _ _ _ _ _ c.loop-k.invariant turn.within _ (c.from-b.ensures ∙ turn.byte) _ c.is_digit.ensures c.if-not-is_digit.false-raw c.in_err-value.ensures)

pub loop-k-preserved : goal.loop-k-preserved
loop-k-preserved c =
    let turn = taken-turn c.take.result.n _ _ c.requires _ (search rules) (search rules) (search rules) _ _ c.loop-k.yielded_by _ _ c.next.ensures.steps _ c.in-Some.is in
    rw (length-append c.loop-k.yielded)
    (rest-turn _ _ _ _ c.loop-k.invariant turn.within _ (c.from-b.ensures ∙ turn.byte) _ c.is_digit.ensures c.if-not-is_digit.false-raw (omega (arith, turn.few, c.take.ensures.count)) c.in_ok-value.ensures.0 c.in_ok-value.ensures.1)

pub returns-then-not-ends_at : goal.returns-then-not-ends_at
returns-then-not-ends_at c =
    let end = taken-end c.take.result.n _ _ c.requires _ (search rules) (search rules) (search rules) _ _ c.loop-k.yielded_by _ _ c.next.ensures.steps c.in-None.is in
    let place : c.args.from + length c.loop-k.yielded ≡ c.min-next.result = omega (arith, end, c.take.ensures.count, c.min-next.ensures) in
    rest-long _ _ _ _ _ c.loop-k.invariant _ (rw place c.ends_at.ensures) c.if-not-ends_at.true-raw (λ l. omega (arith, c.take.ensures.count, place))

pub returns : goal.returns
returns c =
    let end = taken-end c.take.result.n _ _ c.requires _ (search rules) (search rules) (search rules) _ _ c.loop-k.yielded_by _ _ c.next.ensures.steps c.in-None.is in
    let place : c.args.from + length c.loop-k.yielded ≡ c.min-next.result = omega (arith, end, c.take.ensures.count, c.min-next.ensures) in
    rw (← place) (rest-ended _ _ _ _ _ c.loop-k.invariant _ (rw place c.ends_at.ensures) c.if-not-ends_at.false-raw)
