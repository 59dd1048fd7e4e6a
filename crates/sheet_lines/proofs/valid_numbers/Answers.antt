use Rattle.std.proofs.Common.{rules}
use Rattle.base_laws.proofs.Kit.{refl, arith, length-take-le}
use Rattle.sheet_lines.proofs.Lines.{summed-none, summed-fits, summed-more, summed-broken, summed_kept, summed-offset, phase-within, duration-there}
use Rattle.sheet_lines.proofs.valid_numbers.Goals as goal

pub loop-k-init : goal.loop-k-init
loop-k-init c = search (summed-none, rules)

pub returns-then-not-is_within : goal.returns-then-not-is_within
returns-then-not-is_within c =
    let h = c.loop-k-test.true in
    summed-broken c.loop-k.invariant (phase-within _ _ _ h) (rw (duration-there _ _ _ h) at c.is_within.ensures) c.if-not-is_within.true _

pub overflow_add-sum : goal.overflow_add-sum
overflow_add-sum c =
    let h = c.loop-k-test.true in
    let d = duration-there _ _ _ h in
    let fits = summed-fits c.loop-k.invariant (phase-within _ _ _ h) (rw d at c.is_within.ensures) c.requires.ready c.if-not-is_within.false d in search rules

pub loop-k-preserved : goal.loop-k-preserved
loop-k-preserved c =
    let h = c.loop-k-test.true in
    let d = duration-there _ _ _ h in
    summed-more c.loop-k.invariant (phase-within _ _ _ h) (rw d at c.is_within.ensures) c.requires.ready c.if-not-is_within.false d

pub returns-then-not-offset : goal.returns-then-not-offset
returns-then-not-offset c =
    summed_kept c.loop-k.invariant (omega (arith, c.loop-k-test.false, length-take-le c.args.signal.now.phases c.args.line.now (omega (arith, c.requires.room)))) c.if-not-offset.true

pub returns-else-not-offset : goal.returns-else-not-offset
returns-else-not-offset c =
    summed-offset c.loop-k.invariant (omega (arith, c.loop-k-test.false, length-take-le c.args.signal.now.phases c.args.line.now (omega (arith, c.requires.room)))) c.if-not-offset.false refl
