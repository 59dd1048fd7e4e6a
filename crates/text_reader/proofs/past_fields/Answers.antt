use Rattle.std.proofs.Common.{◌∙◌, sym, arith}
use Rattle.text_reader.proofs.Passing.{pass-tab, pass-other, pass-stop, pass-past}
use Rattle.text_reader.proofs.past_fields.Goals as goal
use Rattle.text_reader.proofs.past_fields.Goals.{then-is_separator+else-b-eq10+else-left-eq0, else-is_separator, then-b-eq10-via-then-b-eq10, then-b-eq10-via-else-b-eq10+then-left-eq0}

pub loop-place-preserved : goal.loop-place-preserved
loop-place-preserved c = elim c.if-is_separator.branch [
  | then-is_separator+else-b-eq10+else-left-eq0 w ↦
      rw w.left-is (pass-tab c.loop-place.invariant c.loop-place-test.true (sym c.is_separator.ensures ∙ w.if-is_separator.true) w.if-b-eq10.false w.if-left-eq0.false)
  | else-is_separator w ↦ rw w.left-is (pass-other c.loop-place.invariant c.loop-place-test.true (sym c.is_separator.ensures ∙ w.if-is_separator.false))
]

pub returns-after-loop-place : goal.returns-after-loop-place
returns-after-loop-place c = pass-past c.loop-place.invariant c.loop-place-test.false

pub returns-then-b-eq10 : goal.returns-then-b-eq10
returns-then-b-eq10 c =
    pass-stop c.loop-place.invariant c.loop-place-test.true (sym c.is_separator.ensures ∙ c.if-is_separator.true)
    (elim c.then-b-eq10.branch [
      | then-b-eq10-via-then-b-eq10 w ↦ λ t. omega (arith, t, w.if-b-eq10.true)
      | then-b-eq10-via-else-b-eq10+then-left-eq0 w ↦ λ t. w.if-left-eq0.true
    ])
