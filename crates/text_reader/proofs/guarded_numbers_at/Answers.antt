use Rattle.std.proofs.Common.{◌∙◌, sym, rules, arith}
use Rattle.base_laws.proofs.Kit.{eqb-true, eqb-false, set-get_or}
use Rattle.text_reader.proofs.Looks.{looked-some}
use Rattle.text_reader.proofs.Turns.{stored-none, stored_more, stored-stop, all-feed, all-other}
use Rattle.text_reader.proofs.guarded_numbers_at.Goals as goal

pub loop-number-init : goal.loop-number-init
loop-number-init c = search stored-none

pub returns-in_default : goal.returns-in_default
returns-in_default c = search (stored-stop, set-get_or)

pub loop-number-preserved : goal.loop-number-preserved
loop-number-preserved c = search stored_more

pub returns-then-eq : goal.returns-then-eq
returns-then-eq c =
    let feed = c.eq.ensures ∙ looked-some _ _ _ c.get.ensures.lookup.3 _ (omega arith) in
    all-feed _ _ _ _ _ _ c.loop-number.invariant (search rules) (eqb-true _ 10 (sym feed ∙ c.if-eq.true))

pub returns-else-eq : goal.returns-else-eq
returns-else-eq c =
    let feed = c.eq.ensures ∙ looked-some _ _ _ c.get.ensures.lookup.3 _ (omega arith) in
    all-other _ _ _ _ _ _ c.loop-number.invariant (search rules) (eqb-false _ 10 (sym feed ∙ c.if-eq.false))
