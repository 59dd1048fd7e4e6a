-- `text_reader::tabbed_at` meets its contract.
use Rattle.std.proofs.Common.{◌∙◌, ap, sym, not, arith}
use Rattle.base_laws.proofs.Kit.{eqb-true, eqb-false, not-true, not-false}
use Rattle.text_reader.proofs.Looks.{looked-some}
use Rattle.text_reader.proofs.Turns.{tabbed-other, tabbed-none, tabbed-rest}
use Rattle.text_reader.proofs.tabbed_at.Goals as goal

pub returns-then-ne : goal.returns-then-ne
returns-then-ne c =
    let other = c.ne.ensures ∙ ap not (looked-some _ _ _ c.get.ensures.lookup.3 _ (omega arith)) in
    tabbed-other _ _ (eqb-false _ 9 (not-true _ (sym other ∙ c.if-ne.true)))

pub returns-then-ends_at : goal.returns-then-ends_at
returns-then-ends_at c =
    let other = c.ne.ensures ∙ ap not (looked-some _ _ _ c.get.ensures.lookup.3 _ (omega arith)) in
    tabbed-none _ _ (eqb-true _ 9 (not-false _ (sym other ∙ c.if-ne.false))) _ c.ends_at.ensures c.if-ends_at.true

pub returns : goal.returns
returns c =
    let other = c.ne.ensures ∙ ap not (looked-some _ _ _ c.get.ensures.lookup.3 _ (omega arith)) in
    tabbed-rest _ _ (eqb-true _ 9 (not-false _ (sym other ∙ c.if-ne.false))) _ c.ends_at.ensures c.if-ends_at.false _ c.digits_from.ensures
