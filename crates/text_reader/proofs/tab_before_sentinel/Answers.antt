-- `text_reader::tab_before_sentinel` meets its contract.
use Rattle.std.proofs.Common.{◌∙◌, sym, arith}
use Rattle.base_laws.proofs.Kit.{eqb-true, eqb-false}
use Rattle.text_reader.proofs.Looks.{looked-some, looked-last}
use Rattle.text_reader.proofs.Sentinel.{sentinel-other, sentinel-test}
use Rattle.text_reader.proofs.tab_before_sentinel.Goals as goal

pub returns-then-eq : goal.returns-then-eq
returns-then-eq c =
    let tab = c.eq.ensures ∙ looked-some _ _ _ c.get.ensures.lookup.3 _ (omega arith) in
    c.eq-then-eq.ensures ∙ looked-some _ _ _ (looked-last _ _ c.last.ensures.item.3) _ (omega arith) ∙ sentinel-test _ _ (eqb-true _ 9 (sym tab ∙ c.if-eq.true))

pub returns-else-eq : goal.returns-else-eq
returns-else-eq c =
    let tab = c.eq.ensures ∙ looked-some _ _ _ c.get.ensures.lookup.3 _ (omega arith) in
    tab ∙ sentinel-other _ _ (eqb-false _ 9 (sym tab ∙ c.if-eq.false))
