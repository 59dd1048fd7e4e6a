use Rattle.base_laws.proofs.Kit.{arith, refl}
use Rattle.split_text.proofs.Filling.{filled_none, filled_next, filled-same, filled-most, filled-row}
use Rattle.split_text.proofs.Row.put_kept.Goals as goal
use Rattle.split_text.proofs.Row.put_kept.Goals.{then-item-ne0, else-item-ne0}

pub loop-k-init : goal.loop-k-init
loop-k-init g c = filled_none _ _ _ _

pub loop-k-preserved : goal.loop-k-preserved
loop-k-preserved g c =
    let h = c.loop-k-test.true in
    let t = c.loop-k.invariant in
    elim c.if-item-ne0.branch [
      | then-item-ne0 w ↦ rw w.self-is (filled_next _ _ _ t h w.if-item-ne0.true (omega (arith, t.most, c.requires.asked.room)) w.value_of.ensures refl refl refl)
      | else-item-ne0 w ↦ rw w.self-is (filled-same _ _ _ t h w.if-item-ne0.false)
    ]

pub returns-clause-most : goal.returns-clause-most
returns-clause-most g c = filled-most _ _ _ c.loop-k.invariant (omega arith)

pub returns-clause-filled : goal.returns-clause-filled
returns-clause-filled g c = filled-row _ _ _ c.loop-k.invariant (omega arith)
