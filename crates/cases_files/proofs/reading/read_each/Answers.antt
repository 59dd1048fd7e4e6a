use Rattle.std.proofs.Common.{◌<◌, length, refl, add-one, arith}
use Rattle.std.proofs.Math.Seq.{take-suc-set}
use Rattle.std.proofs.lemmas.Fn.{FoldsTo-push}
use Rattle.cases_files.proofs.reading.read_each.Goals as goal

pub loop-item-preserved : goal.loop-item-preserved
loop-item-preserved g c =
    let inside : c.loop-item.item-index < length c.loop-item.item-items = omega arith in
    rw (add-one, take-suc-set c.loop-item.item-items c.loop-item.item-index _ inside)
    (FoldsTo-push _ _ _ _ _ _ c.loop-item.invariant (record { shown = _; shows = refl; left = _; gave = c.in_ok-item.ensures; leaves = refl }))
