use Rattle.base_laws.proofs.Kit.{sym, ◌∙◌}
use Rattle.base_search.proofs.Laws.{passed_on}
use Rattle.sheet_writer.proofs.Columns.{column-refused, column-passed, masks-none, cycle-there, column-wanted, masks-tram, masks-off, masks-next, masks-all}
use Rattle.sheet_writer.proofs.fill_masks.Goals as goal

pub loop-r-init : goal.loop-r-init
loop-r-init c = masks-none c.requires c.args.trams.now c.told-masks

pub returns-then-not-has_no_tram : goal.returns-then-not-has_no_tram
returns-then-not-has_no_tram c = masks-tram c.requires c.args.trams.now c.loop-r.invariant c.loop-r-test.true c.has_no_tram.ensures c.if-not-has_no_tram.true c.refusal-refusal.ensures

pub invariant_of-cycle : goal.invariant_of-cycle
invariant_of-cycle c = record { fits = cycle-there c.requires c.args.trams.now c.loop-r.invariant c.loop-r-test.true }

pub fill_column-requires : goal.fill_column-requires
fill_column-requires c = column-wanted c.requires c.args.trams.now c.loop-r.invariant c.loop-r-test.true

pub returns-in_err-ok_or : goal.returns-in_err-ok_or
returns-in_err-ok_or c =
    let o = column-refused c.fill_column.result (sym c.ok_or.ensures.value ∙ c.in_err-ok_or.was) in
    rw (passed_on _ _ c.from_residual.ensures.1)
    (masks-off c.requires c.args.trams.now c.loop-r.invariant c.loop-r-test.true c.has_no_tram.ensures c.if-not-has_no_tram.false c.fill_column.ensures o.0 (o.1 ∙ c.refusal-refusal.ensures))

pub loop-r-preserved : goal.loop-r-preserved
loop-r-preserved c =
    masks-next c.requires c.args.trams.now c.loop-r.invariant c.loop-r-test.true c.has_no_tram.ensures c.if-not-has_no_tram.false c.fill_column.ensures
    (column-passed c.fill_column.result _ (sym c.ok_or.ensures.value ∙ c.in_ok-ok_or.was))

pub returns : goal.returns
returns c = masks-all c.requires c.args.trams.now c.loop-r.invariant c.loop-r-test.false
