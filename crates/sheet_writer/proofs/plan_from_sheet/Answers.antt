-- `sheet_writer::plan_from_sheet` meets its contract.
use Rattle.base_search.proofs.Laws.{passed_on}
use Rattle.sheet_writer.proofs.Call.{call-refused, call-written, padding-too}
use Rattle.sheet_writer.proofs.plan_from_sheet.Goals as goal

pub write_on_network-requires : goal.write_on_network-requires
write_on_network-requires c = (c.read_network.ensures.held _ c.in_ok-tables.was).loaded

pub returns-in_err-tables-clause-write_promises : goal.returns-in_err-tables-clause-write_promises
returns-in_err-tables-clause-write_promises c = rw (passed_on _ _ c.from_residual.ensures.1) (call-refused _ _ (c.read_network.ensures.refused _ c.in_err-tables.was))

pub returns-in_err-tables-clause-padding_ignored : goal.returns-in_err-tables-clause-padding_ignored
returns-in_err-tables-clause-padding_ignored c = rw (passed_on _ _ c.from_residual.ensures.1) (padding-too _ _ (call-refused _ _ (c.read_network.ensures.refused _ c.in_err-tables.was))).1

pub returns-clause-write_promises : goal.returns-clause-write_promises
returns-clause-write_promises c =
    let text = (c.read_network.ensures.held _ c.in_ok-tables.was).same-text in
    call-written _ _ (c.read_network.ensures.passed _ c.in_ok-tables.was) (rw text at c.write_on_network.ensures)

pub returns-clause-padding_ignored : goal.returns-clause-padding_ignored
returns-clause-padding_ignored c =
    let text = (c.read_network.ensures.held _ c.in_ok-tables.was).same-text in
    (padding-too _ _ (call-written _ _ (c.read_network.ensures.passed _ c.in_ok-tables.was) (rw text at c.write_on_network.ensures))).1
