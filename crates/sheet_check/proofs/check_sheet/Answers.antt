-- `sheet_check::check_sheet` meets its contract.
use Rattle.base_search.proofs.Laws.{passed_on}
use Rattle.sheet_check.proofs.Call.{network-refused, padding-too}
use Rattle.sheet_check.proofs.check_sheet.Goals as goal

pub check_on_network-requires : goal.check_on_network-requires
check_on_network-requires c = (c.read_start.ensures.held _ c.in_ok-tables.was).loaded

pub returns-in_err-tables-clause-sheet_promises : goal.returns-in_err-tables-clause-sheet_promises
returns-in_err-tables-clause-sheet_promises c = rw (passed_on _ _ c.from_residual.ensures.1) (network-refused (c.read_start.ensures.refused _ c.in_err-tables.was))

pub returns-in_err-tables-clause-padding_ignored : goal.returns-in_err-tables-clause-padding_ignored
returns-in_err-tables-clause-padding_ignored c = rw (passed_on _ _ c.from_residual.ensures.1) (padding-too _ _ _ (network-refused (c.read_start.ensures.refused _ c.in_err-tables.was))).1

pub returns-clause-sheet_promises : goal.returns-clause-sheet_promises
returns-clause-sheet_promises c = rw (c.read_start.ensures.held _ c.in_ok-tables.was).same-text at c.check_on_network.ensures

pub returns-clause-padding_ignored : goal.returns-clause-padding_ignored
returns-clause-padding_ignored c = (padding-too _ _ _ (rw (c.read_start.ensures.held _ c.in_ok-tables.was).same-text at c.check_on_network.ensures)).1
