-- `network::count_network` meets its contract.
use Rattle.base_search.proofs.Laws.{passed_on}
use Rattle.network.proofs.Counting.{counted-told, refused-told}
use Rattle.network.proofs.count_network.Goals as goal

pub returns-in_err-tables : goal.returns-in_err-tables
returns-in_err-tables c =
    let told = refused-told c.read_network.ensures c.in_err-tables.was in
    rw (passed_on _ _ c.from_residual.ensures.1) (record { value = told.0; count_promises = told.1.0; padding_ignored = told.1.1 })

pub returns : goal.returns
returns c =
    let told = counted-told c.read_network.ensures c.in_ok-tables.was in
    record { value = told.0; count_promises = told.1.0; padding_ignored = told.1.1 }
