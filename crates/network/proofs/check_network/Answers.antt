-- `network::check_network` meets its contract.
use Rattle.base_search.proofs.Laws.{passed_on}
use Rattle.network.proofs.Counting.{check-passes, check-refused}
use Rattle.network.proofs.check_network.Goals as goal

pub returns-in_err-count_network : goal.returns-in_err-count_network
returns-in_err-count_network c =
    let told = check-refused c.args.text.now c.count_network.ensures.value c.in_err-count_network.was in
    rw (passed_on _ _ c.from_residual.ensures.1) (record { value = told.0; network_promises = told.1.0; padding_ignored = told.1.1 })

pub returns : goal.returns
returns c =
    let told = check-passes c.args.text.now c.count_network.ensures.value c.in_ok-count_network.was in
    record { value = told.0; network_promises = told.1.0; padding_ignored = told.1.1 }
