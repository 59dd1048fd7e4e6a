-- `plan_link_state::state_from` meets its contract.
use Rattle.std.proofs.Common.{rules}
use Rattle.base_search.proofs.Laws.{passed_on}
use Rattle.base_laws.specs.Test.{◌and◌}
use Rattle.plan_link_state.proofs.Ledger.{disagrees, between, state-agrees}
use Rattle.plan_link_state.proofs.state_from.Goals as goal

pub returns-in_err-checked : goal.returns-in_err-checked
unfolding ◌and◌
returns-in_err-checked c = rw (passed_on _ _ c.from_residual.ensures.1) (disagrees _ _ _ c.product.ensures c.product-2.ensures c.checked.ensures c.in_err-checked.was)

pub overflow_cast-whole : goal.overflow_cast-whole
unfolding ◌and◌
overflow_cast-whole c = let h = between _ _ _ c.product.ensures c.product-2.ensures c.checked.ensures c.in_ok-checked.was in search rules

pub overflow_sub-result : goal.overflow_sub-result
unfolding ◌and◌
overflow_sub-result c = let h = between _ _ _ c.product.ensures c.product-2.ensures c.checked.ensures c.in_ok-checked.was in search rules

pub overflow_sub-result-2 : goal.overflow_sub-result-2
unfolding ◌and◌
overflow_sub-result-2 c = let h = between _ _ _ c.product.ensures c.product-2.ensures c.checked.ensures c.in_ok-checked.was in search rules

pub returns : goal.returns
unfolding ◌and◌
returns c = state-agrees _ _ _ c.product.ensures c.product-2.ensures c.checked.ensures c.in_ok-checked.was c.from.ensures
