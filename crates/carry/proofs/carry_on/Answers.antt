-- `carry::carry_on` meets its contract.
use Rattle.base_search.proofs.Laws.{passed_on}
use Rattle.carry.proofs.Carrying.{network-refused, promised}
use Rattle.carry.proofs.carry_on.Goals as goal

pub carry_from-requires : goal.carry_from-requires
carry_from-requires c = (c.read_start.ensures.held _ c.in_ok-tables.was).loaded

pub returns-in_err-tables-clause-carried_on : goal.returns-in_err-tables-clause-carried_on
returns-in_err-tables-clause-carried_on c = rw (passed_on _ _ c.from_residual.ensures.1) (promised (network-refused _ _ _ _ _ (c.read_start.ensures.refused _ c.in_err-tables.was))).0

pub returns-in_err-tables-clause-padding_ignored : goal.returns-in_err-tables-clause-padding_ignored
returns-in_err-tables-clause-padding_ignored c = rw (passed_on _ _ c.from_residual.ensures.1) (promised (network-refused _ _ _ _ _ (c.read_start.ensures.refused _ c.in_err-tables.was))).1

pub returns-clause-carried_on : goal.returns-clause-carried_on
returns-clause-carried_on c = (promised (rw (c.read_start.ensures.held _ c.in_ok-tables.was).same-text at c.carry_from.ensures)).0

pub returns-clause-padding_ignored : goal.returns-clause-padding_ignored
returns-clause-padding_ignored c = (promised (rw (c.read_start.ensures.held _ c.in_ok-tables.was).same-text at c.carry_from.ensures)).1
