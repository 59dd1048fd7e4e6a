-- `split::split` meets its contract.
use Rattle.std.proofs.Common.{rules}
use Rattle.base_search.proofs.Laws.{passed_on}
use Rattle.split.proofs.Splitting.{loaded-passed, network-refused, promised, given-back}
use Rattle.split.proofs.split.Goals as goal

pub split_loaded-requires : goal.split_loaded-requires
split_loaded-requires c = loaded-passed _ (c.read_network.ensures.held _ c.in_ok-tables.was).loaded

pub returns-in_err-tables-clause-split_in_two : goal.returns-in_err-tables-clause-split_in_two
returns-in_err-tables-clause-split_in_two c = rw (passed_on _ _ c.from_residual.ensures.1) (promised (network-refused _ _ _ _ (c.read_network.ensures.refused _ c.in_err-tables.was))).0

pub returns-in_err-tables-clause-padding_ignored : goal.returns-in_err-tables-clause-padding_ignored
returns-in_err-tables-clause-padding_ignored c = rw (passed_on _ _ c.from_residual.ensures.1) (promised (network-refused _ _ _ _ (c.read_network.ensures.refused _ c.in_err-tables.was))).1

pub returns-clause-split_in_two : goal.returns-clause-split_in_two
returns-clause-split_in_two c =
    let lent = c.split_loaded.ensures.lent in
    (promised (given-back c.split_loaded.new.buffers c.split_loaded.ensures.got (c.read_network.ensures.held _ c.in_ok-tables.was).same-text (search rules) (search rules) (search rules) (search rules))).0

pub returns-clause-padding_ignored : goal.returns-clause-padding_ignored
returns-clause-padding_ignored c =
    let lent = c.split_loaded.ensures.lent in
    (promised (given-back c.split_loaded.new.buffers c.split_loaded.ensures.got (c.read_network.ensures.held _ c.in_ok-tables.was).same-text (search rules) (search rules) (search rules) (search rules))).1
