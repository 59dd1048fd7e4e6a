-- `network::check_end` meets its contract.
use Rattle.network.proofs.End.{end-told}
use Rattle.network.proofs.check_end.Goals as goal

pub returns : goal.returns
returns c = end-told c.requires c.is_end-ended.ensures c.step_line-line.ensures c.checked.ensures
