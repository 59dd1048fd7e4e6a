use Rattle.std.proofs.Common.{rules}
use Rattle.network_writer.proofs.Plan.{line-all}
use Rattle.network_writer.proofs.fill_line.Goals as goal

pub returns : goal.returns
returns c = search (line-all, rules)
