-- `split_checks::Border::right_kinds` meets its contract.
use Rattle.std.proofs.Common.{rules, tests}
use Rattle.network_tables.proofs.Every.{range-every}
use Rattle.split_checks.specs.Tables.{right_kind_in}
use Rattle.split_checks.proofs.Border.right_kinds.Goals as goal

pub returns : goal.returns
returns c =
    let a = c.args in
    let n = a.self.now.tables.now.reading.counts.movements in
    let right = right_kind_in a.self.now.tables.now.links.now a.self.now.tables.now.movements.now a.self.now.half.now.links a.self.now.tables.now.reading.counts.movements in
    range-every n right c.all.ensures.ran (λ i b q k. search (rules, tests))
