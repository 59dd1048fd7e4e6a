-- `split_checks::Border::stands_alone` meets its contract.
use Rattle.std.proofs.Common.{rules, tests}
use Rattle.network_tables.proofs.Every.{range-every}
use Rattle.split_checks.specs.Tables.{stands_apart_in}
use Rattle.split_checks.proofs.Border.stands_alone.Goals as goal

pub returns : goal.returns
returns c =
    let a = c.args in
    let n = a.self.now.tables.now.reading.counts.movements in
    let apart = stands_apart_in a.self.now.tables.now.movements.now a.self.now.half.now.links a.j in
    range-every n apart c.all.ensures.ran (λ i b q k. search (rules, tests))
