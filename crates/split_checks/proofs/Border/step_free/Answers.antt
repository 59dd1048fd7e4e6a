-- `split_checks::Border::step_free` meets its contract.
use Rattle.std.proofs.Common.{rules, tests}
use Rattle.network_tables.proofs.Every.{range-every}
use Rattle.network_tables.specs.Fields.{demand_in}
use Rattle.split_checks.specs.Tables.{demand_free_in}
use Rattle.split_checks.proofs.Border.step_free.Goals as goal

pub returns : goal.returns
returns c =
    let a = c.args in
    let n = a.self.now.tables.now.reading.counts.movements in
    let free = demand_free_in (demand_in a.step.now) a.self.now.tables.now.movements.now a.self.now.half.now.links in
    range-every n free c.all.ensures.ran (λ i b q k. search (rules, tests))
