use Rattle.base_laws.proofs.Kit.{arith, ◌+◌}
use Rattle.network_tables.specs.Places.{let_out_place}
use Rattle.step_rows.proofs.Cuts.{cut-total}
use Rattle.step_rows.proofs.all_let_out.Goals as goal

pub returns : goal.returns
returns c =
    let counts = c.args.counts in
    let few = c.requires.0 in
    cut-total c.args.line.now (counts.signals + counts.links) counts.links (let_out_place counts) (omega (arith, c.requires.1, few.signals, few.links)) (λ i. omega arith) c.sum_of.ensures
