use Rattle.base_laws.proofs.Kit.{arith, refl}
use Rattle.network_tables.specs.Places.{admitted_place}
use Rattle.step_rows.proofs.Cuts.{cut-total}
use Rattle.step_rows.proofs.all_admitted.Goals as goal

pub returns : goal.returns
returns c =
    let counts = c.args.counts in
    let few = c.requires.0 in
    cut-total c.args.line.now counts.signals counts.links (admitted_place counts) (omega (arith, c.requires.1, few.signals, few.links)) (λ i. refl) c.sum_of.ensures
