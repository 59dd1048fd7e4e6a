-- `split_text::put_counts` meets its contract.
use Rattle.base_laws.proofs.Kit.{arith}
use Rattle.split_text.proofs.Lines.{counts-put}
use Rattle.split_text.proofs.put_counts.Goals as goal

pub returns : goal.returns
returns c =
    let few = c.requires.0.few in
    counts-put c.args.counts c.args.trams c.args.half.now (omega (arith, few.links)) (omega (arith, few.signals)) (omega (arith, few.movements)) c.count_in-links.ensures.0 c.count_in-signals.ensures.0
    c.count_in-movements.ensures.0 c.put_line.ensures
