-- `cases_files::tally::index_of` meets its contract.
use Rattle.std.proofs.Common.{rules, arith, tests, not, ◌==◌}
use Rattle.std.proofs.lemmas.List.Sums.{prefix_len-le-length}
use Rattle.std.proofs.lemmas.Grind.{common_steps}
use Rattle.std.proofs.lemmas.Iterator.{YieldsList-from_slice}
use Rattle.std.proofs.lemmas.Iterator.Search.{position_from_yields_List}
use Rattle.cases_files.proofs.tally.index_of.Goals as goal

pub returns-clause-value : goal.returns-clause-value
returns-clause-value c =
    let numbers = c.args.numbers.now in
    let found = position_from_yields_List (λ known. known == c.args.number) _ _ c.position-index.result c.position-index.ensures.ran (YieldsList-from_slice numbers (search rules)) (λ x b q k. search (rules, tests)) in
    rw (c.unwrap_or.ensures, found) (grind (arith, common_steps, prefix_len-le-length (λ known. not (known == c.args.number)) numbers))
