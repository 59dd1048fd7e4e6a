-- `cells_lines::load_corridor` meets its contract.
use Rattle.std.proofs.Common.{rules, arith}
use Rattle.base_search.specs.Checks.{checked}
use Rattle.base_search.proofs.Laws.{passed_on}
use Rattle.cells_lines.proofs.Load.{cells-stop, no-cells, exit-refused, demands-asked, demands-tell, corridor-read}
use Rattle.cells_lines.proofs.load_corridor.Goals as goal

pub returns-in_err-count-clause-err : goal.returns-in_err-count-clause-err
returns-in_err-count-clause-err c = let e = cells-stop c.args.text.now c.in_err-count.ensures.err in search rules

pub returns-in_err-checked-clause-err : goal.returns-in_err-checked-clause-err
unfolding checked
returns-in_err-checked-clause-err c =
    rw (passed_on _ _ c.from_residual-in_err-checked.ensures.1) (let e = no-cells c.in_ok-count.ensures.ok (grind arith) in grind arith)

pub returns-in_err-exit-clause-err : goal.returns-in_err-exit-clause-err
unfolding checked
returns-in_err-exit-clause-err c = let e = exit-refused c.in_ok-count.ensures.ok (grind arith) c.in_err-exit.ensures.err in search rules

pub read_demands-requires : goal.read_demands-requires
unfolding checked
read_demands-requires c = demands-asked c.in_ok-count.ensures.ok (grind arith) c.in_ok-exit.ensures.ok c.requires.demands_len

pub returns-in_err-steps-clause-err : goal.returns-in_err-steps-clause-err
unfolding checked
returns-in_err-steps-clause-err c =
    let e = demands-tell c.in_ok-count.ensures.ok (grind arith) c.in_ok-exit.ensures.ok c.in_err-steps.ensures.err in search rules

pub returns-clause-ok : goal.returns-clause-ok
unfolding checked
returns-clause-ok c = corridor-read c.in_ok-count.ensures.ok (grind arith) c.in_ok-exit.ensures.ok c.in_ok-steps.ensures.ok
