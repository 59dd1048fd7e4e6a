use Rattle.std.proofs.Common.{rules}
use Rattle.base_search.proofs.Laws.{passed_on}
use Rattle.network_tables.proofs.Blocks.{passed_none}
use Rattle.network_trams.proofs.Lines.{phases-stop, phases-next, phases-done}
use Rattle.network_trams.proofs.check_tram_phases.Goals as goal

pub loop-k-init : goal.loop-k-init
loop-k-init c = search (passed_none, rules)

pub returns-in_err-checked : goal.returns-in_err-checked
returns-in_err-checked c =
    rw (passed_on _ _ c.from_residual.ensures.1)
    (phases-stop c.requires c.loop-k.invariant c.loop-k-test.true c.valid_phase.ensures c.tram_line-line.ensures c.checked.ensures c.in_err-checked.was)

pub loop-k-preserved : goal.loop-k-preserved
loop-k-preserved c =
    phases-next c.requires c.loop-k.invariant c.loop-k-test.true c.valid_phase.ensures c.tram_line-line.ensures c.checked.ensures c.in_ok-checked.was

pub returns : goal.returns
returns c = phases-done c.requires c.loop-k.invariant c.loop-k-test.false
