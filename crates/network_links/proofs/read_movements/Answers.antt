use Rattle.std.proofs.Common.{arith, rules}
use Rattle.base_search.proofs.Laws.{passed_on}
use Rattle.text_reader.specs.Lines.{lines}
use Rattle.network_tables.specs.Blocks.{movement_block}
use Rattle.network_links.proofs.Movements.{movements-judged, movements-refused, movements-held}
use Rattle.network_links.proofs.read_movements.Goals as goal

pub returns-in_err-next : goal.returns-in_err-next
returns-in_err-next c =
    let got = c.read_rows.ensures (movement_block (lines c.args.text.now)) (movements-judged c.requires (omega arith) (λ movements i said p. search rules)) c.requires.reached.starts in
    rw (passed_on _ _ c.from_residual.ensures.1) (movements-refused c.requires got c.in_err-next.was)

pub returns : goal.returns
returns c =
    let got = c.read_rows.ensures (movement_block (lines c.args.text.now)) (movements-judged c.requires (omega arith) (λ movements i said p. search rules)) c.requires.reached.starts in
    rw c.moved_to.ensures (movements-held c.requires got c.in_ok-next.was)
