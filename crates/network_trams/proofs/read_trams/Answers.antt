use Rattle.std.proofs.Common.{arith, rules}
use Rattle.base_search.proofs.Laws.{passed_on}
use Rattle.text_reader.specs.Lines.{lines}
use Rattle.network_tables.specs.Blocks.{tram_block}
use Rattle.network_trams.proofs.Lines.{trams-judged, trams-refused, trams-held}
use Rattle.network_trams.proofs.read_trams.Goals as goal

pub returns-in_err-next : goal.returns-in_err-next
returns-in_err-next c =
    let got = c.read_rows.ensures (tram_block (lines c.args.text.now)) (trams-judged c.requires (omega arith) (λ trams k said p. search rules)) c.requires.starts in
    rw (passed_on _ _ c.from_residual.ensures.1) (trams-refused c.requires got c.in_err-next.was)

pub returns : goal.returns
returns c =
    let got = c.read_rows.ensures (tram_block (lines c.args.text.now)) (trams-judged c.requires (omega arith) (λ trams k said p. search rules)) c.requires.starts in
    rw c.moved_to.ensures (trams-held c.requires got c.in_ok-next.was)
