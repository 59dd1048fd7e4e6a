use Rattle.std.proofs.Common.{arith, rules}
use Rattle.base_search.proofs.Laws.{passed_on}
use Rattle.text_reader.specs.Lines.{lines}
use Rattle.network_tables.specs.Blocks.{link_block}
use Rattle.network_links.proofs.Links.{links-judged, links-refused, links-held}
use Rattle.network_links.proofs.read_links.Goals as goal

pub returns-in_err-next : goal.returns-in_err-next
returns-in_err-next c =
    let got = c.read_rows.ensures (link_block (lines c.args.text.now)) (links-judged c.requires (omega arith) (λ links i said p. search rules)) c.requires.reached.starts in
    rw (passed_on _ _ c.from_residual.ensures.1) (links-refused c.requires got c.in_err-next.was)

pub returns : goal.returns
returns c =
    let got = c.read_rows.ensures (link_block (lines c.args.text.now)) (links-judged c.requires (omega arith) (λ links i said p. search rules)) c.requires.reached.starts in
    rw c.moved_to.ensures (links-held c.requires got c.in_ok-next.was)
