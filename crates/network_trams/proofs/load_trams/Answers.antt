use Rattle.std.proofs.Common.{rules}
use Rattle.text_reader.specs.Lines.{lines}
use Rattle.network_tables.specs.Blocks.{tram_block}
use Rattle.network_trams.proofs.Lines.{load-judged, trams-loaded}
use Rattle.network_trams.proofs.load_trams.Goals as goal

pub returns : goal.returns
returns c =
    trams-loaded c.requires c.read_rows.result
    (c.read_rows.ensures (tram_block (lines c.args.tables.now.text.now)) (load-judged c.requires (λ trams k said p. search rules)) c.requires.starts)
