-- `carry::put_network` meets its contract.
use Rattle.std.proofs.Common.{rules}
use Rattle.base_laws.proofs.Kit.{◌≡◌, [], ◌∷◌, length, refl}
use Rattle.text_writer.specs.Records.{record_texts}
use Rattle.model.specs.Table.{letter_t, letter_q, letter_m}
use Rattle.network_tables.specs.Fields.{tram_at, movement_at, movement_row}
use Rattle.network_writer.specs.Put.{Put}
use Rattle.network_writer.specs.Texts.{line_texts}
use Rattle.carry.specs.Rows.{carried_link_row}
use Rattle.carry.specs.Trams.{left_of, all_left}
use Rattle.carry.proofs.Trams.{row-left, many-left}
use Rattle.carry.proofs.Lines.{link-given, movement-given}
use Rattle.carry.proofs.Whole.{trams-counted, trams-put, signals-put, links-put, movements-put, counts-asked, trams-early, signals-ready, links-early, movements-early, past-ready, steps-ready, rest-ready, all-put}
use Rattle.carry.proofs.put_network.Goals as goal
use Rattle.carry.proofs.put_network.Goals.{After-count_rows-left, After-put_rows, After-put_rows-2, After-put_rows-3}

counted : (c : After-count_rows-left) → c.count_rows-left.result ≡ length (all_left c.args.standing.now.boundary c.args.trams.now c.args.tables.now.reading.counts.trams)
counted c =
    let trams = c.args.trams.now in
    let b = c.args.standing.now.boundary in
    trams-counted c.requires.carry_asked c.requires.tram_table (c.count_rows-left.ensures (λ k. left_of b (tram_at trams k)) (λ k none rest h p. many-left b trams k none h rest (search rules)))

trams : (c : After-put_rows) → Put c.args.tables.now.reading.counts.trams (line_texts letter_t (all_left c.args.standing.now.boundary c.args.trams.now c.args.tables.now.reading.counts.trams)) c.put_line.new.self c.put_rows.new.self
trams c =
    let trams = c.args.trams.now in
    let b = c.args.standing.now.boundary in
    trams-put c.requires.carry_asked c.requires.tram_table (c.put_rows.ensures (λ k. left_of b (tram_at trams k)) (λ k none rest h p. row-left b trams k none h rest (search rules)))

links : (c : After-put_rows-2) → Put c.args.tables.now.reading.counts.links (record_texts letter_q c.args.tables.now.reading.counts.links (carried_link_row c.args.tables.now.links.now c.args.standing.now.waiting.now)) c.put_signals.new.output c.put_rows-2.new.self
links c =
    let t = c.args.tables.now in
    let w = c.args.standing.now.waiting.now in
    links-put c.requires.carry_asked c.requires.tram_table (c.put_rows-2.ensures (λ i. carried_link_row t.links.now w i ∷ []) (λ i none changed h p. link-given t.links.now w i none h changed (search rules)))

movements : (c : After-put_rows-3) → Put c.args.tables.now.reading.counts.movements (record_texts letter_m c.args.tables.now.reading.counts.movements (λ j. movement_row (movement_at c.args.tables.now.movements.now j))) c.put_rows-2.new.self c.put_rows-3.new.self
movements c =
    let t = c.args.tables.now in
    movements-put c.requires.carry_asked c.requires.tram_table (c.put_rows-3.ensures (λ j. movement_row (movement_at t.movements.now j) ∷ []) (λ j none changed h p. movement-given t.movements.now j none h changed (search rules)))

pub count_row-requires : goal.count_row-requires
count_row-requires c = counts-asked c.requires.carry_asked c.requires.tram_table (counted (goal.at.count_row-requires c).After-count_rows-left)

pub put_rows-requires-clause-early : goal.put_rows-requires-clause-early
put_rows-requires-clause-early c = trams-early c.requires.carry_asked c.requires.tram_table refl c.put_line.ensures

pub put_signals-requires : goal.put_signals-requires
put_signals-requires c = signals-ready c.requires.carry_asked c.requires.tram_table refl c.put_line.ensures (trams (goal.at.put_signals-requires c).After-put_rows)

pub put_rows-requires-2-clause-early : goal.put_rows-requires-2-clause-early
put_rows-requires-2-clause-early c =
    let a = c.requires.carry_asked in
    let h = c.requires.tram_table in
    links-early a h refl c.put_line.ensures (trams (goal.at.put_rows-requires-2-clause-early c).After-put_rows) (signals-put a h c.put_signals.ensures)

pub put_rows-requires-3-clause-early : goal.put_rows-requires-3-clause-early
put_rows-requires-3-clause-early c =
    let a = c.requires.carry_asked in
    let h = c.requires.tram_table in
    let at = goal.at.put_rows-requires-3-clause-early c in
    movements-early a h refl c.put_line.ensures (trams at.After-put_rows) (signals-put a h c.put_signals.ensures) (links at.After-put_rows-2)

pub put-requires : goal.put-requires
put-requires c =
    let a = c.requires.carry_asked in
    let h = c.requires.tram_table in
    let at = goal.at.put-requires c in
    past-ready a h refl c.put_line.ensures (trams at.After-put_rows) (signals-put a h c.put_signals.ensures) (links at.After-put_rows-2) (movements at.After-put_rows-3) c.past_width.ensures

pub put_steps-requires : goal.put_steps-requires
put_steps-requires c =
    let a = c.requires.carry_asked in
    let h = c.requires.tram_table in
    let at = goal.at.put_steps-requires c in
    steps-ready a h refl c.put_line.ensures (trams at.After-put_rows) (signals-put a h c.put_signals.ensures) (links at.After-put_rows-2) (movements at.After-put_rows-3) c.past_width.ensures c.put.ensures

pub put-requires-2 : goal.put-requires-2
put-requires-2 c =
    let a = c.requires.carry_asked in
    let h = c.requires.tram_table in
    let at = goal.at.put-requires-2 c in
    rest-ready a h refl c.put_line.ensures (trams at.After-put_rows) (signals-put a h c.put_signals.ensures) (links at.After-put_rows-2) (movements at.After-put_rows-3) c.past_width.ensures c.put.ensures _
    c.step_width.ensures c.put_steps.ensures

pub returns : goal.returns
returns c =
    let a = c.requires.carry_asked in
    let h = c.requires.tram_table in
    let at = goal.at.returns c in
    let all = all-put a h _ refl (counted at.After-count_rows-left) (rw c.count_row.ensures at c.put_line.ensures) (trams at.After-put_rows) (signals-put a h c.put_signals.ensures) (links at.After-put_rows-2) (movements at.After-put_rows-3) c.past_width.ensures c.put.ensures c.put_steps.ensures c.step_width.ensures c.put-2.ensures in
    let text = all.0 in
    let same = all.1 in
    search rules
