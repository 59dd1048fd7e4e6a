-- The test of a link by its table is the paper's test of the link, and the turns of the loop over the `Q` lines.
use Rattle.base_laws.proofs.Kit.{ℕ, ◌+◌, ◌-◌, ◌*◌, ◌%◌, ◌^◌, ◌≤◌, ◌<◌, ◌≡◌, refl, sym, ◌∙◌, Bool, true, false, cond, ◌&&◌, and-true, and-false, List, add-one, arith, le-leb, lt-leb, eqb-false, leb-true, ne_eqb, leb, ltb, eqb, length, get_or, take}
use Rattle.std.proofs.lemmas.List.{length-take-le, get_or-take}
use Rattle.base_search.specs.declared.Refusal.{Refusal}
use Rattle.base_search.specs.Checks.{Verdict, checked}
use Rattle.text_reader.specs.Lines.{Line, lines}
use Rattle.base_laws.specs.Test.{◌and◌, within}
use Rattle.model.specs.declared.Signal.{Signal}
use Rattle.base_laws.specs.Indexed.{list}
use Rattle.model.specs.Network.{max_signals, entry, signal_count, link_line, signal, capacity, travel_time, exit_rate, signal_of, phase_mask, standing}
use Rattle.model.specs.Rules.{valid_mask, valid_link}
use Rattle.model.specs.Table.{letter_q, link_checks}
use Rattle.model.proofs.Phases.{bit_shifted}
use Rattle.network_tables.specs.declared.Reading.{Reading}
use Rattle.network_tables.specs.Places.{link_line_in}
use Rattle.network_tables.specs.declared.Link.{Link}
use Rattle.network_tables.specs.Fields.{link_fields, link_by, link_at, signal_at, no_signal}
use Rattle.network_tables.specs.Blocks.{block_checks, RowsTo, RowsJudged, RowsHeld, link_block}
use Rattle.network_tables.specs.Tables.{Judged, moved_to}
use Rattle.network_tables.proofs.Places.{movements-after-links}
use Rattle.network_tables.proofs.Blocks.{passed-all, block-end, records-judged}
use Rattle.network_tables.proofs.Stages.{judged-refused, judged-passed, reached-next}
use Rattle.network_links.specs.Links.{valid_mask_in, valid_link_in, FewPhases}
use Rattle.network_links.specs.Stages.{LinksAsked, LinksHeld}
use Rattle.std.specs.Prelude.{Result, Ok, Err}
use Rattle.std.specs.Borrow.{Bor}

-- ---- the turns of `valid_mask`
module _ (mask signal : ℕ) (signals : List Signal) where
  pub mask-none : signal ≡ 0 → eqb mask 0 ≡ valid_mask_in mask signal signals
  unfolding valid_mask_in
  mask-none e = rw e

  pub mask-some : FewPhases signals → signal ≤ length signals → (signal ≡ 0 → ⊥) → (leb 1 mask && ltb mask (1 * 2 ^ (signal_at signals (signal - 1)).phases % 4_294_967_296)) ≡ valid_mask_in mask signal signals
  unfolding valid_mask_in ◌and◌
  mask-some k h n = rw (ne_eqb signal 0 n, bit_shifted (signal_at signals (signal - 1)).phases (k.few (signal - 1) (omega arith)))

-- ---- the turns of `valid_link`
module _ (link : Link) (signals : List Signal) where
  pub link-above : length signals < link.signal → false ≡ valid_link_in link signals
  unfolding valid_link_in ◌and◌
  link-above h = rw (lt-leb link.signal (length signals) h, and-false)

  pub link-within : link.signal ≤ length signals → {times : Bool} → times ≡ within 1 link.travel_time 3600 → {mask : Bool} → mask ≡ valid_mask_in link.phase_mask link.signal signals
      → (leb link.capacity 2_000_000_000 && times && leb link.exit_rate 10_000 && mask && leb link.standing link.capacity) ≡ valid_link_in link signals
  unfolding valid_link_in within ◌and◌
  link-within h t m = rw (t, m, le-leb link.signal (length signals) h, and-true)

-- by what a link is made of the numbers of its line
abbrev pub MadeBy : List ℕ → Link → Type 0
MadeBy fields link = link ≡ link_by (λ k. get_or fields k 0)

-- ---- the paper's test of link i, by the part of the table that has the signals
module _ (network : List Line) (signals : List Signal) (size : length signals ≡ max_signals)
    (phases-told : (r : ℕ) → r < signal_count network → (signal_at signals r).phases ≡ (signal network r).phases) (few : signal_count network ≤ max_signals) (i : ℕ) where
  abbrev held : List Signal
  held = take (signal_count network) signals

  held-size : length held ≡ signal_count network
  held-size = length-take-le (signal_count network) signals (omega arith)

  mask-valid : leb (signal_of network i) (signal_count network) ≡ true → valid_mask_in (phase_mask network i) (signal_of network i) held ≡ valid_mask network i
  unfolding valid_mask_in valid_mask
  mask-valid h = by (eqb (signal_of network i) 0) refl
    where
      by : (b : Bool) → eqb (signal_of network i) 0 ≡ b
          → cond b (eqb (phase_mask network i) 0) (leb 1 (phase_mask network i) and ltb (phase_mask network i) (2 ^ (signal_at held (signal_of network i - 1)).phases))
          ≡ cond b (eqb (phase_mask network i) 0) (leb 1 (phase_mask network i) and ltb (phase_mask network i) (2 ^ (signal network (signal_of network i - 1)).phases))
      by true e = refl
      by false e =
          let some = eqb-false (signal_of network i) 0 e in
          let below : signal_of network i - 1 < signal_count network = omega (arith, leb-true (signal_of network i) (signal_count network) h) in
          rw (get_or-take (signal_count network) signals (signal_of network i - 1) no_signal below, phases-told (signal_of network i - 1) below)

  link-valid : valid_link_in (link_by (entry network (link_line network i))) held ≡ valid_link network i
  unfolding valid_link_in valid_link ◌and◌ capacity travel_time exit_rate signal_of phase_mask standing
  link-valid = rw held-size (by (leb (signal_of network i) (signal_count network)) refl)
    where
      by : (b : Bool) → leb (signal_of network i) (signal_count network) ≡ b
          → (leb (capacity network i) 2_000_000_000 && within 1 (travel_time network i) 3600 && leb (exit_rate network i) 10_000 && b
          && valid_mask_in (phase_mask network i) (signal_of network i) held && leb (standing network i) (capacity network i))
          ≡ (leb (capacity network i) 2_000_000_000 && within 1 (travel_time network i) 3600 && leb (exit_rate network i) 10_000 && b
          && valid_mask network i && leb (standing network i) (capacity network i))
      by true h = rw (mask-valid h)
      by false h = rw and-false

link-is : (network : List Line) {n : ℕ} (links : List Link) → RowsTo MadeBy network (link_block network) link_fields n links → (i : ℕ) → i < n → link_at links i ≡ link_by (entry network (link_line network i))
unfolding list
link-is network links rows i h = rows.given i h _

-- ---- `read_links`
module _ {text : List ℕ} {reading : Reading} {signals : List Signal} {links₀ : List Link} (asked : LinksAsked text reading signals links₀) where
  pub links-judged : {first size : ℕ} → first ≡ link_line_in reading.counts 0 + 1 → {post : Bor (List Link) → ℕ → Verdict → Type 0}
      → ((links : Bor (List Link)) (i : ℕ) (said : Verdict) → post links i said → said ≡ checked (valid_link_in (link_at links.now i) (take reading.counts.signals signals)) 4 (first + i) (i + 1))
      → RowsJudged MadeBy (lines text) (link_block (lines text)) letter_q link_fields first reading.counts.links size post
  unfolding link_checks link_line
  links-judged e says =
      records-judged (λ i. refl) (sym asked.reached.counted.links) (λ i. omega (arith, asked.reached.counted.trams, asked.reached.counted.signals))
      (λ i links said h rows p. says links i said p ∙ rw (add-one i, asked.reached.counted.signals, link-is (lines text) links.now rows i (omega arith), link-valid (lines text) signals asked.signal-size asked.phases-told (omega (arith, asked.reached.counted.signals, asked.reached.counted.few.signals)) i) refl)

  module _ {result : Result ℕ Refusal} {links : List Link} (got : RowsHeld MadeBy text (link_block (lines text)) link_fields (length links₀) result links) where
    pub links-refused : {r : Refusal} → result ≡ Err r → Judged (block_checks (link_block (lines text))) (LinksHeld text links) (Err r)
    links-refused {r} e = judged-refused (got.refused r e)

    pub links-held : {next : ℕ} → result ≡ Ok next → Judged (block_checks (link_block (lines text))) (LinksHeld text links) (Ok (moved_to reading next))
    links-held {next} e =
        let table = got.held next e in
        judged-passed (passed-all table.read.passed (omega arith))
        (record {
          reached = reached-next asked.reached (rw movements-after-links at (block-end table.read (omega arith)));
          room = table.room ∙ asked.room;
          table = record {
            size = length-take-le reading.counts.links links (omega (arith, table.room, asked.room, asked.reached.counted.few.links)) ∙ asked.reached.counted.links;
            holds = λ i h.
                let own : i < reading.counts.links = omega (arith, asked.reached.counted.links) in
                get_or-take reading.counts.links links i _ own ∙ link-is (lines text) links table.rows i h;
          };
        })
