-- The stages of a network's reading, one after another: where one is refused, so is the network; and what each asks of those before it.
use Rattle.base_laws.proofs.Kit.{ℕ, ◌≡◌, sym, ap, ◌∙◌, List, arith, length, take, length-take-le}
use Rattle.base_search.specs.declared.Refusal.{Refusal}
use Rattle.base_search.specs.Checks.{Checks, each, ◌then◌, verdict, Verdict}
use Rattle.base_search.proofs.Laws.{hold-of-passes}
use Rattle.text_reader.specs.Lines.{lines}
use Rattle.model.specs.declared.Signal.{Signal}
use Rattle.model.specs.Network.{link_count}
use Rattle.model.specs.Table.{count_checks, share_checks, network_checks}
use Rattle.network_tables.specs.declared.Link.{Link}
use Rattle.network_tables.specs.declared.Movement.{Movement}
use Rattle.network_tables.specs.declared.NetworkTables.{NetworkTables}
use Rattle.network_tables.specs.declared.Reading.{Reading}
use Rattle.network_tables.specs.Blocks.{block_checks, link_block, movement_block}
use Rattle.step_past.specs.declared.Arrival.{Arrival}
use Rattle.network_tables.specs.Tables.{Judged, LinkTable}
use Rattle.network_tables.proofs.Stages.{verdict-passed, verdict-refused}
use Rattle.network_signals.specs.Counts.{CountsHeld}
use Rattle.network_signals.specs.Stages.{SignalsHeld}
use Rattle.network_links.specs.Movements.{share_checks_in}
use Rattle.network_links.specs.Stages.{LinksAsked, LinksHeld, MovementsAsked, MovementsHeld, SharesAsked}
use Rattle.network_links.proofs.Movements.{shares-asked, shares-checked}
use Rattle.network.specs.declared.Start.{Start}
use Rattle.network.specs.Loading.{first_checks, FirstAsked, end_checks, timeline_checks, TablesJudged, TimelineAsked, TimelineHeld, Rooms, start_of, LoadedFrom, StartedFrom}
use Rattle.network.proofs.Left.{on, stop, tables-refused}
use Rattle.network.proofs.First.{first-joined}
use Rattle.network.proofs.Timeline.{link-limits}
use Rattle.std.specs.Prelude.{Result, Ok, Err}

-- the checks from each stage on
module _ (text : List ℕ) where
  abbrev Left : Checks → Type 0
  Left rest = verdict (network_checks (lines text)) ≡ verdict rest

  abbrev from_shares : Checks
  from_shares = each (link_count (lines text)) (share_checks (lines text)) then timeline_checks (lines text)

  abbrev from_movements : Checks
  from_movements = block_checks (movement_block (lines text)) then from_shares

  abbrev from_links : Checks
  from_links = block_checks (link_block (lines text)) then from_movements

  abbrev from_signals : Checks
  from_signals = first_checks (lines text) then from_links

  whole : Left (count_checks (lines text) then from_signals)
  unfolding network_checks end_checks
  whole = first-joined (lines text) (count_checks (lines text)) from_links

-- ---- without the start
pub without-start : {text : List ℕ} {start : Start} {read : Result NetworkTables Refusal} → TablesJudged (network_checks (lines text)) (StartedFrom text start) read
    → TablesJudged (network_checks (lines text)) (LoadedFrom text start.signals) read
without-start j =
    record {
      passed = j.passed;
      refused = j.refused;
      held = λ tables e. let held = j.held tables e in record { same-text = held.same-text; loaded = held.loaded.tabled };
    }

-- ---- the stages
module _ {text : List ℕ} {signals₀ : List Signal} {links₀ : List Link} {movements₀ : List Movement} {times₀ row₀ : List ℕ} {arrivals₀ : List Arrival} (room : Rooms signals₀ links₀ movements₀ times₀ row₀ arrivals₀)
    {counts : Result Reading Refusal} (j : Judged (count_checks (lines text)) (CountsHeld text) counts) where
  pub counts-stop : {Held : NetworkTables → Type 0} {r : Refusal} → counts ≡ Err r → TablesJudged (network_checks (lines text)) Held (Err r)
  counts-stop e = tables-refused (stop (network_checks (lines text)) _ (from_signals text) (whole text) (verdict-refused j e))

  module _ {at_signals : Reading} (e₁ : counts ≡ Ok at_signals) where
    pub signals-asked : FirstAsked text at_signals signals₀
    signals-asked = let held = j.held _ e₁ in record { counted = held.counted; starts = held.starts; trams-start = held.trams-start; room = room.signal-room }

    left₁ : Left text (from_signals text)
    left₁ = on (network_checks (lines text)) _ (from_signals text) (whole text) (verdict-passed j e₁)

    module _ {signals : List Signal} {signalled : Result Reading Refusal} (j₁ : Judged (first_checks (lines text)) (SignalsHeld text signals) signalled) where
      pub signals-stop : {Held : NetworkTables → Type 0} {r : Refusal} → signalled ≡ Err r → TablesJudged (network_checks (lines text)) Held (Err r)
      signals-stop e = tables-refused (stop (network_checks (lines text)) _ (from_links text) left₁ (verdict-refused j₁ e))

      module _ {at_links : Reading} (e₂ : signalled ≡ Ok at_links) where
        pub links-asked : LinksAsked text at_links signals links₀
        links-asked =
            let held = j₁.held _ e₂ in
            record {
              reached = held.reached;
              signal-size = held.table.size;
              phases-told = λ r l. ap (λ (s : Signal). s.phases) (held.table.holds r l);
              few-phases = held.few;
              room = room.link-room;
            }

        left₂ : Left text (from_links text)
        left₂ = on (network_checks (lines text)) _ (from_links text) left₁ (verdict-passed j₁ e₂)

        module _ {links : List Link} {linked : Result Reading Refusal} (j₂ : Judged (block_checks (link_block (lines text))) (LinksHeld text links) linked) where
          pub links-stop : {Held : NetworkTables → Type 0} {r : Refusal} → linked ≡ Err r → TablesJudged (network_checks (lines text)) Held (Err r)
          links-stop e = tables-refused (stop (network_checks (lines text)) _ (from_movements text) left₂ (verdict-refused j₂ e))

          module _ {at_movements : Reading} (e₃ : linked ≡ Ok at_movements) where
            pub movements-asked : MovementsAsked text at_movements movements₀
            movements-asked = record { reached = (j₂.held _ e₃).reached; room = room.movement-room }

            left₃ : Left text (from_movements text)
            left₃ = on (network_checks (lines text)) _ (from_movements text) left₂ (verdict-passed j₂ e₃)

            module _ {movements : List Movement} {moved : Result Reading Refusal} (j₃ : Judged (block_checks (movement_block (lines text))) (MovementsHeld text movements) moved) where
              pub movements-stop : {Held : NetworkTables → Type 0} {r : Refusal} → moved ≡ Err r → TablesJudged (network_checks (lines text)) Held (Err r)
              movements-stop e = tables-refused (stop (network_checks (lines text)) _ (from_shares text) left₃ (verdict-refused j₃ e))

              module _ {at_shares : Reading} (e₄ : moved ≡ Ok at_shares) where
                pub links-cut : at_shares.counts.links ≡ length (take at_shares.counts.links links)
                links-cut = sym (length-take-le at_shares.counts.links links (omega (arith, (j₂.held _ e₃).room, (j₃.held _ e₄).reached.counted.few.links)))

                -- the counts are those of the text at both stages
                link-table : LinkTable (lines text) (take at_shares.counts.links links)
                link-table = rw ((j₃.held _ e₄).reached.counted.links, ← (j₂.held _ e₃).reached.counted.links) (j₂.held _ e₃).table

                pub movements-cut : at_shares.counts.movements ≡ length (take at_shares.counts.movements movements)
                movements-cut = sym (length-take-le at_shares.counts.movements movements (omega (arith, (j₃.held _ e₄).room, (j₃.held _ e₄).reached.counted.few.movements)))

                pub shares-ready : SharesAsked (take at_shares.counts.movements movements) at_shares.counts
                shares-ready = shares-asked (j₃.held _ e₄).reached.counted (j₃.held _ e₄).table

                left₄ : Left text (from_shares text)
                left₄ = on (network_checks (lines text)) _ (from_shares text) left₃ (verdict-passed j₃ e₄)

                module _ {shared : Verdict} (told : shared ≡ verdict (each at_shares.counts.links (share_checks_in (take at_shares.counts.movements movements) at_shares.counts))) where
                  checked : verdict (each (link_count (lines text)) (share_checks (lines text))) ≡ shared
                  checked = sym (told ∙ shares-checked (j₃.held _ e₄).reached.counted (j₃.held _ e₄).table)

                  pub shares-stop : {Held : NetworkTables → Type 0} {r : Refusal} → shared ≡ Err r → TablesJudged (network_checks (lines text)) Held (Err r)
                  shares-stop e = tables-refused (stop (network_checks (lines text)) _ (timeline_checks (lines text)) left₄ (checked ∙ e))

                  module _ (e₅ : shared ≡ Ok tt) where
                    pub timeline-asked : TimelineAsked text at_shares (take at_shares.counts.links links) times₀ row₀ arrivals₀
                    timeline-asked =
                        record {
                          reached = (j₃.held _ e₄).reached;
                          link-table = link-table;
                          limits = link-limits (lines text) (verdict-passed j₂ e₃);
                          room = room.time-room;
                          row-room = room.row-room;
                          arrival-room = room.arrival-room;
                        }

                    left₅ : Left text (timeline_checks (lines text))
                    left₅ = on (network_checks (lines text)) _ (timeline_checks (lines text)) left₄ (checked ∙ e₅)

                    module _ {row : List ℕ} {arrivals : List Arrival} {timed : Result NetworkTables Refusal} (j₅ : TablesJudged (timeline_checks (lines text)) (TimelineHeld text (take at_shares.counts.links links) (take at_shares.counts.movements movements) row arrivals) timed) where
                      pub network-judged : TablesJudged (network_checks (lines text)) (StartedFrom text (start_of signals row arrivals)) timed
                      network-judged =
                          record {
                            passed = λ tables e. left₅ ∙ j₅.passed tables e;
                            refused = λ r e. left₅ ∙ j₅.refused r e;
                            held = λ tables e.
                                let held = j₅.held tables e in
                                record {
                                  same-text = held.same-text;
                                  loaded = record {
                                    past-held = rw held.same-text held.past-held;
                                    tabled =
                                        rw (held.same-text, held.same-links, held.same-movements)
                                        (record {
                                          counted = held.counted;
                                          trams-start = held.trams-start;
                                          past-start = held.past-start;
                                          steps-start = held.steps-start;
                                          signal-table = (j₁.held _ e₂).table;
                                          few-phases = (j₁.held _ e₂).few;
                                          link-table = link-table;
                                          movement-table = (j₃.held _ e₄).table;
                                          time-table = held.time-table;
                                          holds = hold-of-passes (network_checks (lines text)) (left₅ ∙ j₅.passed tables e);
                                        });
                                  };
                                };
                          }
