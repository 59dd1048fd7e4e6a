-- The `H` lines, the `S` lines, the end of the text and the past, one after another.
use Rattle.base_laws.proofs.Kit.{ℕ, ◌≤◌, ◌<◌, ◌≡◌, refl, sym, ◌∙◌, true, List, arith, leb-true, replicate, length-replicate, get_or-replicate}
use Rattle.base_search.specs.declared.Refusal.{Refusal}
use Rattle.base_search.specs.Checks.{Checks, Verdict, Hold, ◌then◌, verdict}
use Rattle.base_search.proofs.Laws.{hold-of-passes}
use Rattle.text_reader.specs.Lines.{Line, lines}
use Rattle.base_laws.specs.Test.{within}
use Rattle.model.specs.Network.{max_links, link_count, on_timeline, capacity, standing, travel_time}
use Rattle.model.specs.Rules.{valid_link, valid_past}
use Rattle.model.specs.Table.{link_checks, past_checks}
use Rattle.base_laws.proofs.Tests.{and_left, and_right}
use Rattle.network_tables.specs.declared.Link.{Link}
use Rattle.network_tables.specs.declared.Movement.{Movement}
use Rattle.network_tables.specs.declared.Reading.{Reading}
use Rattle.network_tables.specs.declared.NetworkTables.{NetworkTables}
use Rattle.network_tables.specs.Blocks.{block_checks, link_block, past_block, step_block}
use Rattle.network_tables.specs.Tables.{Judged}
use Rattle.network_tables.proofs.Stages.{verdict-passed, verdict-refused}
use Rattle.step_arrivals.specs.Timed.{valid_lengths}
use Rattle.step_arrivals.proofs.Timed.{timed-table}
use Rattle.step_past.specs.declared.Arrival.{Arrival}
use Rattle.step_past.specs.Curves.{PastForms}
use Rattle.network_past.specs.Past.{FormsHeld, past_end_checks, EndAsked as PastEndAsked, PastHeld}
use Rattle.network_steps.specs.Steps.{StepsAsked, StepsHeld}
use Rattle.network.specs.Loading.{end_checks, EndAsked, TablesJudged, timeline_checks, TimelineAsked, TimelineHeld}
use Rattle.network.proofs.Left.{on, stop, tables-refused, tables-passed}
use Rattle.network.proofs.End.{lines-within}
use Rattle.std.specs.Prelude.{Result, Ok, Err}

-- the limits of links that have passed
pub link-limits : (network : List Line) → verdict (block_checks (link_block network)) ≡ Ok tt
    → (i : ℕ) → i < link_count network → (capacity network i ≤ 2_000_000_000) × ((standing network i ≤ capacity network i) × (1 ≤ travel_time network i))
unfolding Hold link_checks valid_link within
link-limits network e i l = let v = (hold-of-passes (block_checks (link_block network)) e i l).1 in search (leb-true, and_left, and_right) depth 9

-- the forms of `H` lines that have passed
past-forms : (network : List Line) → verdict (block_checks (past_block network)) ≡ Ok tt → PastForms network
unfolding Hold past_checks
past-forms network e m l = hold-of-passes (block_checks (past_block network)) e m l

-- ---- the stages
module _ {text : List ℕ} {reading : Reading} {links : List Link} {times₀ row₀ : List ℕ} {arrivals₀ : List Arrival} (asked : TimelineAsked text reading links times₀ row₀ arrivals₀) where
  abbrev from_end : Checks
  from_end = end_checks (lines text) then past_end_checks (lines text)

  abbrev from_steps : Checks
  from_steps = block_checks (step_block (lines text)) then from_end

  module _ {times : List ℕ} {formed : Result Reading Refusal} (j : Judged (block_checks (past_block (lines text))) (FormsHeld text times) formed) where
    pub forms-stop : {Held : NetworkTables → Type 0} {r : Refusal} → formed ≡ Err r → TablesJudged (timeline_checks (lines text)) Held (Err r)
    forms-stop e = tables-refused (stop (timeline_checks (lines text)) _ from_steps refl (verdict-refused j e))

    module _ {at_steps : Reading} (e₁ : formed ≡ Ok at_steps) where
      pub steps-asked : {demands : List ℕ} → demands ≡ replicate max_links 0 → StepsAsked text at_steps times demands
      steps-asked zeros =
          let held = j.held _ e₁ in
          record {
            reached = held.reached;
            past-start = held.past-start;
            told = held.told;
            timed-past = held.timed-past;
            demand-room = rw zeros (length-replicate {A = ℕ} max_links 0);
            none = λ i l. rw zeros (get_or-replicate {A = ℕ} max_links i 0 0 l);
          }

      left₁ : verdict (timeline_checks (lines text)) ≡ verdict from_steps
      left₁ = on (timeline_checks (lines text)) _ from_steps refl (verdict-passed j e₁)

      module _ {times' demands' : List ℕ} {stepped : Result Reading Refusal} (j₁ : Judged (block_checks (step_block (lines text))) (StepsHeld text times' demands') stepped) where
        pub steps-stop : {Held : NetworkTables → Type 0} {r : Refusal} → stepped ≡ Err r → TablesJudged (timeline_checks (lines text)) Held (Err r)
        steps-stop e = tables-refused (stop (timeline_checks (lines text)) _ from_end left₁ (verdict-refused j₁ e))

        module _ {at_end : Reading} (e₂ : stepped ≡ Ok at_end) where
          held : StepsHeld text times' demands' at_end
          held = j₁.held _ e₂

          pub end-asked : EndAsked text at_end
          end-asked =
              record {
                reached = held.reached;
                within = lines-within (lines text) (omega (arith, held.reached.counted.some-steps, held.reached.counted.steps)) (verdict-passed j₁ e₂);
              }

          left₂ : verdict (timeline_checks (lines text)) ≡ verdict from_end
          left₂ = on (timeline_checks (lines text)) _ from_end left₁ (verdict-passed j₁ e₂)

          module _ {ended : Verdict} (told : ended ≡ verdict (end_checks (lines text))) where
            pub end-stop : {Held : NetworkTables → Type 0} {r : Refusal} → ended ≡ Err r → TablesJudged (timeline_checks (lines text)) Held (Err r)
            end-stop e = tables-refused (stop (timeline_checks (lines text)) _ (past_end_checks (lines text)) left₂ (sym told ∙ e))

            module _ (e₃ : ended ≡ Ok tt) where
              pub past-asked : (tables : NetworkTables) → tables.text.now ≡ text → tables.reading ≡ at_end → tables.links.now ≡ links → tables.times.now ≡ times' → PastEndAsked tables demands' row₀ arrivals₀
              past-asked tables x r l t =
                  record {
                    counted = rw (x, r) held.reached.counted;
                    past-start = rw (x, r) held.past-start;
                    forms = rw x (past-forms (lines text) (verdict-passed j e₁));
                    link-table = rw (x, l) asked.link-table;
                    limits = rw x asked.limits;
                    told = rw (x, r) held.told;
                    timed-all = rw (x, r, t) held.timed-all;
                    demand-size = held.demand-room;
                    demanded = rw x held.demanded;
                    row-room = asked.row-room;
                    arrival-room = asked.arrival-room;
                  }

              -- a past that is good is timed
              timed : verdict (past_end_checks (lines text)) ≡ Ok tt → at_end.timed ≡ true
              unfolding Hold valid_past valid_lengths
              timed e = held.told ∙ and_left _ _ (hold-of-passes (past_end_checks (lines text)) e)

              module _ {said : Verdict} (past-told : said ≡ verdict (past_end_checks (lines text))) where
                left₃ : verdict (timeline_checks (lines text)) ≡ said
                left₃ = on (timeline_checks (lines text)) _ (past_end_checks (lines text)) left₂ (sym told ∙ e₃) ∙ sym past-told

                pub past-stop : {Held : NetworkTables → Type 0} {r : Refusal} → said ≡ Err r → TablesJudged (timeline_checks (lines text)) Held (Err r)
                past-stop e = tables-refused (left₃ ∙ e)

                pub timeline-judged : said ≡ Ok tt → {row : List ℕ} {arrivals : List Arrival} → PastHeld text row arrivals → (tables : NetworkTables) → tables.text.now ≡ text → tables.reading ≡ at_end → tables.links.now ≡ links
                    → {movements : List Movement} → tables.movements.now ≡ movements → tables.times.now ≡ times' → TablesJudged (timeline_checks (lines text)) (TimelineHeld text links movements row arrivals) (Ok tables)
                timeline-judged e past-held tables x r l m t =
                    tables-passed (left₃ ∙ e)
                    (record {
                      same-text = x;
                      same-links = l;
                      same-movements = m;
                      counted = rw r held.reached.counted;
                      trams-start = rw r held.reached.trams-start;
                      past-start = rw r held.past-start;
                      steps-start = rw r held.steps-start;
                      past-held = past-held;
                      time-table = rw t (timed-table (rw (timed (sym past-told ∙ e)) at held.timed-all) (unfold on_timeline in omega arith));
                    })
