-- What is known between the calls of one step.
use Rattle.base_laws.proofs.Kit.{ℕ, suc, ◌+◌, ◌*◌, ◌-◌, ◌≤◌, ◌<◌, ◌≡◌, refl, sym, ap, ◌∙◌, ◌⊎◌, inl, inr, List, ◌++◌, add-one, eq-or-lt_of_le, dec_le, arith, length, take, drop, length-drop, length-take-le}
use Rattle.base_search.specs.declared.Refusal.{Refusal}
use Rattle.base_search.specs.Checks.{refusal, verdict, table, Verdict}
use Rattle.text_reader.specs.Lines.{Line, lines}
use Rattle.model.specs.declared.Signal.{Signal}
use Rattle.model.specs.Network.{link_count, on_timeline}
use Rattle.model.specs.Flows.{outside}
use Rattle.model.specs.Table.{line_checks}
use Rattle.model.specs.Hold.{plan_of}
use Rattle.model.specs.Calls.{written}
use Rattle.model.proofs.Accepted.{ValidNetwork, valid-network, LawfulStep}
use Rattle.model.proofs.Limits.{step-limits}
use Rattle.model.proofs.Bounds.{KeepsLimits, lawful-limits, entered-word, left_word}
use Rattle.network_tables.specs.declared.Counts.{Counts}
use Rattle.network_tables.specs.declared.NetworkTables.{NetworkTables}
use Rattle.network_tables.specs.Fields.{row_size, length_in}
use Rattle.network_tables.specs.Tables.{CountsHold}
use Rattle.network_tables.proofs.Tables.{travel-time-at}
use Rattle.step_arrivals.proofs.Boundaries.{arrival-is, cursor-ready}
use Rattle.step_past.specs.declared.Arrival.{Arrival}
use Rattle.step_past.specs.Curves.{ArrivalTable, NextAsked as PastNextAsked, NextGot as PastNextGot}
use Rattle.step_past.proofs.Valid.{past-form, past_fits}
use Rattle.step_rows.specs.declared.Step.{Step}
use Rattle.step_rows.specs.Fit.{StepTables, StepFit}
use Rattle.step_rows.specs.Rows.{RowHolds}
use Rattle.step_rows.specs.Step.{StepHolds}
use Rattle.step_rows.specs.Waiting.{AddAsked, Offers, StepOffers, Waits, WaitingTable}
use Rattle.step_rows.proofs.Fit.{step-tables, step-fit, limited, arrival-tables}
use Rattle.step_rows.proofs.Texts.{movements-named, next-row-fits, next-row-holds, next-row-front}
use Rattle.step_rows.proofs.Cuts.{offers-cut}
use Rattle.step_rows.proofs.Ledger.{part-holds, next-written}
use Rattle.step_rows.proofs.WaitingTexts.{outside-is, add-ready, step-offers, next-ready, waiting-next}
use Rattle.step_limits.specs.Limits.{LimitsKept}
use Rattle.step_limits.proofs.Texts.{keeps-paper}
use Rattle.step_check.specs.Step.{row_before, made_row, step_rules_in, JudgeAsked, StepJudged}
use Rattle.step_check.proofs.Texts.{rules-are}
use Rattle.plan_steps.specs.declared.State.{State}
use Rattle.plan_steps.specs.declared.Lines.{Lines}
use Rattle.plan_steps.specs.declared.Place.{Place}
use Rattle.plan_steps.specs.declared.Run.{Run}
use Rattle.plan_steps.specs.Reading.{LinesLent, ReadAsked, LinesRead, ReadGot}
use Rattle.plan_steps.specs.State.{StateAt, NextAsked, NextGot, StepAsked, StepGot}
use Rattle.plan_steps.proofs.Adding.{passed-lawful, totals-asked, totals-next}
use Rattle.plan_steps.proofs.Fronts.{front}
use Rattle.plan_steps.proofs.Ledger.{written-again}
use Rattle.plan_steps.proofs.Steps.{signals-next}
use Rattle.plan_steps.proofs.Verdicts.{line-malformed, line-formed}
use Rattle.std.specs.Prelude.{Option, Some, None, Ok, Err}

-- the step that is judged by these tables
pub record Judging (tables : NetworkTables) (n : ℕ) (signals : List Signal) (said : Lines) (ledger : List ℕ) (arrivals : List Arrival) (step : Step) : Type 0 where
  pub counts : step.counts ≡ tables.reading.counts
  pub links : step.links.now ≡ tables.links.now
  pub movements : step.movements.now ≡ tables.movements.now
  pub times : step.times.now ≡ tables.times.now
  pub signals-are : step.signals.now ≡ signals
  pub plan-line : step.plan_line.now ≡ said.plan
  pub step-line : step.step_line.now ≡ said.step
  pub phases : step.phases.now ≡ said.phases
  pub asked : step.asked.now ≡ said.asked
  pub ledger-is : step.ledger.now ≡ ledger
  pub arrivals-are : step.arrivals.now ≡ arrivals
  pub boundary : step.boundary ≡ n

module _ {run : Run} {state : State} {signals : List Signal} {arrivals : List Arrival} {waiting ledger : List ℕ} {lent : Lines} (asked : StepAsked run state signals arrivals waiting ledger lent) where
  abbrev network_text : List ℕ
  network_text = run.tables.now.text.now

  abbrev plan_text : List ℕ
  plan_text = run.plan.now

  abbrev tables : NetworkTables
  tables = run.tables.now

  abbrev net : List Line
  net = lines network_text

  abbrev pln : List Line
  pln = plan_of network_text plan_text

  abbrev counts : Counts
  counts = tables.reading.counts

  abbrev n : ℕ
  n = state.place.boundary

  counted : CountsHold net counts
  counted = asked.tables.counted

  valid : ValidNetwork net
  valid = valid-network net asked.tables.holds

  pub read-asked : ReadAsked run state.place signals lent
  read-asked =
      record {
        tables = asked.tables;
        tram-table = asked.tram-table;
        at = asked.state-at.at;
        more = asked.more;
        signals-at = asked.state-at.signals-at;
        lent = asked.lent;
      }

  -- the line has not the form of a `P` line
  pub step-malformed : {result : Option Place} {said : Lines} → ReadGot network_text plan_text state.place result said → result ≡ None
      → StepGot network_text plan_text ledger state (Err (refusal 9 (n + 1) 0)) signals arrivals waiting ledger said
  step-malformed got e = record { outcome = record { told = rw (add-one n) (line-malformed net pln n (rw e at got.outcome)); kept = refl } }

  at_next : counts.past + n + 1 ≡ on_timeline net (suc n)
  unfolding on_timeline
  at_next = omega (arith, counted.past)

  pub arrivals-asked : PastNextAsked tables (counts.past + n + 1) arrivals
  arrivals-asked =
      record {
        move-tables = record { counted = counted; forms = past-form net asked.tables.holds; fits = past_fits net asked.tables.holds };
        cursors = λ i l. let l' : i < link_count net = omega (arith, counted.links) in
            rw at_next (cursor-ready asked.tables.holds asked.tables.time-table n i asked.more l' (asked.state-at.arrivals-at.holds i l') (travel-time-at asked.tables.link-table i l'));
        curves-at = asked.state-at.curves-at;
      }

  -- its lines are read
  module _ {result : Option Place} {read-off : Lines} (got : ReadGot network_text plan_text state.place result read-off) {place : Place} (some : result ≡ Some place) where
    read : LinesRead network_text plan_text state.place place read-off
    read = rw some at got.outcome

    -- those who wait are added for the links that there are
    pub add-asked : AddAsked (take counts.links waiting) read-off.step
    add-asked = rw (front waiting counts.links) (add-ready counted asked.tables.holds asked.more asked.state-at.waiting-at read.step-numbers)

    -- they are added, and the arrivals moved on
    module _ {step' : List ℕ} (waited : Offers (length (take counts.links waiting)) (take counts.links waiting) read-off.step step') {arrivals' : List Arrival} (moved : PastNextGot tables (counts.past + n + 1) arrivals') where
      abbrev said : Lines
      said = record { step = step'; plan = read-off.plan; phases = read-off.phases; asked = read-off.asked }

      added : Offers counts.links waiting read-off.step step'
      added = offers-cut waiting counts.links (omega (arith, asked.state-at.waiting-at.size, counted.few.links)) (rw (front waiting counts.links) at waited)

      offers : StepOffers net pln n step'
      offers = step-offers counted asked.state-at.waiting-at read.step-numbers added

      lent-on : LinesLent network_text plan_text said
      lent-on = record { step-size = added.size; plan-size = read.lent.plan-size; phases-size = read.lent.phases-size; no-volume = read.lent.no-volume }

      arrivals-at : ArrivalTable net (suc n) arrivals'
      arrivals-at =
          record {
            size = moved.steps-at.size;
            holds = λ i l. moved.steps-at.arrived i (omega (arith, counted.links))
                ∙ rw (at_next, travel-time-at asked.tables.link-table i l) (arrival-is asked.tables.time-table (suc n) i asked.more);
          }

      -- what the step says of its tables
      pub tables-fit : StepTables counts tables.links.now tables.movements.now signals said.plan said.step said.phases said.asked n
      tables-fit =
          step-tables asked.tables.holds counted asked.tables.link-table asked.tables.movement-table
          asked.state-at.signals-at read.plan-numbers offers read.shown read.asked asked.more

      -- and all that its limits and its sums ask of them
      pub fit : StepFit counts tables.links.now tables.movements.now tables.times.now signals said.plan said.step said.phases said.asked ledger arrivals' n
      fit =
          step-fit asked.tables.holds counted asked.tables.link-table asked.tables.movement-table asked.tables.time-table asked.state-at.signals-at read.plan-numbers offers read.shown read.asked arrivals-at asked.more
          (omega (arith, asked.room))

      module _ {step : Step} (is : Judging tables n signals said ledger arrivals' step) where
        at : StepHolds network_text pln n step
        at =
            record {
              counted = rw is.counts counted;
              link-table = rw is.links asked.tables.link-table;
              movement-table = rw is.movements asked.tables.movement-table;
              time-table = rw is.times asked.tables.time-table;
              signals-at = rw is.signals-are asked.state-at.signals-at;
              numbers = rw is.plan-line read.plan-numbers;
              offers = rw is.step-line offers;
              shown = rw is.phases read.shown;
              claims = rw is.asked read.asked;
              rows = rw is.ledger-is asked.state-at.rows;
              arrivals-at = rw is.arrivals-are arrivals-at;
              curves-at = rw is.arrivals-are moved.curves-at;
              begins = is.boundary;
            }

        room : 2 * suc (suc n) * link_count net ≤ length step.ledger.now
        room = rw is.ledger-is asked.room

        row_room : 2 * link_count net ≤ length step.ledger.now - 2 * n * link_count net
        row_room = omega (arith, room)

        -- the row before the step, as the judgement reads it off the ledger
        before : RowHolds net pln n (row_before step)
        before =
            let p = part-holds net pln step.ledger.now (suc n) n (length step.ledger.now - 2 * n * link_count net) (omega arith) row_room in
            rw (at.counted.links, at.begins) (rw (← at.rows) at p)

        previous-size : 2 * link_count net ≤ length (row_before step)
        previous-size =
            let a = 2 * n * link_count net in
            rw (at.counted.links, at.begins) (omega (arith, row_room, length-take-le (length step.ledger.now - a) (drop a step.ledger.now) (omega (arith, length-drop a step.ledger.now))))

        keeps : LimitsKept step → (m : ℕ) → m < suc n → KeepsLimits net pln m
        keeps kept m l = go (let l' : m ≤ n = omega arith in eq-or-lt_of_le l')
          where
            go : (m ≡ n) ⊎ (m < n) → KeepsLimits net pln m
            go (inl q) = rw q (keeps-paper valid at kept)
            go (inr u) = lawful-limits (passed-lawful net pln m (asked.state-at.passed m u))

        after-row : (row : List ℕ) → RowHolds net pln (suc n) (made_row step (row_before step) row)
        after-row row = next-row-holds at.counted at.numbers at.movement-table before (drop (2 * step.counts.links) row) refl

        module _ {row : List ℕ} (row-size : length row ≡ row_size) where
          pub judge-asked : JudgeAsked step (row_before step) row
          judge-asked =
              record {
                limited = limited asked.tables.holds at;
                before = rw (is.counts, is.ledger-is, is.boundary) (omega (arith, fit.rows));
                fits = λ kept.
                    next-row-fits at.counted at.numbers at.movement-table before (movements-named at.counted at.movement-table valid) previous-size row-size
                    (entered-word net pln asked.tables.holds (suc n) asked.more (keeps kept)) (left_word net pln asked.tables.holds (suc n) asked.more (keeps kept));
                arrival-tables = λ kept. arrival-tables asked.tables.holds at (omega (arith, room)) asked.more;
              }

          module _ {v : Verdict} {row' : List ℕ} (judged : StepJudged step (row_before step) row v row') where
            -- the judgement is the paper's verdict on the line
            line-judged : v ≡ verdict (line_checks net pln n)
            line-judged =
                judged.told
                ∙ ap (λ boundary. verdict (table boundary (step_rules_in step (row_before step) row))) (ap (λ m. m + 1) at.begins ∙ add-one n)
                ∙ rules-are valid at before (after-row row) asked.more
                ∙ sym (line-formed net pln n read.is-formed)

            pub step-refused : {r : Refusal} → v ≡ Err r → StepGot network_text plan_text ledger state (Err r) signals arrivals' waiting ledger said
            step-refused q = record { outcome = record { told = sym line-judged ∙ q; kept = refl } }

            module _ (passes : v ≡ Ok tt) where
              passed-line : verdict (line_checks net pln n) ≡ Ok tt
              passed-line = sym line-judged ∙ passes

              lawful : LawfulStep net pln n
              lawful = passed-lawful net pln n passed-line

              waiting-at : {waiting' : List ℕ} → Waits counts said.step said.plan counts.links waiting' → WaitingTable net pln (suc n) waiting'
              waiting-at stay = waiting-next counted read.plan-numbers offers lawful.keeps15 stay

              pub next-asked : NextAsked (record { place = place; totals = state.totals; outside = state.outside }) said counts signals waiting
              next-asked =
                  record {
                    waits-asked = next-ready counted read.plan-numbers offers lawful.keeps15 asked.state-at.waiting-at.size;
                    advance-asked = record {
                      few = counted.few.signals;
                      size = asked.state-at.signals-at.size;
                      ready = λ r l. asked.state-at.signals-at.ready r (omega (arith, counted.signals));
                      short = omega (arith, offers.lasts, (step-limits net valid n asked.more).length-limit);
                      phases-size = omega (arith, read.shown.size, counted.few.signals);
                      asked-size = omega (arith, read.asked.size, counted.few.signals);
                    };
                    totals-asked = λ waiting' stay. totals-asked net pln asked.tables.holds counts counted n asked.state-at.within state.totals asked.state-at.totals-at asked.state-at.passed asked.more lawful
                        asked.state-at.outside-at (outside-is counted (waiting-at stay)) read.plan-numbers offers;
                  }

              module _ {waiting' ledger' : List ℕ} {signals' : List Signal} {next : State} (kept : length row' ≡ length row) {start : ℕ} (starts : start ≡ 2 * (n + 1) * counts.links)
                  (wrote : ledger' ≡ take start ledger ++ (take (2 * counts.links) row' ++ drop (start + length (take (2 * counts.links) row')) ledger))
                  (on : NextGot (record { place = place; totals = state.totals; outside = state.outside }) said counts signals signals' waiting' next) where
                wide : length (take (2 * counts.links) row') ≡ 2 * counts.links
                wide = length-take-le (2 * counts.links) row' (omega (arith, kept, row-size, counted.few.links))

                rows_written : ledger' ≡ written net pln ledger (suc (suc n))
                rows_written =
                    next-written net pln ledger row' (suc n) asked.state-at.rows (next-row-front at.counted at.numbers at.movement-table before (drop (2 * step.counts.links) row) (judged.made passes))
                    (rw (starts, wide, counted.links, add-one) at wrote)

                passed-more : (m : ℕ) → m < suc n → verdict (line_checks net pln m) ≡ Ok tt
                passed-more m l = elim (dec_le n m) [
                  | yes u ↦ let q : m ≡ n = omega arith in rw q passed-line
                  | no u ↦ asked.state-at.passed m (omega arith)
                ]

                outside-next : next.outside ≡ outside net pln (suc n)
                outside-next = on.outside ∙ outside-is counted (waiting-at on.stay)

                is-next : next.place.boundary ≡ suc n
                is-next = ap (λ (p : Place). p.boundary) on.place ∙ read.boundary ∙ add-one n

                state-next : StateAt network_text plan_text next signals' arrivals' waiting' ledger'
                state-next =
                    record {
                      within = rw is-next (omega (arith, asked.more));
                      passed = rw is-next passed-more;
                      at = rw on.place read.at;
                      signals-at = rw is-next
                          (signals-next net pln n signals signals' said.phases said.asked (length_in said.step) counts.signals asked.state-at.signals-at read.shown read.asked lawful counted.signals
                          offers.lasts on.advanced);
                      totals-at = rw is-next
                          (on.totals ∙ totals-next net pln asked.tables.holds counts counted n asked.state-at.within state.totals asked.state-at.totals-at asked.state-at.passed asked.more lawful
                          asked.state-at.outside-at outside-next read.plan-numbers offers);
                      outside-at = rw is-next outside-next;
                      arrivals-at = rw is-next arrivals-at;
                      curves-at = moved.curves-at;
                      waiting-at = rw is-next (waiting-at on.stay);
                      rows = rw is-next
                          (rows_written ∙ sym (written-again net pln ledger (suc (suc n)) (suc (suc n)) (omega arith)) ∙ ap (λ x. written net pln x (suc (suc n))) (sym rows_written));
                    }

                pub step-passed : StepGot network_text plan_text ledger state (Ok next) signals' arrivals' waiting' ledger' said
                step-passed = record { outcome = record { told = passed-line; boundary = ap (λ (p : Place). p.boundary) on.place ∙ read.boundary; reached = state-next; lent = lent-on; row_more = rows_written } }
