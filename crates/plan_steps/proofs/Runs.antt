-- The steps of a plan, taken one after another.
use Rattle.base_laws.proofs.Kit.{ℕ, zero, suc, ◌+◌, ◌*◌, ◌≤◌, ◌<◌, ◌≡◌, refl, sym, ap, ◌∙◌, Bool, true, false, cond, List, [], ◌++◌, dec_le, mul-le-mul_right, add-one, arith, le-leb, eqb, length, take, drop, length-take-le, List·getD-eq-default}
use Rattle.base_search.specs.declared.Refusal.{Refusal}
use Rattle.base_search.specs.Checks.{refusal, checked, verdict, Hold}
use Rattle.base_search.proofs.Laws.{hold-of-passes}
use Rattle.text_reader.specs.Lines.{Line, no_line, lines, is_record}
use Rattle.text_reader.specs.Reading.{at_end}
use Rattle.text_reader.proofs.Laws.{starts_first}
use Rattle.model.specs.declared.Signal.{Signal}
use Rattle.model.specs.declared.Totals.{Totals}
use Rattle.model.specs.Network.{max_trams, link_count, step_count, past_count, signal}
use Rattle.model.specs.Flows.{signal_at}
use Rattle.model.specs.Table.{is_form, letter_p, ledger_checks, line_checks, plan_line_checks}
use Rattle.model.specs.Hold.{plan_of}
use Rattle.model.specs.Calls.{plan_answer, written, ledger_after}
use Rattle.model.specs.Guarantees.{RowDue}
use Rattle.model.proofs.Accepted.{ValidNetwork, valid-network}
use Rattle.model.proofs.Rows.{length-written, written_none}
use Rattle.model.proofs.Timeline.{past-entered, start_left}
use Rattle.model.proofs.Written.{refused-fails, due-written, rows-until}
use Rattle.network_tables.specs.declared.Counts.{Counts}
use Rattle.network_tables.specs.declared.NetworkTables.{NetworkTables}
use Rattle.network_tables.specs.declared.Tram.{Tram}
use Rattle.network_tables.specs.Tables.{SignalTable, TramTable}
use Rattle.network_trams.specs.Claims.{LoadAsked}
use Rattle.step_past.specs.declared.Arrival.{Arrival}
use Rattle.network.specs.declared.Start.{Start}
use Rattle.network.specs.Loading.{StartLoaded}
use Rattle.step_rows.specs.Waiting.{FirstWaits, WaitingTable}
use Rattle.step_rows.proofs.WaitingTexts.{waiting-first, outside-is}
use Rattle.step_signals.specs.Step.{SignalsAt}
use Rattle.step_signals.proofs.Rules.{ready-first}
use Rattle.step_rows.specs.Rows.{RowHolds}
use Rattle.step_rows.proofs.Ledger.{row-front, next-written}
use Rattle.plan_steps.specs.declared.State.{State}
use Rattle.plan_steps.specs.declared.Lines.{Lines}
use Rattle.plan_steps.specs.declared.Run.{Run}
use Rattle.plan_steps.specs.Totals.{held_in}
use Rattle.plan_steps.specs.PlanLine.{formed}
use Rattle.plan_steps.specs.Reading.{Cleared, Tables}
use Rattle.plan_steps.specs.State.{StateAt, first_state, StepAsked, StepGot, finished}
use Rattle.plan_steps.specs.Steps.{RunAsked, RunGot, StepsAsked, Stopped, AllTaken, StepsGot, Running}
use Rattle.plan_steps.proofs.Verdicts.{plan-stops, plan-surplus, plan-passes}
use Rattle.plan_steps.proofs.PlanLines.{plan-ends}
use Rattle.plan_steps.proofs.Ledger.{written-again}
use Rattle.plan_steps.proofs.Reading.{cleared-lent}
use Rattle.network_trams.proofs.Ready.{trams-ready}
use Rattle.plan_steps.proofs.Adding.{totals-first}
use Rattle.step_past.proofs.Valid.{entered-at-start, left-at-start}
use Rattle.std.specs.Prelude.{Result, Ok, Err}

-- the signals before the plan
pub signals-first : (network plan : List Line) (signals : List Signal) → ValidNetwork network → SignalTable network signals → SignalsAt network plan 0 signals
unfolding signal_at
signals-first network plan signals valid t =
    record {
      size = t.size;
      holds = t.holds;
      ready = λ r l. rw (t.holds r l) (ready-first (signal network r) (valid.phases r l) (valid.signals r l));
    }

-- a line that has passed is there
pub lines-within : (network plan : List Line) (n : ℕ) → ((m : ℕ) → m < n → verdict (line_checks network plan m) ≡ Ok tt) → n ≤ length plan
lines-within network plan zero h = omega arith
lines-within network plan (suc m) h = elim (dec_le (length plan) m) [
  | yes l ↦ let z : ◌≡◌ {A = ℕ} 0 1 = none l in absurd (omega arith)
  | no l ↦ omega arith
]
  where
    has-form : formed network plan m ≡ true
    has-form = unfold line_checks Hold in (hold-of-passes (line_checks network plan m) (h m (omega arith))).0

    none : length plan ≤ m → ◌≡◌ {A = ℕ} 0 1
    none l =
        let g : formed network plan m ≡ false = unfold is_form is_record in (ap (is_record letter_p _) (List·getD-eq-default plan no_line l) ∙ refl) in
        let f = has-form in
        cc

-- what `finish` returns
module _ (plan : List ℕ) (at steps : ℕ) (t : Totals) where
  pub finish-end : (b : Bool) → b ≡ at_end plan at → checked b 9 (steps + 1) 0 ≡ Ok tt → Ok t ≡ finished plan at steps t
  unfolding finished checked
  finish-end true e h = rw (← e) refl
  finish-end false e h = cc

  pub finish-more : (b : Bool) → b ≡ at_end plan at → (q : Refusal) → checked b 9 (steps + 1) 0 ≡ Err q → Err q ≡ finished plan at steps t
  unfolding finished checked
  finish-more true e q h = cc
  finish-more false e q h = let told : q ≡ refusal 9 (steps + 1) 0 = cc in rw (← e, told) refl

-- ---- the first steps
-- the tables of a network that has passed
pub tables-held : {tables : NetworkTables} {start : Start} → StartLoaded tables start → Tables tables
tables-held loaded =
    let l = loaded.tabled in
    record { holds = l.holds; counted = l.counted; link-table = l.link-table; movement-table = l.movement-table; time-table = l.time-table }

module _ {tables : NetworkTables} {steps : ℕ} {start : Start} {waiting₀ old : List ℕ} (a : StepsAsked tables steps start waiting₀ old) where
  abbrev network_text : List ℕ
  network_text = tables.text.now

  abbrev netw : List Line
  netw = lines network_text

  abbrev counts : Counts
  counts = tables.reading.counts

  held : Tables tables
  held = tables-held a.loaded

  start-room : 2 * link_count netw ≤ length old
  start-room = let m : 1 ≤ suc steps = omega arith in omega (arith, a.room, mul-le-mul_right (2 * link_count netw) m)

  start-long : 2 * link_count netw ≤ length start.row
  start-long = omega (arith, a.loaded.past-held.row-size, held.counted.few.links, held.counted.links)

  pub trams-asked : {room : List Tram} → length room ≡ max_trams → LoadAsked tables room
  trams-asked size = trams-ready a.loaded.tabled.trams-start held.counted held.holds size

  -- row 0 of the start is as long as its place, which the ledger has
  pub row-cut : (2 * counts.links ≤ length start.row) × (0 + length (take (2 * counts.links) start.row) ≤ length old)
  row-cut = (omega (arith, start-long, held.counted.links), omega (arith, start-room, held.counted.links, length-take-le (2 * counts.links) start.row (omega (arith, start-long, held.counted.links))))

  module _ (plan_text : List ℕ) where
    abbrev plnn : List Line
    plnn = plan_of network_text plan_text

    row_first : RowHolds netw plnn 0 start.row
    row_first =
        let row-held = a.loaded.past-held.row-held in
        record {
          entered-at = λ i l. row-held.entered_by i l ∙ past-entered netw [] plnn (past_count netw) i (omega arith) ∙ sym (entered-at-start netw plnn i);
          left_at = λ i l. row-held.left_by i l ∙ left-at-start netw i ∙ start_left netw [] plnn i;
        }

    module _ {at : ℕ} (front-is : at ≡ 0) {ledger : List ℕ} (wrote : ledger ≡ take at old ++ (take (2 * counts.links) start.row ++ drop (at + length (take (2 * counts.links) start.row)) old)) where
      first : ledger ≡ written netw plnn old 1
      first =
          let none : at ≡ 2 * 0 * link_count netw = omega arith in
          let wide : length (take (2 * link_count netw) start.row) ≡ 2 * link_count netw = length-take-le (2 * link_count netw) start.row start-long in
          next-written netw plnn old start.row 0 (sym (written_none netw plnn old)) (row-front netw plnn 0 start-long row_first) (rw (held.counted.links, wide, none) at wrote)

      since-self : ledger ≡ written netw plnn ledger 1
      since-self = first ∙ sym (written-again netw plnn old 1 1 (omega arith)) ∙ ap (λ x. written netw plnn x 1) (sym first)

      module _ {waiting : List ℕ} (waits : FirstWaits tables.links.now (length tables.links.now) waiting) where
        waiting-start : WaitingTable netw plnn 0 waiting
        waiting-start = waiting-first plnn held.link-table (rw held.link-table.size at waits)

        state-start : {state : State} → state ≡ first_state tables waiting start.row → StateAt network_text plan_text state start.signals start.arrivals waiting ledger
        state-start e =
            rw e (record {
              within = omega arith;
              passed = λ m l. absurd (omega arith);
              at = record { step-starts = a.loaded.tabled.steps-start; plan-starts = λ h. starts_first plan_text };
              signals-at = signals-first netw plnn start.signals (valid-network netw held.holds) a.loaded.tabled.signal-table;
              totals-at = totals-first netw plnn held.holds counts held.counted start.row row_first (held_in counts start.row) refl;
              outside-at = outside-is held.counted waiting-start;
              arrivals-at = a.loaded.past-held.arrivals-at;
              curves-at = a.loaded.past-held.curves-at;
              waiting-at = waiting-start;
              rows = since-self;
            })

        -- by a run on the same tables and plan
        pub running-first : (run : Run) → run.tables.now ≡ tables → run.plan.now ≡ plan_text → TramTable netw run.trams.now → {state : State} → state ≡ first_state tables waiting start.row
            → {said : Lines} → Cleared said → Running run steps 0 old state start.signals start.arrivals waiting ledger said
        running-first run et ep trams-held {state} e cleared =
            record {
              tables = rw et held;
              tram-table = rw et trams-held;
              taken = rw e refl;
              state-at = rw (et, ep) (state-start e);
              lent = cleared-lent cleared;
              few-steps = rw et a.few-steps;
              since = rw (et, ep) first;
              long = ap length first ∙ length-written netw plnn old 1 (omega (arith, start-room));
              room = rw et a.room;
            }

module _ {run : Run} {steps n : ℕ} {old : List ℕ} {state : State} {signals : List Signal} {arrivals : List Arrival} {waiting ledger : List ℕ} {lent : Lines}
    (r : Running run steps n old state signals arrivals waiting ledger lent) where
  abbrev net : List Line
  net = lines run.tables.now.text.now

  abbrev pln : List Line
  pln = plan_of run.tables.now.text.now run.plan.now

  passed-before : (m : ℕ) → m < n → verdict (line_checks net pln m) ≡ Ok tt
  passed-before m h = r.state-at.passed m (omega (arith, r.taken))

  module _ (h : n < steps) where
    pub running-asked : StepAsked run state signals arrivals waiting ledger lent
    running-asked =
        record {
          tables = r.tables;
          tram-table = r.tram-table;
          state-at = r.state-at;
          more = omega (arith, r.taken, r.few-steps);
          lent = r.lent;
          room = let m : suc (suc n) ≤ suc steps = omega arith in rw r.taken (omega (arith, r.room, r.long, mul-le-mul_right (2 * link_count net) m));
        }

    module _ {result : Result State Refusal} {signals' : List Signal} {arrivals' : List Arrival} {waiting' ledger' : List ℕ} {lent' : Lines}
        (got : StepGot run.tables.now.text.now run.plan.now ledger state result signals' arrivals' waiting' ledger' lent') where
      -- a step is refused
      pub steps-stopped : {q : Refusal} → result ≡ Err q → Stopped run.tables.now.text.now run.plan.now old steps q ledger'
      steps-stopped e =
          let refused = rw e at got.outcome in
          record { step = n; within = h; passed = passed-before; refused = rw r.taken at refused.told; rows = refused.kept ∙ r.since }

      -- it passes
      pub running-next : {next : State} → result ≡ Ok next
          → Running run steps (n + 1) old next signals' arrivals' waiting' ledger' lent'
      running-next e =
          let passed = rw e at got.outcome in
          let w : ledger' ≡ written net pln ledger (suc (suc n)) = rw r.taken at passed.row_more in
          rw (add-one n) (record {
            tables = r.tables;
            tram-table = r.tram-table;
            taken = omega (arith, passed.boundary, r.taken);
            state-at = passed.reached;
            lent = passed.lent;
            few-steps = r.few-steps;
            since = w ∙ ap (λ x. written net pln x (suc (suc n))) r.since ∙ written-again net pln old (suc n) (suc (suc n)) (omega arith);
            long = ap length w ∙ length-written net pln ledger (suc (suc n)) (rw r.taken at running-asked.room) ∙ r.long;
            room = r.room;
          })

  -- all of them have passed
  pub steps-taken : n ≡ steps → AllTaken run.tables.now.text.now run.plan.now old steps state signals waiting ledger
  steps-taken e =
      rw (← e) (record {
        passed = passed-before;
        plan-starts = rw r.taken at r.state-at.at.plan-starts;
        signals-at = rw r.taken at r.state-at.signals-at;
        totals-at = rw r.taken at r.state-at.totals-at;
        waiting-at = rw r.taken at r.state-at.waiting-at;
        rows = r.since;
      })

-- ---- all steps
module _ (plan_text : List ℕ) {tables : NetworkTables} {start : Start} {old : List ℕ} (a : RunAsked tables start old) where
  abbrev network : List Line
  network = lines tables.text.now

  abbrev plan : List Line
  plan = plan_of tables.text.now plan_text

  -- row n is due, and all that are due are written where the next is not
  due : (n : ℕ) → n ≤ step_count network → ((m : ℕ) → m < n → verdict (line_checks network plan m) ≡ Ok tt) → RowDue network plan (length old) n
  due n h passed =
      record {
        in-plan = h;
        network-holds = a.loaded.tabled.holds;
        ledger-holds = unfold Hold ledger_checks in le-leb _ _ a.room;
        steps-hold = λ m l. hold-of-passes (line_checks network plan m) (passed m l);
      }

  rows_are : {ledger : List ℕ} (n : ℕ) → RowDue network plan (length old) n → (RowDue network plan (length old) (suc n) → ⊥) → ledger ≡ written network plan old (suc n) → ledger ≡ ledger_after network plan old
  unfolding ledger_after
  rows_are n d h since = since ∙ ap (written network plan old) (sym (rows-until network plan (length old) n d h))

  module _ {result : Result State Refusal} {signals : List Signal} {waiting ledger : List ℕ} (got : StepsGot tables.text.now plan_text old tables.reading.counts.steps result signals waiting ledger) where
    -- a step is refused
    pub run-refused : {q : Refusal} → result ≡ Err q → RunGot tables.text.now plan_text old (Err q) ledger
    run-refused {q} e =
        let s = rw e at got.outcome in
        let more : s.step < step_count network = omega (arith, s.within, a.loaded.tabled.counted.steps) in
        let d = due s.step (omega arith) s.passed in
        record {
          answered = rw (plan-stops network plan s.step q s.passed more s.refused) (unfold plan_answer in refl);
          rows = rows_are s.step d (λ e. refused-fails (line_checks network plan s.step) q s.refused (e.steps-hold s.step (omega arith))) s.rows;
          some-row = omega (arith, due-written network plan (length old) s.step d);
        }

    -- all have passed
    pub run-finished : {state : State} {answer : Result Totals Refusal} → result ≡ Ok state → answer ≡ finished plan_text state.place.plan_at tables.reading.counts.steps state.totals → RunGot tables.text.now plan_text old answer ledger
    run-finished {state} {answer} p f = go (eqb (length plan) (step_count network)) refl
      where
        all : AllTaken tables.text.now plan_text old (step_count network) state signals waiting ledger
        all = rw a.loaded.tabled.counted.steps at (rw p at got.outcome)

        at-end : (b : Bool) → eqb (length plan) (step_count network) ≡ b → at_end plan_text state.place.plan_at ≡ b
        at-end b e = plan-ends tables.text.now plan_text state.place.plan_at (step_count network) all.plan-starts (lines-within network plan (step_count network) all.passed) refl ∙ e

        made : (b : Bool) → eqb (length plan) (step_count network) ≡ b → answer ≡ cond b (Ok state.totals) (Err (refusal 9 (tables.reading.counts.steps + 1) 0))
        made b e = f ∙ (unfold finished in ap (λ x. cond x (Ok state.totals) (Err (refusal 9 (tables.reading.counts.steps + 1) 0))) (at-end b e))

        accepted-is : Ok state.totals ≡ plan_answer network plan (Ok tt)
        accepted-is = unfold plan_answer in ap Ok all.totals-at

        refused-is : (q : Refusal) → Err q ≡ plan_answer network plan (Err q)
        refused-is q = unfold plan_answer in refl

        last-due : RowDue network plan (length old) (step_count network)
        last-due = due (step_count network) (omega arith) all.passed

        got-by : answer ≡ plan_answer network plan (verdict (plan_line_checks network plan)) → RunGot tables.text.now plan_text old answer ledger
        got-by e =
            record {
              answered = e;
              rows = rows_are (step_count network) last-due (λ d. omega (arith, d.in-plan)) all.rows;
              some-row = omega (arith, due-written network plan (length old) (step_count network) last-due);
            }

        go : (b : Bool) → eqb (length plan) (step_count network) ≡ b → RunGot tables.text.now plan_text old answer ledger
        go true e = got-by (made true e ∙ accepted-is ∙ ap (plan_answer network plan) (sym (plan-passes network plan all.passed e)))
        go false e =
            let k : tables.reading.counts.steps + 1 ≡ suc (step_count network) = omega (arith, a.loaded.tabled.counted.steps) in
            got-by (made false e ∙ ap (λ x. Err (refusal 9 x 0)) k ∙ refused-is (refusal 9 (suc (step_count network)) 0)
            ∙ ap (plan_answer network plan) (sym (plan-surplus network plan all.passed e)))
