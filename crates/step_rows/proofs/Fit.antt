-- The tables of a step fit each other, where they hold what the texts say.
use Rattle.base_laws.proofs.Kit.{ℕ, suc, ◌+◌, ◌*◌, ◌≤◌, ◌<◌, ◌≡◌, sym, ◌∙◌, List, le_trans, leb-true, arith, length, get_or}
use Rattle.base_search.specs.Checks.{Hold}
use Rattle.text_reader.specs.Lines.{Line, lines}
use Rattle.base_laws.specs.Test.{within}
use Rattle.base_laws.proofs.Tests.{and_right}
use Rattle.model.specs.declared.Signal.{Signal}
use Rattle.model.specs.Network.{link_count, signal_count, movement_count, step_count, on_timeline, signal}
use Rattle.model.specs.Flows.{shown_in, shown_mask}
use Rattle.model.specs.Rules.{valid_phases}
use Rattle.model.specs.Table.{network_checks}
use Rattle.model.proofs.Phases.{phase-of-le}
use Rattle.model.proofs.Accepted.{ValidNetwork, valid-network}
use Rattle.model.proofs.Limits.{link-limits, movement-limits, step-limits}
use Rattle.model.proofs.Times.{arrival-step-lt, on-timeline-mono}
use Rattle.network_tables.specs.declared.Counts.{Counts}
use Rattle.network_tables.specs.declared.Link.{Link}
use Rattle.network_tables.specs.declared.Movement.{Movement}
use Rattle.network_tables.specs.Fields.{exit_rate_in, signal_in, rate_in}
use Rattle.network_tables.specs.Tables.{CountsHold, LinkTable, MovementTable, TimeTable, PlanNumbers}
use Rattle.network_tables.proofs.Tables.{exit-rate-at, signal-of-at, rate-at}
use Rattle.step_arrivals.proofs.Boundaries.{times-rise}
use Rattle.step_past.specs.declared.Arrival.{Arrival}
use Rattle.step_past.specs.Curves.{ArrivalTable}
use Rattle.step_signals.specs.Step.{ShownTable, AskedTable, SignalsAt}
use Rattle.step_rows.specs.declared.Step.{Step}
use Rattle.step_rows.specs.Fit.{StepTables, StepFit}
use Rattle.step_rows.specs.Step.{Limited, ArrivalTables, StepHolds}
use Rattle.step_rows.specs.Waiting.{StepOffers}
use Rattle.step_rows.proofs.Texts.{movements-named}

-- what the limits of a step ask of a network's tables
module _ {network : List Line} {counts : Counts} {links : List Link} {movements : List Movement}
    (valid : ValidNetwork network) (counted : CountsHold network counts)
    (link-table : LinkTable network links) (movement-table : MovementTable network movements) where
  signals-last : (i : ℕ) → i < counts.links → signal_in links i ≤ counts.signals
  signals-last i h =
      let l : i < link_count network = omega (arith, counted.links) in
      omega (arith, signal-of-at link-table i l, link-limits network valid i l, counted.signals)

  exits-limited : (i : ℕ) → i < counts.links → exit_rate_in links i ≤ 10_000
  exits-limited i h =
      let l : i < link_count network = omega (arith, counted.links) in
      omega (arith, exit-rate-at link-table i l, link-limits network valid i l)

  rates-limited : (j : ℕ) → j < counts.movements → rate_in movements j ≤ 10_000
  rates-limited j h =
      let l : j < movement_count network = omega (arith, counted.movements) in
      omega (arith, rate-at movement-table j l, movement-limits network valid j l)

module _ {network : List Line} {plan : List Line} {n : ℕ} {counts : Counts} {links : List Link} {movements : List Movement} {signals : List Signal}
    {line step phases asked : List ℕ} (holds : Hold (network_checks network)) (counted : CountsHold network counts)
    (link-table : LinkTable network links) (movement-table : MovementTable network movements)
    (signals-at : SignalsAt network plan n signals) (numbers : PlanNumbers network plan n line) (offers : StepOffers network plan n step)
    (shown : ShownTable network plan n phases) (claims : AskedTable network n asked)
    (more : n < step_count network) where
  valid : ValidNetwork network
  valid = valid-network network holds

  phase-small : (r : ℕ) → r < signal_count network → get_or phases r 0 ≤ 8
  phase-small r h =
      let p : (signal network r).phases ≤ 8 = unfold valid_phases within in leb-true _ _ (and_right _ _ (valid.phases r h)) in
      rw (shown.holds r h) (unfold shown_in in le_trans (phase-of-le (shown_mask network plan n r) (signal network r).phases) p)

  -- what a step says of its tables
  pub step-tables : StepTables counts links movements signals line step phases asked n
  step-tables =
      record {
        few = counted.few;
        links-size = link-table.size ∙ sym counted.links;
        named = movements-named counted movement-table valid;
        signal-tables = record {
          few = counted.few.signals;
          size = signals-at.size;
          ready = λ r h. signals-at.ready r (omega (arith, counted.signals));
          short = omega (arith, offers.lasts, (step-limits network valid n more).length-limit);
          phases-size = shown.size;
          asked-size = claims.size;
          phase-last = λ r h. phase-small r (omega (arith, counted.signals));
        };
        line-size = numbers.size;
        step-size = offers.size;
        last = omega (arith, counted.steps, counted.few.steps);
      }

module _ {network : List Line} {plan : List Line} {n : ℕ} {counts : Counts} {links : List Link} {movements : List Movement} {times : List ℕ} {signals : List Signal}
    {line step phases asked : List ℕ} {arrivals : List Arrival} (holds : Hold (network_checks network)) (counted : CountsHold network counts)
    (link-table : LinkTable network links) (movement-table : MovementTable network movements) (time-table : TimeTable network times)
    (signals-at : SignalsAt network plan n signals) (numbers : PlanNumbers network plan n line) (offers : StepOffers network plan n step)
    (shown : ShownTable network plan n phases) (claims : AskedTable network n asked) (arrivals-at : ArrivalTable network (suc n) arrivals)
    (more : n < step_count network) where
  -- the boundary after the step, on the timeline
  timeline-end : counts.past + (n + 1) ≡ on_timeline network (suc n)
  unfolding on_timeline
  timeline-end = omega (arith, counted.past)

  -- and all that is asked of them
  pub step-fit : {ledger : List ℕ} → 2 * suc n * link_count network ≤ length ledger → StepFit counts links movements times signals line step phases asked ledger arrivals n
  step-fit room =
      let valid = valid-network network holds in
      let tables = step-tables holds counted link-table movement-table signals-at numbers offers shown claims more in
      record {
        few = tables.few;
        links-size = tables.links-size;
        named = tables.named;
        signal-tables = tables.signal-tables;
        line-size = tables.line-size;
        step-size = tables.step-size;
        signal-last = signals-last valid counted link-table movement-table;
        exit-limit = exits-limited valid counted link-table movement-table;
        rate-limit = rates-limited valid counted link-table movement-table;
        last = tables.last;
        rows = let e : 2 * (n + 1) * counts.links ≡ 2 * suc n * link_count network = rw counted.links (omega arith) in omega (arith, room);
        rising = rw timeline-end (times-rise holds time-table (on_timeline network (suc n)) (on-timeline-mono network (suc n) (step_count network) more));
        arrivals-size = arrivals-at.size;
        before = λ i l. let l' : i < link_count network = omega (arith, counted.links) in omega (arith, arrivals-at.holds i l', arrival-step-lt network (suc n) i (omega (arith, timeline-end)), timeline-end);
      }

module _ {text : List ℕ} {plan : List Line} {n : ℕ} {step : Step}
    (holds : Hold (network_checks (lines text))) (at : StepHolds text plan n step) where
  abbrev net : List Line
  net = lines text

  pub limited : Limited step
  limited = record {
    signal-last = signals-last (valid-network net holds) at.counted at.link-table at.movement-table;
    exit-limit = exits-limited (valid-network net holds) at.counted at.link-table at.movement-table;
    rate-limit = rates-limited (valid-network net holds) at.counted at.link-table at.movement-table;
  }

  pub arrival-tables : 2 * suc n * link_count net ≤ length step.ledger.now → n < step_count net
      → ArrivalTables step
  arrival-tables room more =
      let fit = step-fit holds at.counted at.link-table at.movement-table at.time-table at.signals-at
      at.numbers at.offers at.shown at.claims at.arrivals-at more room in
      record {
        rows = rw at.begins fit.rows;
        rising = rw at.begins fit.rising;
        arrivals-size = fit.arrivals-size;
        before = rw at.begins fit.before;
      }
