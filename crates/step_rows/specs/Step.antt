-- The tables of a step: what its limits and its sums ask of them, and what they hold by the texts.
use Rattle.std.specs.Prelude.{ℕ, suc, ◌+◌, ◌*◌, ◌≤◌, ◌<◌, ◌≡◌, List, length}
use Rattle.text_reader.specs.Lines.{Line, lines}
use Rattle.model.specs.Network.{max_links}
use Rattle.model.specs.Calls.{written}
use Rattle.network_tables.specs.Fields.{exit_rate_in, signal_in, rate_in}
use Rattle.network_tables.specs.Tables.{CountsHold, LinkTable, MovementTable, TimeTable, PlanNumbers}
use Rattle.step_arrivals.specs.Arrivals.{Rising}
use Rattle.step_past.specs.Curves.{ArrivalTable, CurvesAt, arrival_at}
use Rattle.step_signals.specs.Step.{ShownTable, AskedTable, SignalsAt}
use Rattle.step_rows.specs.declared.Step.{Step}
use Rattle.step_rows.specs.Waiting.{StepOffers}

-- what the limits ask: links name signals, and rates are limited
pub record Limited (step : Step) : Type 0 where
  pub signal-last : (i : ℕ) → i < step.counts.links → signal_in step.links.now i ≤ step.counts.signals
  pub exit-limit : (i : ℕ) → i < step.counts.links → exit_rate_in step.links.now i ≤ 10_000
  pub rate-limit : (j : ℕ) → j < step.counts.movements → rate_in step.movements.now j ≤ 10_000

-- what the sums ask, which find what has arrived: the ledger has the rows up to the boundary at
-- which the step begins, and each travel time before the next boundary ends in a step before that
pub record ArrivalTables (step : Step) : Type 0 where
  pub rows : 2 * (step.boundary + 1) * step.counts.links ≤ length step.ledger.now
  pub rising : Rising step.times.now (step.counts.past + (step.boundary + 1))
  pub arrivals-size : length step.arrivals.now ≡ max_links
  pub before : (i : ℕ) → i < step.counts.links
      → (arrival_at step.arrivals.now i).step < step.counts.past + (step.boundary + 1)

-- they hold what the texts of a network and a plan say of step n
pub record StepHolds (text : List ℕ) (plan : List Line) (n : ℕ) (step : Step) : Type 0 where
  pub counted : CountsHold (lines text) step.counts
  pub link-table : LinkTable (lines text) step.links.now
  pub movement-table : MovementTable (lines text) step.movements.now
  pub time-table : TimeTable (lines text) step.times.now
  pub signals-at : SignalsAt (lines text) plan n step.signals.now
  pub numbers : PlanNumbers (lines text) plan n step.plan_line.now
  pub offers : StepOffers (lines text) plan n step.step_line.now
  pub shown : ShownTable (lines text) plan n step.phases.now
  pub claims : AskedTable (lines text) n step.asked.now
  pub rows : step.ledger.now ≡ written (lines text) plan step.ledger.now (suc n)
  pub arrivals-at : ArrivalTable (lines text) (suc n) step.arrivals.now
  pub curves-at : CurvesAt text step.arrivals.now
  pub begins : step.boundary ≡ n
