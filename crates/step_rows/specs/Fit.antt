-- What is known of the tables by which a step is judged.
use Rattle.std.specs.Prelude.{ℕ, ◌+◌, ◌*◌, ◌≤◌, ◌<◌, ◌≡◌, List, length}
use Rattle.model.specs.declared.Signal.{Signal}
use Rattle.model.specs.Network.{max_links, max_steps}
use Rattle.network_tables.specs.declared.Counts.{Counts}
use Rattle.network_tables.specs.declared.Link.{Link}
use Rattle.network_tables.specs.declared.Movement.{Movement}
use Rattle.network_tables.specs.Places.{Few}
use Rattle.network_tables.specs.Fields.{step_size, line_size, exit_rate_in, signal_in, rate_in, length_in}
use Rattle.step_arrivals.specs.Arrivals.{Rising}
use Rattle.step_past.specs.declared.Arrival.{Arrival}
use Rattle.step_past.specs.Curves.{arrival_at}
use Rattle.step_signals.specs.Rules.{SignalTables}
use Rattle.step_rows.specs.Rows.{Named}

-- the counts are few, the tables have their sizes, movements name links, and the step begins before
-- the last boundary; what the limits and the sums ask beside this is in records of its own,
-- `Limited` and `ArrivalTables` of Step
pub record StepTables (counts : Counts) (links : List Link) (movements : List Movement)
    (signals : List Signal) (plan_line step_line phases asked : List ℕ) (boundary : ℕ) : Type 0 where
  pub few : Few counts
  pub links-size : length links ≡ counts.links
  pub named : Named counts movements
  pub signal-tables : SignalTables signals counts.signals phases asked (length_in step_line)
  pub line-size : length plan_line ≡ line_size
  pub step-size : length step_line ≡ step_size
  pub last : boundary < max_steps

-- `StepTables`, `Limited` and `ArrivalTables` in one: also links name signals, and rates are
-- limited; the ledger has the rows up to the boundary at which the step begins; and each travel time
-- before the next boundary ends in a step before that
pub record StepFit (counts : Counts) (links : List Link) (movements : List Movement) (times : List ℕ) (signals : List Signal)
    (plan_line step_line phases asked ledger : List ℕ) (arrivals : List Arrival) (boundary : ℕ) : Type 0 where
  pub few : Few counts
  pub links-size : length links ≡ counts.links
  pub named : Named counts movements
  pub signal-tables : SignalTables signals counts.signals phases asked (length_in step_line)
  pub line-size : length plan_line ≡ line_size
  pub step-size : length step_line ≡ step_size
  pub signal-last : (i : ℕ) → i < counts.links → signal_in links i ≤ counts.signals
  pub exit-limit : (i : ℕ) → i < counts.links → exit_rate_in links i ≤ 10_000
  pub rate-limit : (j : ℕ) → j < counts.movements → rate_in movements j ≤ 10_000
  pub last : boundary < max_steps
  pub rows : 2 * (boundary + 1) * counts.links ≤ length ledger
  pub rising : Rising times (counts.past + (boundary + 1))
  pub arrivals-size : length arrivals ≡ max_links
  pub before : (i : ℕ) → i < counts.links → (arrival_at arrivals i).step < counts.past + (boundary + 1)
