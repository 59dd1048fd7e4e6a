-- What carrying on from a boundary requires and promises of a network that has passed.
use Rattle.std.specs.Prelude.{ℕ, suc, ◌*◌, ◌≤◌, ◌<◌, ◌≡◌, List, length, Result}
use Rattle.text_reader.specs.Lines.{lines}
use Rattle.model.specs.Network.{link_count, step_count}
use Rattle.network_tables.specs.declared.NetworkTables.{NetworkTables}
use Rattle.network.specs.declared.Start.{Start}
use Rattle.network.specs.Loading.{StartLoaded}
use Rattle.model_carry.specs.Call.{planned_on, carry_on, carry_ledger, carry_buffer}
use Rattle.base_search.specs.declared.Refusal.{Refusal}

-- a boundary of the plan, and room for the rows up to it
pub record StepsAsked (tables : NetworkTables) (b : ℕ) (start : Start) (ledger : List ℕ) : Type 0 where
  pub loaded : StartLoaded tables start
  pub first : 1 ≤ b
  pub last : b < step_count (lines tables.text.now)
  pub room : 2 * suc b * link_count (lines tables.text.now) ≤ length ledger

-- the answer, the ledger and the buffer are those of the definitions
pub record CarryGot (network_text plan_text : List ℕ) (b : ℕ) (ledger ledger_after buffer buffer_after : List ℕ) (answer : Result ℕ Refusal) : Type 0 where
  pub told : answer ≡ carry_on (lines network_text) (planned_on (lines network_text) b plan_text) b (length ledger) (length buffer)
  pub rows : ledger_after ≡ carry_ledger (lines network_text) (planned_on (lines network_text) b plan_text) b ledger
  pub holds : buffer_after ≡ carry_buffer (lines network_text) (planned_on (lines network_text) b plan_text) b (length ledger) buffer
