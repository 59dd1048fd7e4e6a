-- The `T` lines of a network that has passed can be read again.
use Rattle.base_laws.proofs.Kit.{ℕ, ◌<◌, ◌≡◌, true, List, length}
use Rattle.base_search.specs.Checks.{Hold}
use Rattle.text_reader.specs.Lines.{Line, lines}
use Rattle.text_reader.specs.Reading.{Starts}
use Rattle.model.specs.Network.{max_trams, tram_count, tram_line}
use Rattle.model.specs.Table.{is_form, letter_t, tram_checks, network_checks}
use Rattle.model.proofs.Accepted.{valid-network}
use Rattle.network_tables.specs.declared.NetworkTables.{NetworkTables}
use Rattle.network_tables.specs.declared.Tram.{Tram}
use Rattle.network_tables.specs.Fields.{tram_fields}
use Rattle.network_tables.specs.Tables.{CountsHold}
use Rattle.network_trams.specs.Claims.{LoadAsked}

-- they have their form
pub tram-form : (network : List Line) → Hold (network_checks network) → (k : ℕ) → k < tram_count network → is_form network (tram_line network k) letter_t tram_fields ≡ true
unfolding Hold network_checks tram_checks
tram-form network (counts, (trams, rest)) k l = (trams k l).0

pub trams-ready : {tables : NetworkTables} → Starts tables.text.now tables.reading.trams_at (tram_line (lines tables.text.now) 0) → CountsHold (lines tables.text.now) tables.reading.counts
    → Hold (network_checks (lines tables.text.now)) → {room : List Tram} → length room ≡ max_trams → LoadAsked tables room
trams-ready {tables} starts counted holds size =
    record {
      starts = starts;
      counted = counted.trams;
      forms = tram-form (lines tables.text.now) holds;
      values = (valid-network (lines tables.text.now) holds).trams;
      size = size;
    }
