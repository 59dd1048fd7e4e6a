-- What the reading of a whole network asks and holds.
use Rattle.std.specs.Prelude.{ℕ, suc, ◌≤◌, ◌<◌, ◌≡◌, List, Result, Ok, Err, eqb, length}
use Rattle.base_search.specs.declared.Refusal.{Refusal}
use Rattle.base_search.specs.Checks.{Checks, check, each, ◌then◌, Hold, verdict}
use Rattle.text_reader.specs.Lines.{Line, lines}
use Rattle.text_reader.specs.Reading.{Starts}
use Rattle.model.specs.declared.Signal.{Signal}
use Rattle.model.specs.Network.{max_signals, max_links, max_movements, link_count, step_count, tram_count, tram_line, timeline_line, step_line, capacity, standing, travel_time}
use Rattle.model.specs.Table.{tram_phase_checks, network_checks}
use Rattle.network_tables.specs.declared.Reading.{Reading}
use Rattle.network_tables.specs.Blocks.{block_checks, tram_block, signal_block, past_block, step_block}
use Rattle.network_tables.specs.declared.Link.{Link}
use Rattle.network_tables.specs.declared.Movement.{Movement}
use Rattle.network_tables.specs.declared.NetworkTables.{NetworkTables}
use Rattle.network_tables.specs.Fields.{time_table_size, row_size}
use Rattle.network_tables.specs.Tables.{Reached, CountsHold, SignalTable, FewPhases, LinkTable, MovementTable, TimeTable}
use Rattle.step_past.specs.declared.Arrival.{Arrival}
use Rattle.network_past.specs.Past.{past_end_checks, PastHeld}
use Rattle.network.specs.declared.Start.{Start}

-- the `T` and the `G` lines, and the phases of the `T` lines
abbrev pub first_checks : List Line → Checks
first_checks network = block_checks (tram_block network) then block_checks (signal_block network) then each (tram_count network) (tram_phase_checks network)

-- the text after the `N` line
pub record FirstAsked (text : List ℕ) (reading : Reading) (signals : List Signal) : Type 0 where
  pub counted : CountsHold (lines text) reading.counts
  pub starts : Starts text reading.next (tram_line (lines text) 0)
  pub trams-start : Starts text reading.trams_at (tram_line (lines text) 0)
  pub room : length signals ≡ max_signals

-- 1 where a line is surplus
unfoldable pub end_checks : List Line → Checks
end_checks network = check 1 (suc (step_line network (step_count network))) 0 (eqb (length network) (step_line network (step_count network)))

-- the text after the `S` lines
pub record EndAsked (text : List ℕ) (reading : Reading) : Type 0 where
  pub reached : Reached text (step_line (lines text) (step_count (lines text))) reading
  pub within : step_line (lines text) (step_count (lines text)) ≤ length (lines text)

-- the `H` and the `S` lines, the end, and the past
abbrev pub timeline_checks : List Line → Checks
timeline_checks network = block_checks (past_block network) then block_checks (step_block network) then end_checks network then past_end_checks network

-- the text after the `M` lines, whose links have passed
pub record TimelineAsked (text : List ℕ) (reading : Reading) (links : List Link) (times row : List ℕ) (arrivals : List Arrival) : Type 0 where
  pub reached : Reached text (timeline_line (lines text) 0) reading
  pub link-table : LinkTable (lines text) links
  pub limits : (i : ℕ) → i < link_count (lines text) → (capacity (lines text) i ≤ 2_000_000_000) × ((standing (lines text) i ≤ capacity (lines text) i) × (1 ≤ travel_time (lines text) i))
  pub room : length times ≡ time_table_size
  pub row-room : length row ≡ row_size
  pub arrival-room : length arrivals ≡ max_links

-- What reading into tables promises: what they hold where the checks pass, and else the first that is broken.
pub record TablesJudged (checks : Checks) (Held : NetworkTables → Type 0) (result : Result NetworkTables Refusal) : Type 0 where
  pub passed : (tables : NetworkTables) → result ≡ Ok tables → verdict checks ≡ Ok tt
  pub held : (tables : NetworkTables) → result ≡ Ok tables → Held tables
  pub refused : (r : Refusal) → result ≡ Err r → verdict checks ≡ Err r

-- the whole text has passed, and stands in the tables with its links and its movements, and what its past gives is kept
pub record TimelineHeld (text : List ℕ) (links : List Link) (movements : List Movement) (row : List ℕ) (arrivals : List Arrival) (tables : NetworkTables) : Type 0 where
  pub same-text : tables.text.now ≡ text
  pub same-links : tables.links.now ≡ links
  pub same-movements : tables.movements.now ≡ movements
  pub counted : CountsHold (lines text) tables.reading.counts
  pub trams-start : Starts text tables.reading.trams_at (tram_line (lines text) 0)
  pub past-start : Starts text tables.reading.past_at (timeline_line (lines text) 0)
  pub steps-start : Starts text tables.reading.steps_at (step_line (lines text) 0)
  pub time-table : TimeTable (lines text) tables.times.now
  pub past-held : PastHeld text row arrivals

-- the room of the tables of the largest network
pub record Rooms (signals : List Signal) (links : List Link) (movements : List Movement) (times row : List ℕ) (arrivals : List Arrival) : Type 0 where
  pub signal-room : length signals ≡ max_signals
  pub link-room : length links ≡ max_links
  pub movement-room : length movements ≡ max_movements
  pub time-room : length times ≡ time_table_size
  pub row-room : length row ≡ row_size
  pub arrival-room : length arrivals ≡ max_links

-- a network that has passed: its counts, the places where its `T`, its `H` and its `S` lines start, and its tables, with the signals before the plan
pub record Loaded (text : List ℕ) (signals : List Signal) (links : List Link) (movements : List Movement) (times : List ℕ) (reading : Reading) : Type 0 where
  pub counted : CountsHold (lines text) reading.counts
  pub trams-start : Starts text reading.trams_at (tram_line (lines text) 0)
  pub past-start : Starts text reading.past_at (timeline_line (lines text) 0)
  pub steps-start : Starts text reading.steps_at (step_line (lines text) 0)
  pub signal-table : SignalTable (lines text) signals
  pub few-phases : FewPhases (lines text) signals
  pub link-table : LinkTable (lines text) links
  pub movement-table : MovementTable (lines text) movements
  pub time-table : TimeTable (lines text) times
  pub holds : Hold (network_checks (lines text))

-- tables of a network that has passed, with the signals before the plan
abbrev pub TablesLoaded : NetworkTables → List Signal → Type 0
TablesLoaded tables signals = Loaded tables.text.now signals tables.links.now tables.movements.now tables.times.now tables.reading

-- tables of a network that has passed, with how it stands at the start: the signals before the plan, row 0, and what each link waits for
pub record StartLoaded (tables : NetworkTables) (start : Start) : Type 0 where
  pub tabled : TablesLoaded tables start.signals
  pub past-held : PastHeld tables.text.now start.row start.arrivals

abbrev pub start_of : List Signal → List ℕ → List Arrival → Start
start_of signals row arrivals = record { signals = signals; row = row; arrivals = arrivals }

-- the tables are those of this text, with its signals ..
pub record LoadedFrom (text : List ℕ) (signals : List Signal) (tables : NetworkTables) : Type 0 where
  pub same-text : tables.text.now ≡ text
  pub loaded : TablesLoaded tables signals

-- .. or with how it stands at the start
pub record StartedFrom (text : List ℕ) (start : Start) (tables : NetworkTables) : Type 0 where
  pub same-text : tables.text.now ≡ text
  pub loaded : StartLoaded tables start
