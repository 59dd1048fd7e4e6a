-- What the program's tables hold of a network text while it is judged. These definitions are not the paper's: the
-- contracts between the crates use them.
use Rattle.std.specs.Prelude.{ℕ, ◌+◌, ◌*◌, ◌≤◌, ◌<◌, ◌≡◌, List, leb, length, get_or, Result, Ok, Err}
use Rattle.base_search.specs.Checks.{Checks, verdict, Verdict}
use Rattle.text_reader.specs.Lines.{Line, lines}
use Rattle.text_reader.specs.Reading.{Starts}
use Rattle.model.specs.declared.Signal.{Signal}
use Rattle.base_laws.specs.Test.{every}
use Rattle.model.specs.Network.{max_signals, entry, link_count, signal_count, movement_count, step_count, tram_count, past_count, on_timeline, tram_line, link_line, movement_line, timeline_line, step_line, signal, timeline_time}
use Rattle.network_tables.specs.declared.Counts.{Counts}
use Rattle.network_tables.specs.declared.Reading.{Reading}
use Rattle.network_tables.specs.Places.{Few}
use Rattle.network_tables.specs.declared.Tram.{Tram}
use Rattle.network_tables.specs.declared.Link.{Link}
use Rattle.network_tables.specs.declared.Movement.{Movement}
use Rattle.network_tables.specs.Fields.{tram_by, link_by, movement_by, tram_at, signal_at, link_at, movement_at, time_table_size, past_size, step_size, line_size}
use Rattle.base_search.specs.declared.Refusal.{Refusal}

-- the verdict on a stage: some lines pass, or one of them is refused
unfoldable pub stage_verdict : Result Reading Refusal → Verdict
stage_verdict (Ok reading) = Ok tt
stage_verdict (Err r) = Err r

-- What a stage of a network's reading promises: the verdict on its checks, and where they pass, what is held.
pub record Judged (checks : Checks) (Held : Reading → Type 0) (result : Result Reading Refusal) : Type 0 where
  pub told : stage_verdict result ≡ verdict checks
  pub held : (reading : Reading) → result ≡ Ok reading → Held reading

-- the counts of a network whose `N` line has passed
pub record CountsHold (network : List Line) (counts : Counts) : Type 0 where
  pub links : counts.links ≡ link_count network
  pub signals : counts.signals ≡ signal_count network
  pub movements : counts.movements ≡ movement_count network
  pub steps : counts.steps ≡ step_count network
  pub trams : counts.trams ≡ tram_count network
  pub past : counts.past ≡ past_count network
  pub few : Few counts
  pub some-links : 1 ≤ counts.links
  pub some-steps : 1 ≤ counts.steps

-- the same reading, with the next line at a place
abbrev pub moved_to : Reading → ℕ → Reading
moved_to reading next =
    record {
      counts = reading.counts;
      next = next;
      trams_at = reading.trams_at;
      past_at = reading.past_at;
      steps_at = reading.steps_at;
      shortest = reading.shortest;
      timed = reading.timed;
    }

-- the signals before the plan
pub record SignalTable (network : List Line) (signals : List Signal) : Type 0 where
  pub size : length signals ≡ max_signals
  pub holds : (r : ℕ) → r < signal_count network → signal_at signals r ≡ signal network r

-- the counts of a network are few, and its table of links has one for each: what reads movements or
-- times says itself how many there are
pub record LinksSized (reading : Reading) (links : List Link) : Type 0 where
  pub few : Few reading.counts
  pub link-size : length links ≡ reading.counts.links

-- the tables of a network have a link and a movement for each that it has, and its counts are few
pub record TablesSized (reading : Reading) (links : List Link) (movements : List Movement) (times : List ℕ) : Type 0 where
  pub few : Few reading.counts
  pub link-size : length links ≡ reading.counts.links
  pub movement-size : length movements ≡ reading.counts.movements
  pub time-size : length times ≡ time_table_size

-- no signal has more than 8 phases
pub record FewPhases (network : List Line) (signals : List Signal) : Type 0 where
  pub few : (r : ℕ) → r < signal_count network → (signal_at signals r).phases ≤ 8

-- the shortest of all greatest times: a step of x seconds is at most every phase's greatest time exactly if it is at most this
pub record Shortest (network : List Line) (shortest : ℕ) : Type 0 where
  pub least : (x : ℕ) → x ≤ 60
      → leb x shortest ≡ every (signal_count network) (λ r. every (signal network r).phases (λ k. leb x (get_or (signal network r).greatest k 0)))

-- a network text whose `G` lines have passed is read up to a line
pub record Reached (text : List ℕ) (line : ℕ) (reading : Reading) : Type 0 where
  pub counted : CountsHold (lines text) reading.counts
  pub starts : Starts text reading.next line
  pub trams-start : Starts text reading.trams_at (tram_line (lines text) 0)
  pub shortest-time : Shortest (lines text) reading.shortest

-- the trams, the links and the movements, one for each line
pub record TramTable (network : List Line) (trams : List Tram) : Type 0 where
  pub size : length trams ≡ tram_count network
  pub holds : (k : ℕ) → k < tram_count network → tram_at trams k ≡ tram_by (entry network (tram_line network k))

pub record LinkTable (network : List Line) (links : List Link) : Type 0 where
  pub size : length links ≡ link_count network
  pub holds : (i : ℕ) → i < link_count network → link_at links i ≡ link_by (entry network (link_line network i))

pub record MovementTable (network : List Line) (movements : List Movement) : Type 0 where
  pub size : length movements ≡ movement_count network
  pub holds : (j : ℕ) → j < movement_count network → movement_at movements j ≡ movement_by (entry network (movement_line network j))

-- the time of each boundary of the timeline
pub record TimeTable (network : List Line) (times : List ℕ) : Type 0 where
  pub size : length times ≡ time_table_size
  pub holds : (m : ℕ) → m ≤ on_timeline network (step_count network) → get_or times m 0 ≡ timeline_time network m

-- the numbers of the `H` line of step m of the timeline
pub record PastNumbers (network : List Line) (m : ℕ) (past : List ℕ) : Type 0 where
  pub size : length past ≡ past_size
  pub holds : (k : ℕ) → k < 1 + 2 * link_count network → get_or past k 0 ≡ entry network (timeline_line network m) k

-- the numbers of the `S` line of step n
pub record StepNumbers (network : List Line) (n : ℕ) (step : List ℕ) : Type 0 where
  pub size : length step ≡ step_size
  pub holds : (k : ℕ) → k < 1 + link_count network → get_or step k 0 ≡ entry network (step_line network n) k

-- the numbers of the `P` line of step n
pub record PlanNumbers (network plan : List Line) (n : ℕ) (line : List ℕ) : Type 0 where
  pub size : length line ≡ line_size
  pub holds : (k : ℕ) → k < signal_count network + (2 * link_count network + movement_count network) → get_or line k 0 ≡ entry plan n k
