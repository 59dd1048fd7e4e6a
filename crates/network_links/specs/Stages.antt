-- What the stages of a network's reading that judge links and movements require, and what is held where they pass.
use Rattle.std.specs.Prelude.{ℕ, ◌<◌, ◌≡◌, List, length, take}
use Rattle.text_reader.specs.Lines.{lines}
use Rattle.model.specs.declared.Signal.{Signal}
use Rattle.model.specs.Network.{max_signals, max_links, max_movements, signal_count, link_line, movement_line, timeline_line, signal}
use Rattle.network_tables.specs.declared.Counts.{Counts}
use Rattle.network_tables.specs.declared.Reading.{Reading}
use Rattle.network_tables.specs.declared.Link.{Link}
use Rattle.network_tables.specs.declared.Movement.{Movement}
use Rattle.network_tables.specs.Places.{Few}
use Rattle.network_tables.specs.Fields.{signal_at}
use Rattle.network_tables.specs.Tables.{Reached, FewPhases, LinkTable, MovementTable}

-- of the signals the numbers of phases alone are read
pub record LinksAsked (text : List ℕ) (reading : Reading) (signals : List Signal) (links : List Link) : Type 0 where
  pub reached : Reached text (link_line (lines text) 0) reading
  pub signal-size : length signals ≡ max_signals
  pub phases-told : (r : ℕ) → r < signal_count (lines text) → (signal_at signals r).phases ≡ (signal (lines text) r).phases
  pub few-phases : FewPhases (lines text) signals
  pub room : length links ≡ max_links

pub record LinksHeld (text : List ℕ) (links : List Link) (reading : Reading) : Type 0 where
  pub reached : Reached text (movement_line (lines text) 0) reading
  pub room : length links ≡ max_links
  pub table : LinkTable (lines text) (take reading.counts.links links)

pub record MovementsAsked (text : List ℕ) (reading : Reading) (movements : List Movement) : Type 0 where
  pub reached : Reached text (movement_line (lines text) 0) reading
  pub room : length movements ≡ max_movements

pub record MovementsHeld (text : List ℕ) (movements : List Movement) (reading : Reading) : Type 0 where
  pub reached : Reached text (timeline_line (lines text) 0) reading
  pub room : length movements ≡ max_movements
  pub table : MovementTable (lines text) (take reading.counts.movements movements)

-- the shares are judged by the movements alone
pub record SharesAsked (movements : List Movement) (counts : Counts) : Type 0 where
  pub size : length movements ≡ counts.movements
  pub few : Few counts
