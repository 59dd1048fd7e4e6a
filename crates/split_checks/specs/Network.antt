-- What the tests of 40 and 41 require of a network that has passed, and what they find.
use Rattle.std.specs.Prelude.{ℕ, ◌/◌, ◌^◌, ◌≡◌, Bool, List, ltb}
use Rattle.base_search.specs.Checks.{Hold}
use Rattle.text_reader.specs.Lines.{Line}
use Rattle.text_reader.specs.Reading.{Starts}
use Rattle.base_laws.specs.Test.{◌and◌, every}
use Rattle.model.specs.Network.{link_count, movement_count, step_line, demand}
use Rattle.model.specs.Table.{network_checks}
use Rattle.network_tables.specs.declared.Link.{Link}
use Rattle.network_tables.specs.declared.Movement.{Movement}
use Rattle.network_tables.specs.Tables.{CountsHold, LinkTable, MovementTable}
use Rattle.model_split.specs.Halves.{first_half}
use Rattle.model_split.specs.Call.{in_set, can_split, parts_signals}
use Rattle.split_tables.specs.declared.Whole.{Whole}
use Rattle.split_tables.specs.declared.HalfTables.{HalfTables}
use Rattle.split_tables.specs.declared.Halves.{Halves}
use Rattle.split_tables.specs.Whole.{whole_network}
use Rattle.split_tables.specs.Tables.{HalfNumbered}
use Rattle.split_tables.specs.Halves.{HalvesBy}
use Rattle.split_checks.specs.Tables.{demand_free_in}

-- the `S` lines of a network that has passed start at a place
pub record StepsAsked (whole : Whole) : Type 0 where
  pub holds : Hold (network_checks (whole_network whole))
  pub counted : CountsHold (whole_network whole) whole.tables.reading.counts
  pub starts : Starts whole.tables.text.now whole.tables.reading.steps_at (step_line (whole_network whole) 0)
  pub movement-table : MovementTable (whole_network whole) whole.tables.movements.now

-- all border movements enter links without demand in step n
abbrev pub step_free : List Line → List Movement → List ℕ → ℕ → Bool
step_free network movements numbers n = every (movement_count network) (demand_free_in (demand network n) movements numbers)

-- a network that has passed, with its tables
pub record SplitAsked (whole : Whole) : Type 0 where
  pub steps-asked : StepsAsked whole
  pub link-table : LinkTable (whole_network whole) whole.tables.links.now

-- 40, of every set whose halves these are
abbrev pub SplitTold : List Line → Halves → Bool → Type 0
SplitTold network halves told =
    (set : ℕ) → halves.above ≡ set / 2 ^ link_count network → HalvesBy network set halves → told ≡ ltb set (2 ^ link_count network) and can_split network (in_set set)

-- 41, of every network that has passed and has these links
abbrev pub PartsTold : List Link → HalfTables → Bool → Type 0
PartsTold links half told =
    (network : List Line) → Hold (network_checks network) → LinkTable network links
    → (set : ℕ) → HalfNumbered network (first_half network (in_set set)) half → told ≡ parts_signals network (in_set set)
