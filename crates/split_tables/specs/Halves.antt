-- Both halves numbered by the set of links in the first.
use Rattle.std.specs.Prelude.{ℕ, suc, ◌≤◌, ◌<◌, ◌≡◌, Bool, not, List, eqb, length}
use Rattle.text_reader.specs.Lines.{Line}
use Rattle.base_laws.specs.Test.{◌or◌, every}
use Rattle.network_tables.specs.declared.Link.{Link}
use Rattle.network_tables.specs.declared.NetworkTables.{NetworkTables}
use Rattle.network_tables.specs.Fields.{signal_in, link_in}
use Rattle.network_tables.specs.Tables.{CountsHold, LinkTable, MovementTable}
use Rattle.model_split.specs.Halves.{Half, first_half, second_half}
use Rattle.model_split.specs.Call.{in_set}
use Rattle.split_tables.specs.declared.HalfTables.{HalfTables}
use Rattle.split_tables.specs.declared.Halves.{Halves}
use Rattle.split_tables.specs.Items.{Gives}
use Rattle.split_tables.specs.Tables.{HalfNumbered}

-- one of the links that are not in a set has signal r
unfoldable pub outside_has : ℕ → List Link → ℕ → Bool
outside_has set links r = not (every (length links) (λ i. in_set set i or not (eqb (signal_in links i) (suc r))))

-- a network's tables have its movements, which name its links
pub record HalvesAsked (tables : NetworkTables) : Type 0 where
  pub movement-size : length tables.movements.now ≡ tables.reading.counts.movements
  pub ends : (j side : ℕ) → j < tables.reading.counts.movements → side < 2
      → (1 ≤ link_in tables.movements.now side j) × (link_in tables.movements.now side j ≤ tables.reading.counts.links)

-- the half of every network that has these tables, with the links and signals that the closures say
abbrev pub HalfTold : NetworkTables → (ℕ → Bool → Type 0) → (ℕ → Bool → Type 0) → HalfTables → Type 0
HalfTold tables links_post signals_post half =
    (network : List Line) → CountsHold network tables.reading.counts → MovementTable network tables.movements.now → (h : Half)
    → Gives links_post tables.reading.counts.links h.has-link → Gives signals_post tables.reading.counts.signals h.has-signal → HalfNumbered network h half

-- the halves of a network by the set of links in the first
pub record HalvesBy (network : List Line) (set : ℕ) (halves : Halves) : Type 0 where
  pub first : HalfNumbered network (first_half network (in_set set)) halves.first
  pub second : HalfNumbered network (second_half network (in_set set)) halves.second

-- the halves of every network that has these tables
abbrev pub HalvesNumbered : ℕ → NetworkTables → Halves → Type 0
HalvesNumbered set tables halves =
    (network : List Line) → CountsHold network tables.reading.counts → LinkTable network tables.links.now → MovementTable network tables.movements.now
    → HalvesBy network set halves
