-- What 40 and 41 require of links and movements, by the tables of a network and the numbers of the links in its first half.
use Rattle.std.specs.Prelude.{ℕ, ◌-◌, ◌≤◌, ◌<◌, Bool, not, List, eqb, length, get_or}
use Rattle.base_laws.specs.Test.{◌and◌, ◌or◌, every}
use Rattle.model.specs.Network.{max_links, max_signals}
use Rattle.network_tables.specs.declared.Link.{Link}
use Rattle.network_tables.specs.declared.Movement.{Movement}
use Rattle.network_tables.specs.Fields.{waiting_at_start_in, exit_rate_in, signal_in, movement_at, link_in}
use Rattle.split_tables.specs.declared.HalfTables.{HalfTables}
use Rattle.split_tables.specs.Tables.{is_in, is_border}

-- nobody waits at link i
abbrev pub none_wait_in : List Link → ℕ → Bool
none_wait_in links i = eqb (waiting_at_start_in links i) 0

-- movement j is a border movement
abbrev pub crosses_in : List Movement → List ℕ → ℕ → Bool
crosses_in movements numbers j = is_border (movement_at movements j) numbers

-- movement k is j itself, or neither leaves the link that j leaves nor is a border movement into the link that j enters
unfoldable pub stands_apart_in : List Movement → List ℕ → ℕ → ℕ → Bool
stands_apart_in movements numbers j k =
    eqb k j
    or not (eqb (link_in movements 0 k) (link_in movements 0 j)) and not (crosses_in movements numbers k and eqb (link_in movements 1 k) (link_in movements 1 j))

-- movement j is no border movement, or leaves a link without a signal and with exit rate 0, and all others stand apart from it
unfoldable pub right_kind_in : List Link → List Movement → List ℕ → ℕ → ℕ → Bool
right_kind_in links movements numbers count j =
    not (crosses_in movements numbers j)
    or eqb (signal_in links (link_in movements 0 j - 1)) 0 and eqb (exit_rate_in links (link_in movements 0 j - 1)) 0
    and every count (stands_apart_in movements numbers j)

-- movement j is no border movement, or enters a link without demand, of the demands of a step
unfoldable pub demand_free_in : (ℕ → ℕ) → List Movement → List ℕ → ℕ → Bool
demand_free_in demands movements numbers j = not (crosses_in movements numbers j) or eqb (demands (link_in movements 1 j - 1)) 0

-- a link with this number in the first half, 0 if absent, and this signal, 0 for none: it is absent, or has no signal or one of that half
unfoldable pub own_signal_by : HalfTables → ℕ → ℕ → Bool
own_signal_by half number signal = eqb number 0 or eqb signal 0 or is_in half.signals (signal - 1)

-- the same of link i
abbrev pub own_signal_in : List Link → HalfTables → ℕ → Bool
own_signal_in links half i = own_signal_by half (get_or half.links i 0) (signal_in links i)

-- few links, each with one of the signals or none
pub record PartsAsked (links : List Link) : Type 0 where
  pub few : length links ≤ max_links
  pub signals : (i : ℕ) → i < length links → signal_in links i ≤ max_signals
