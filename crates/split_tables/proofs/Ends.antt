-- The movements of a network that has passed name its links.
use Rattle.base_laws.proofs.Kit.{ℕ, zero, suc, ◌-◌, ◌≤◌, ◌<◌, sym, ◌∙◌, List, arith}
use Rattle.base_search.specs.Checks.{Hold}
use Rattle.text_reader.specs.Lines.{Line}
use Rattle.model.specs.Network.{link_count, movement_count, from_link, to_link}
use Rattle.model.specs.Table.{network_checks}
use Rattle.model.proofs.Accepted.{ValidNetwork, valid-network}
use Rattle.model.proofs.Limits.{movement-limits}
use Rattle.network_tables.specs.declared.Movement.{Movement}
use Rattle.network_tables.specs.declared.NetworkTables.{NetworkTables}
use Rattle.network_tables.specs.Fields.{movement_at, link_in}
use Rattle.network_tables.specs.Tables.{CountsHold, MovementTable}
use Rattle.network_tables.proofs.Tables.{from-link-at, to-link-at}
use Rattle.split_tables.specs.Tables.{LinksNamed, MovementsAsked}
use Rattle.split_tables.specs.Halves.{HalvesAsked}

-- a movement of such a table names two links
pub ends-named : {movements : List Movement} {count j : ℕ} → MovementsAsked movements count → j < count → LinksNamed (movement_at movements j)
ends-named {j = j} a l =
    let from = a.links j 0 l (omega arith) in
    let to = a.links j 1 l (omega arith) in
    record { from-first = from.0; from-last = from.1; to-first = to.0; to-last = to.1 }

module _ (network : List Line) (holds : Hold (network_checks network)) where
  valid : ValidNetwork network
  valid = valid-network network holds

  pub from-there : (j : ℕ) → j < movement_count network → from_link network j - 1 < link_count network
  from-there j l = let m = movement-limits network valid j l in omega (arith, m.from_first, m.from_last)

  pub to-there : (j : ℕ) → j < movement_count network → to_link network j - 1 < link_count network
  to-there j l = let m = movement-limits network valid j l in omega (arith, m.to-first, m.to_last)

  pub movement-ends : {movements : List Movement} → MovementTable network movements → (j side : ℕ) → j < movement_count network → side < 2
      → (1 ≤ link_in movements side j) × (link_in movements side j ≤ link_count network)
  movement-ends table j zero l s = let m = movement-limits network valid j l in (omega (arith, m.from_first, from-link-at table j l), omega (arith, m.from_last, from-link-at table j l))
  movement-ends table j (suc zero) l s = let m = movement-limits network valid j l in (omega (arith, m.to-first, to-link-at table j l), omega (arith, m.to_last, to-link-at table j l))
  movement-ends table j (suc (suc side)) l s = absurd (omega arith)

  pub movements-there : (tables : NetworkTables) → CountsHold network tables.reading.counts → MovementTable network tables.movements.now
      → MovementsAsked tables.movements.now tables.reading.counts.movements
  movements-there tables counted table =
      record {
        few = tables.sized.few.movements;
        size = table.size ∙ sym counted.movements;
        links = λ j side l s. let e = movement-ends table j side (omega (arith, counted.movements)) s in (e.0, omega (arith, e.1, counted.links, tables.sized.few.links));
      }

  pub halves-asked : (tables : NetworkTables) → CountsHold network tables.reading.counts → MovementTable network tables.movements.now → HalvesAsked tables
  halves-asked tables counted table =
      record {
        movement-size = table.size ∙ sym counted.movements;
        ends = λ j side l s. let e = movement-ends table j side (omega (arith, counted.movements)) s in (e.0, omega (arith, e.1, counted.links));
      }
