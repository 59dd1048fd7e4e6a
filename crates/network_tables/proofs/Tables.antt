-- What stands at a place of the program's tables, by its name in the paper, and their sizes.
use Rattle.base_laws.proofs.Kit.{ℕ, ◌+◌, ◌*◌, ◌<◌, ◌≡◌, sym, ap, ◌∙◌, List, arith, get_or}
use Rattle.text_reader.specs.Lines.{Line}
use Rattle.model.specs.Network.{link_count, signal_count, movement_count, capacity, travel_time, exit_rate, signal_of, phase_mask, standing, waiting_at_start, from_link, to_link, rate, share, step_line, timeline_length, past_entries, past_exits, step_length, demand}
use Rattle.model.specs.Flows.{shown_mask, admitted, let_out, moved}
use Rattle.network_tables.specs.Fields.{capacity_in, travel_time_in, exit_rate_in, signal_in, phase_mask_in, standing_in, waiting_at_start_in, link_in, rate_in, share_in, past_entries_in, past_exits_in, length_in, demand_in}
use Rattle.network_tables.specs.declared.Link.{Link}
use Rattle.network_tables.specs.declared.Movement.{Movement}
use Rattle.network_tables.specs.declared.Reading.{Reading}
use Rattle.network_tables.specs.Tables.{CountsHold, TablesSized, LinkTable, MovementTable, TimeTable, PastNumbers, StepNumbers, PlanNumbers}

-- the tables of a network have their sizes
pub tables-sized : {network : List Line} {reading : Reading} {links : List Link} {movements : List Movement}
    {times : List ℕ} → CountsHold network reading.counts → LinkTable network links
    → MovementTable network movements → TimeTable network times → TablesSized reading links movements times
tables-sized counted link-table movement-table time-table =
    record {
      few = counted.few;
      link-size = link-table.size ∙ sym counted.links;
      movement-size = movement-table.size ∙ sym counted.movements;
      time-size = time-table.size;
    }

module _ {network : List Line} {links : List Link} (t : LinkTable network links) (i : ℕ) (h : i < link_count network) where
  pub capacity-at : capacity_in links i ≡ capacity network i
  unfolding capacity
  capacity-at = ap (λ link. link.capacity) (t.holds i h)

  pub travel-time-at : travel_time_in links i ≡ travel_time network i
  unfolding travel_time
  travel-time-at = ap (λ link. link.travel_time) (t.holds i h)

  pub exit-rate-at : exit_rate_in links i ≡ exit_rate network i
  unfolding exit_rate
  exit-rate-at = ap (λ link. link.exit_rate) (t.holds i h)

  pub signal-of-at : signal_in links i ≡ signal_of network i
  unfolding signal_of
  signal-of-at = ap (λ link. link.signal) (t.holds i h)

  pub phase-mask-at : phase_mask_in links i ≡ phase_mask network i
  unfolding phase_mask
  phase-mask-at = ap (λ link. link.phase_mask) (t.holds i h)

  pub standing-at : standing_in links i ≡ standing network i
  unfolding standing
  standing-at = ap (λ link. link.standing) (t.holds i h)

  pub waiting-at-start-at : waiting_at_start_in links i ≡ waiting_at_start network i
  unfolding waiting_at_start
  waiting-at-start-at = ap (λ link. link.waiting) (t.holds i h)

module _ {network : List Line} {movements : List Movement} (t : MovementTable network movements) (j : ℕ) (h : j < movement_count network) where
  pub from-link-at : link_in movements 0 j ≡ from_link network j
  unfolding from_link
  from-link-at = ap (λ movement. movement.from) (t.holds j h)

  pub to-link-at : link_in movements 1 j ≡ to_link network j
  unfolding to_link
  to-link-at = ap (λ movement. movement.to) (t.holds j h)

  pub rate-at : rate_in movements j ≡ rate network j
  unfolding rate
  rate-at = ap (λ movement. movement.rate) (t.holds j h)

  pub share-at : share_in movements j ≡ share network j
  unfolding share
  share-at = ap (λ movement. movement.share) (t.holds j h)

module _ {network : List Line} {m : ℕ} {past : List ℕ} (t : PastNumbers network m past) where
  pub past-length-at : length_in past ≡ timeline_length network m
  unfolding timeline_length
  past-length-at = t.holds 0 (omega arith)

  module _ (i : ℕ) (h : i < link_count network) where
    pub past-entries-at : past_entries_in past i ≡ past_entries network m i
    unfolding past_entries
    past-entries-at = t.holds (1 + 2 * i) (omega arith)

    pub past-exits-at : past_exits_in past i ≡ past_exits network m i
    unfolding past_exits
    past-exits-at = t.holds (2 + 2 * i) (omega arith)

module _ {network : List Line} {n : ℕ} {step : List ℕ} (t : StepNumbers network n step) where
  pub step-length-at : length_in step ≡ step_length network n
  unfolding step_length timeline_length step_line
  step-length-at = t.holds 0 (omega arith)

  pub demand-at : (i : ℕ) → i < link_count network → demand_in step i ≡ demand network n i
  unfolding demand
  demand-at i h = t.holds (1 + i) (omega arith)

module _ {network plan : List Line} {n : ℕ} {line : List ℕ} (t : PlanNumbers network plan n line) where
  pub shown-mask-at : (r : ℕ) → r < signal_count network → get_or line r 0 ≡ shown_mask network plan n r
  unfolding shown_mask
  shown-mask-at r h = t.holds r (omega arith)

  pub admitted-at : (i : ℕ) → i < link_count network → get_or line (signal_count network + i) 0 ≡ admitted network plan n i
  unfolding admitted
  admitted-at i h = t.holds (signal_count network + i) (omega arith)

  pub let-out-at : (i : ℕ) → i < link_count network → get_or line (signal_count network + (link_count network + i)) 0 ≡ let_out network plan n i
  unfolding let_out
  let-out-at i h = t.holds (signal_count network + (link_count network + i)) (omega arith)

  pub moved_at : (j : ℕ) → j < movement_count network → get_or line (signal_count network + (2 * link_count network + j)) 0 ≡ moved network plan n j
  unfolding moved
  moved_at j h = t.holds (signal_count network + (2 * link_count network + j)) (omega arith)
