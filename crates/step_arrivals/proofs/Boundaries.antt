-- The steps by the table of times are the model's, where the table holds a network's times.
use Rattle.base_laws.proofs.Kit.{ℕ, zero, suc, ◌+◌, ◌-◌, ◌≤◌, ◌<◌, ◌≡◌, refl, ap, List, add-one, arith}
use Rattle.base_search.specs.Checks.{Hold}
use Rattle.text_reader.specs.Lines.{Line}
use Rattle.model.specs.Network.{link_count, step_count, past_count, on_timeline, travel_time, timeline_length, timeline_time, step_at, arrival_step, elapsed}
use Rattle.model.specs.Table.{network_checks}
use Rattle.model.proofs.Times.{timeline-suc, on-timeline-suc, on-timeline-mono, arrival-step-le}
use Rattle.model.proofs.Limits.{counts, link-limits, timeline-small, timeline-lasts}
use Rattle.model.proofs.Accepted.{valid-network}
use Rattle.network_tables.specs.Tables.{TimeTable}
use Rattle.step_arrivals.specs.Arrivals.{step_at_in, arrival_step_in, seconds_in, elapsed_in, Rising, Cursor}
use Rattle.step_arrivals.proofs.Arrivals.{arrival-rises, cursor-at}

module _ {network : List Line} {times : List ℕ} (t : TimeTable network times) where
  step_is : (m x : ℕ) → m ≤ on_timeline network (step_count network) → step_at_in times m x ≡ step_at network m x
  unfolding step_at_in step_at
  step_is zero x h = refl
  step_is (suc m) x h = rw (t.holds m (omega arith), step_is m x (omega arith))

  module _ (n i : ℕ) (h : n ≤ step_count network) where
    on : on_timeline network n ≤ on_timeline network (step_count network)
    on = on-timeline-mono network n (step_count network) h

    pub arrival-is : arrival_step_in times (on_timeline network n) (travel_time network i) ≡ arrival_step network n i
    unfolding arrival_step_in arrival_step
    arrival-is = rw (t.holds (on_timeline network n) on, step_is (on_timeline network n) (timeline_time network (on_timeline network n) - travel_time network i) on)

    -- the elapsed part of the arrival step
    pub elapsed-at : elapsed_in times (arrival_step network n i) (on_timeline network n) (travel_time network i) ≡ elapsed network n i
    unfolding elapsed
    elapsed-at = rw (t.holds (on_timeline network n) on, t.holds (arrival_step network n i) (omega (arith, arrival-step-le network n i, on))) refl

  -- the length of a step
  pub seconds-is : (m : ℕ) → m < on_timeline network (step_count network) → seconds_in times m ≡ timeline_length network m
  seconds-is m h = omega (arith, t.holds m (omega arith), t.holds (m + 1) (omega arith), timeline-suc network m, ap (timeline_time network) (add-one m))

module _ {network : List Line} {times : List ℕ} (holds : Hold (network_checks network)) (t : TimeTable network times) where
  pub times-rise : (m : ℕ) → m ≤ on_timeline network (step_count network) → Rising times m
  times-rise m h =
      record {
        room = omega (arith, t.size, together, (counts network (valid-network network holds)).together);
        rises = λ k l. omega (arith, t.holds k (omega arith), t.holds (k + 1) (omega arith), timeline-suc network k, ap (timeline_time network) (add-one k), timeline-lasts network (valid-network network holds) k (omega arith));
        small = λ k l. omega (arith, t.holds k (omega arith), timeline-small network (valid-network network holds) k (omega arith));
      }
    where
      together : on_timeline network (step_count network) ≡ past_count network + step_count network
      together = unfold on_timeline in refl

  -- from one boundary to the next the arrival step only moves on
  arrival-moves-on : (n i : ℕ) → n < step_count network → arrival_step network n i ≤ arrival_step network (suc n) i
  arrival-moves-on n i h =
      rw (← arrival-is t n i (omega arith), ← arrival-is t (suc n) i h, on-timeline-suc, ← add-one)
      (arrival-rises times (on_timeline network n) (travel_time network i) (times-rise (on_timeline network n + 1) (omega (arith, on-timeline-suc network n, on-timeline-mono network (suc n) (step_count network) h))))

  -- a cursor of link i that is not past its arrival step at boundary n
  pub cursor-on : (n i : ℕ) → n ≤ step_count network → i < link_count network → {from travel : ℕ} → from ≤ arrival_step network n i → travel ≡ travel_time network i
      → Cursor times from (on_timeline network n) travel
  unfolding on_timeline
  cursor-on n i h own behind q =
      cursor-at (times-rise (on_timeline network (step_count network)) (omega arith)) (on-timeline-mono network n (step_count network) h)
      (omega (arith, (counts network (valid-network network holds)).some-step))
      (omega (arith, (link-limits network (valid-network network holds) i own).some-travel))
      (rw (q, arrival-is t n i h) behind)

  -- one that stood at its arrival step of boundary n is ready for the next
  pub cursor-ready : (n i : ℕ) → n < step_count network → i < link_count network → {from travel : ℕ} → from ≡ arrival_step network n i → travel ≡ travel_time network i
      → Cursor times from (on_timeline network (suc n)) travel
  cursor-ready n i h own e = cursor-on (suc n) i h own (omega (arith, arrival-moves-on n i h))
