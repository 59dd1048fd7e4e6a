-- The limits of a valid network's numbers.
use Rattle.base_laws.proofs.Kit.{◌≡◌, refl, ap, true, List, [], ℕ, zero, suc, ◌+◌, ◌*◌, ◌-◌, ◌≤◌, ◌<◌, dec_le, arith, leb, leb-true}
use Rattle.text_reader.specs.Lines.{Line}
use Rattle.base_laws.specs.Sum.{sum}
use Rattle.base_laws.specs.Test.{within, every}
use Rattle.model.specs.Network.{link_count, signal_count, movement_count, step_count, past_count, on_timeline, capacity, travel_time, exit_rate, signal_of, standing, from_link, to_link, rate, share, timeline_length, past_entries, step_length, demand, time, timeline_time}
use Rattle.model.specs.Flows.{offered, left, has_arrived, held}
use Rattle.model.specs.Rules.{valid_counts, valid_link, valid_movement, valid_step, valid_past_of, valid_past}
use Rattle.base_laws.proofs.Tests.{and_left, and_right, every-at}
use Rattle.model.proofs.Accepted.{ValidNetwork}

pub record Counts (network : List Line) : Type 0 where
  pub some-link : 1 ≤ link_count network
  pub links : link_count network ≤ 24
  pub signals : signal_count network ≤ 8
  pub movements : movement_count network ≤ 64
  pub some-step : 1 ≤ step_count network
  pub steps : step_count network ≤ 120
  pub together : past_count network + step_count network ≤ 120

pub record LinkLimits (network : List Line) (i : ℕ) : Type 0 where
  pub capacity-limit : capacity network i ≤ 2_000_000_000
  pub some-travel : 1 ≤ travel_time network i
  pub exit-limit : exit_rate network i ≤ 10_000
  pub signal-last : signal_of network i ≤ signal_count network
  pub standing-limit : standing network i ≤ capacity network i

pub record MovementLimits (network : List Line) (j : ℕ) : Type 0 where
  pub from_first : 1 ≤ from_link network j
  pub from_last : from_link network j ≤ link_count network
  pub to-first : 1 ≤ to_link network j
  pub to_last : to_link network j ≤ link_count network
  pub rate-limit : rate network j ≤ 10_000
  pub share-limit : share network j ≤ 1000

pub record StepLimits (network : List Line) (n : ℕ) : Type 0 where
  pub some-time : 1 ≤ step_length network n
  pub length-limit : step_length network n ≤ 60
  pub demand-limit : (i : ℕ) → i < link_count network → demand network n i ≤ 600_000

-- link i where the past ends
pub record PastLimits (network : List Line) (i : ℕ) : Type 0 where
  pub arrived : has_arrived network [] (left network [] 0 i) 0 i ≡ true
  pub fits : held network [] 0 i ≤ capacity network i
  pub few : sum (past_count network) (λ m. past_entries network m i) + offered network (step_count network) i ≤ 72_000_000 + 13_800_000 * past_count network

-- every step of the timeline lasts
abbrev pub Lasts : List Line → Type 0
Lasts network = (m : ℕ) → m < on_timeline network (step_count network) → 1 ≤ timeline_length network m

pub limits-of-step : (network : List Line) (n : ℕ) → valid_step network n ≡ true → StepLimits network n
unfolding valid_step within
limits-of-step network n v =
    let d : every (link_count network) (λ i. leb (demand network n i) 600_000) ≡ true = and_right _ _ v in
    record {
      some-time = search (leb-true, and_left, and_right) depth 9;
      length-limit = search (leb-true, and_left, and_right) depth 9;
      demand-limit = λ i k. leb-true _ _ (every-at (link_count network) (λ i. leb (demand network n i) 600_000) d i k);
    }

module _ (network : List Line) (valid : ValidNetwork network) where
  pub counts : Counts network
  unfolding valid_counts valid_past within
  counts =
      let v = valid.counts in
      let p = valid.past in
      search (leb-true, and_left, and_right) depth 9

  pub link-limits : (i : ℕ) → i < link_count network → LinkLimits network i
  unfolding valid_link within
  link-limits i l = let v = valid.links i l in search (leb-true, and_left, and_right) depth 9

  pub movement-limits : (j : ℕ) → j < movement_count network → MovementLimits network j
  unfolding valid_movement within
  movement-limits j l = let v = valid.movements j l in search (leb-true, and_left, and_right) depth 9

  pub step-limits : (n : ℕ) → n < step_count network → StepLimits network n
  step-limits n l = limits-of-step network n (valid.steps n l)

  pub past-limits : (i : ℕ) → i < link_count network → PastLimits network i
  unfolding valid_past valid_past_of
  past-limits i l = let v = every-at (link_count network) (valid_past_of network) (and_right _ _ valid.past) i l in search (leb-true, and_left, and_right) depth 9

  -- the length of a step of the timeline, past or present
  pub length-limits : (m : ℕ) → m < on_timeline network (step_count network) → (1 ≤ timeline_length network m) × (timeline_length network m ≤ 60)
  unfolding valid_past on_timeline within step_length
  length-limits m l = elim (dec_le (past_count network) m) [
    | yes h ↦
        let e : past_count network + (m - past_count network) ≡ m = omega arith in
        let s = step-limits (m - past_count network) (omega arith) in
        let k : step_length network (m - past_count network) ≡ timeline_length network m = ap (timeline_length network) e in
        (omega (arith, s.some-time), omega (arith, s.length-limit))
    | no h ↦
        let v = every-at (past_count network) (λ m. within 1 (timeline_length network m) 60) (and_left _ _ (and_left _ _ valid.past)) m (omega arith) in
        search (leb-true, and_left, and_right)
  ]

  pub timeline-lasts : Lasts network
  timeline-lasts m l = (length-limits m l).0

  pub first-lasts : 1 ≤ timeline_length network 0
  first-lasts = timeline-lasts 0 (unfold on_timeline in omega (arith, counts.some-step))

  -- a time on the timeline is at most 120 × 60 seconds
  timeline-fits : (m : ℕ) → m ≤ on_timeline network (step_count network) → timeline_time network m ≤ 60 * m
  unfolding timeline_time sum
  timeline-fits zero h = omega arith
  timeline-fits (suc m) h = omega (arith, timeline-fits m (omega arith), (length-limits m h).1)

  pub timeline-small : (m : ℕ) → m ≤ on_timeline network (step_count network) → timeline_time network m ≤ 7200
  timeline-small m h = let e : on_timeline network (step_count network) ≡ past_count network + step_count network = unfold on_timeline in refl in omega (arith, timeline-fits m h, counts.together)

  time-fits : (n : ℕ) → n ≤ step_count network → time network n ≤ 60 * n
  unfolding time sum
  time-fits zero h = omega arith
  time-fits (suc n) h = omega (arith, time-fits n (omega arith), (step-limits n h).length-limit)

  -- the time of a boundary is at most 120 × 60 seconds
  pub time-small : (n : ℕ) → n ≤ step_count network → time network n ≤ 7200
  time-small n h = omega (arith, time-fits n h, counts.steps)
