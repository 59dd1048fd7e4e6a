-- The doubled travel time of an accepted plan.
use Rattle.base_laws.proofs.Kit.{◌≡◌, sym, ap, ◌∙◌, List, ℕ, zero, suc, ◌+◌, ◌*◌, ◌-◌, ◌≤◌, ◌<◌, le_refl, arith}
use Rattle.text_reader.specs.Lines.{Line}
use Rattle.base_laws.specs.Sum.{sum}
use Rattle.model.specs.Network.{link_count, step_count, step_length, waiting_at_start, time}
use Rattle.model.specs.Flows.{offered, all_demand, taken, vehicles, under_way, all_let_out, doubled_time}
use Rattle.model.specs.Guarantees.{weight, starting_vehicles}
use Rattle.base_laws.proofs.Sums.{sum-ext, sum-weight}
use Rattle.model.proofs.Times.{time-suc, time-mono}
use Rattle.model.proofs.Accepted.{AcceptedPlan}
use Rattle.model.proofs.Waiting.{taken-offered, outside-start, outside-step}
use Rattle.model.proofs.Timeline.{start-held}
use Rattle.model.proofs.Flow.{balance-step}

module _ (network : List Line) where
  -- the weight of step n in the first m steps
  unfoldable weight_by : ℕ → ℕ → ℕ
  weight_by m n = 2 * (time network m - time network (suc n)) + step_length network n

  -- another step makes each weight before it twice its length more
  weigh-more : (f : ℕ → ℕ) (m : ℕ)
      → sum (suc m) (λ n. f n * weight_by (suc m) n) ≡ sum m (λ n. f n * weight_by m n) + 2 * step_length network m * sum m f + f m * step_length network m
  unfolding sum weight_by
  weigh-more f m =
      let own : weight_by (suc m) m ≡ step_length network m = omega arith in
      omega (
        arith,
        sum-ext m (λ n. f n * weight_by (suc m) n) (λ n. f n * (weight_by m n + 2 * step_length network m))
            (λ n l. ap (λ x. f n * x) (omega (arith, time-suc network m, time-mono network (suc n) m l))),
        sum-weight m (2 * step_length network m) f (weight_by m),
        ap (λ x. f m * x) own,
      )

module _ (network plan : List Line) (accepted : AcceptedPlan network plan) where
  pub admitted-demand : (n i : ℕ) → n ≤ step_count network → i < link_count network → taken network plan n i ≤ offered network n i
  admitted-demand n i h l = taken-offered network plan n i (λ m u. (accepted.lawful m (omega arith)).keeps15 i l)

  -- those under way after a step: its demand has come, what it lets out has gone
  under-way-step : (n : ℕ) → n < step_count network → under_way network plan (suc n) + all_let_out network plan n ≡ under_way network plan n + all_demand network n
  unfolding under_way
  under-way-step n h = omega (arith, balance-step network plan accepted n h, outside-step network plan n (λ m i u. admitted-demand m i (omega arith)))

  under-way-by : (m : ℕ) → m ≤ step_count network → under_way network plan m + sum m (all_let_out network plan) ≡ starting_vehicles network plan + sum m (all_demand network)
  unfolding under_way starting_vehicles sum
  under-way-by zero h = omega (arith, outside-start network plan)
  under-way-by (suc m) h = omega (arith, under-way-by m (omega arith), under-way-step m h)

  -- of the first m steps
  travel-time-by : (m : ℕ) → m ≤ step_count network
      → doubled_time network plan m + sum m (λ n. all_let_out network plan n * weight_by network m n)
      ≡ 2 * time network m * starting_vehicles network plan + sum m (λ n. all_demand network n * weight_by network m n)
  unfolding doubled_time sum
  travel-time-by zero h = unfold time in omega arith
  travel-time-by (suc m) h =
      omega (
        arith,
        travel-time-by m (omega arith),
        weigh-more network (all_let_out network plan) m,
        weigh-more network (all_demand network) m,
        ap (λ x. 2 * x * starting_vehicles network plan) (time-suc network m),
        ap (λ x. step_length network m * x) (under-way-by m (omega arith)),
        ap (λ x. step_length network m * x) (under-way-step m h),
      )

  pub doubled-time-is : doubled_time network plan (step_count network) + sum (step_count network) (λ n. all_let_out network plan n * weight network n)
      ≡ 2 * time network (step_count network) * starting_vehicles network plan + sum (step_count network) (λ n. all_demand network n * weight network n)
  unfolding weight weight_by
  doubled-time-is = travel-time-by (step_count network) (le_refl _)

-- of two accepted plans on one network, the one that has let out less has as many more under way
module _ (network first second : List Line) (one : AcceptedPlan network first) (other : AcceptedPlan network second) where
  pub under-way-alike : (n : ℕ) → n ≤ step_count network
      → under_way network first n + sum n (all_let_out network first) ≡ under_way network second n + sum n (all_let_out network second)
  under-way-alike n h = under-way-by network first one n h ∙ ap (λ x. x + sum n (all_demand network)) start ∙ sym (under-way-by network second other n h)
    where
      start : starting_vehicles network first ≡ starting_vehicles network second
      start = unfold starting_vehicles vehicles in ap (λ x. x + sum (link_count network) (waiting_at_start network)) (sum-ext (link_count network) _ _ (λ i l. start-held network first second i))
