-- What the tests of the code say of rules 16 to 18.
use Rattle.base_laws.proofs.Kit.{◌≡◌, ap, ap₂, sym, ◌∙◌, true, List, ℕ, ◌+◌, ◌*◌, ◌-◌, ◌≤◌, ◌<◌, mul-le-mul_right, arith, le-leb, lt-ltb, le-ltb, eq-eqb, ne_eqb, leb}
use Rattle.network_tables.specs.Fields.{travel_time_in, link_in, share_in, let_out_in, moved_in, entered_in, left_in, entered_at}
use Rattle.step_arrivals.specs.Arrivals.{seconds_in, elapsed_in}
use Rattle.step_past.specs.Curves.{arrival_at}
use Rattle.step_rows.specs.declared.Step.{Step}
use Rattle.step_rows.specs.Rows.{moved_by, next_left}
use Rattle.step_sums.specs.Sums.{keeps_share, entered_before, entered_after, leaves_arrived, SumRows}

-- ---- rule 17: entered of link i at the start of a past step and of a later one, at its end, and at that of the step itself
module _ (step : Step) (i : ℕ) where
  abbrev last : ℕ
  last = (arrival_at step.arrivals.now i).step

  module _ {r : ℕ} where
    pub before-past : last < step.counts.past → r ≡ (arrival_at step.arrivals.now i).start → r ≡ entered_before step i
    unfolding entered_before
    before-past h q = rw (lt-ltb last step.counts.past h) q

    pub before-later : step.counts.past ≤ last → r ≡ entered_at step.ledger.now step.counts.links (last - step.counts.past) i → r ≡ entered_before step i
    unfolding entered_before
    before-later h q = rw (le-ltb last step.counts.past h) q

    module _ (row : List ℕ) where
      pub after-past : last < step.counts.past → r ≡ (arrival_at step.arrivals.now i).stop → r ≡ entered_after step row i
      unfolding entered_after
      after-past h q = rw (lt-ltb last step.counts.past h) q

      pub after_last : step.counts.past ≤ last → last - step.counts.past ≡ step.boundary → r ≡ entered_in row i → r ≡ entered_after step row i
      unfolding entered_after
      after_last h e q = rw (le-ltb last step.counts.past h, eq-eqb (last - step.counts.past) step.boundary e) q

      pub after-earlier : step.counts.past ≤ last → (last - step.counts.past ≡ step.boundary → ⊥) → r ≡ entered_at step.ledger.now step.counts.links (last - step.counts.past + 1) i → r ≡ entered_after step row i
      unfolding entered_after
      after-earlier h e q = rw (le-ltb last step.counts.past h, ne_eqb (last - step.counts.past) step.boundary e) q

  -- where no more has left than had entered by the start of the step
  pub arrived-before : (row : List ℕ) {l start : ℕ} → l ≡ left_in row i → start ≡ entered_before step i → l ≤ start → true ≡ leaves_arrived step row i
  unfolding leaves_arrived
  arrived-before row gone was h =
      let seconds = seconds_in step.times.now last in
      let elapsed = elapsed_in step.times.now last (step.counts.past + step.boundary + 1) (travel_time_in step.links.now i) in
      let more = (entered_after step row i - entered_before step i) * elapsed in
      let enough : left_in row i ≤ entered_before step i = omega arith in
      let scaled : left_in row i * seconds ≤ entered_before step i * seconds + more = omega (arith, mul-le-mul_right seconds enough) in
      sym (le-leb _ _ scaled)

-- ---- rule 16
module _ {step : Step} {previous row : List ℕ} (rows : SumRows step previous row) where
  -- what left in the row holds beside what had left before and what was let out
  pub share-room : (i : ℕ) → i < step.counts.links → left_in previous i + let_out_in step.counts step.plan_line.now i ≤ left_in row i
  unfolding next_left
  share-room i h = omega (arith, rows.left-made i h)

  moved_sum : (i r : ℕ) → i < step.counts.links → left_in previous i + (let_out_in step.counts step.plan_line.now i + r) ≡ left_in row i
      → r ≡ moved_by step.counts step.plan_line.now step.movements.now 0 step.counts.movements i
  unfolding next_left
  moved_sum i r h e = omega (arith, rows.left-made i h)

  -- by that sum
  pub share-is : (j f r : ℕ) {a b v : ℕ} → f + 1 ≡ link_in step.movements.now 0 j → f < step.counts.links
      → left_in previous f + (let_out_in step.counts step.plan_line.now f + r) ≡ left_in row f
      → v ≡ moved_in step.counts step.plan_line.now j → a ≡ 1000 * v → b ≡ share_in step.movements.now j * r → leb a b ≡ keeps_share step j
  unfolding keeps_share
  share-is j f r e h q v a b =
      let g : f ≡ link_in step.movements.now 0 j - 1 = omega arith in
      ap₂ leb (a ∙ ap (λ x. 1000 * x) v) (b ∙ ap (λ x. share_in step.movements.now j * x) (moved_sum f r h q ∙ ap (moved_by step.counts step.plan_line.now step.movements.now 0 step.counts.movements) g))

-- of nothing
pub no-share : (step : Step) (j : ℕ) {v : ℕ} → v ≡ moved_in step.counts step.plan_line.now j → v ≡ 0 → true ≡ keeps_share step j
unfolding keeps_share
no-share step j v z = sym (le-leb (1000 * moved_in step.counts step.plan_line.now j) _ (omega (arith, v, z)))
