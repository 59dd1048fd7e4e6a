-- The totals, one step after another.
use Rattle.base_laws.proofs.Kit.{ℕ, suc, ◌+◌, ◌-◌, ◌≤◌, ◌<◌, ◌≡◌, ap, ◌∙◌, true, List, dec_le, mul-le-mul_right, arith, length, take, length-take-le, get_or, get_or-take}
use Rattle.std.specs.List.{sum as list_sum}
use Rattle.base_search.specs.Checks.{verdict, Hold}
use Rattle.base_search.proofs.Laws.{hold-of-passes}
use Rattle.text_reader.specs.Lines.{Line}
use Rattle.model.specs.declared.Totals.{Totals}
use Rattle.base_laws.specs.Sum.{sum}
use Rattle.base_laws.proofs.Sums.{sum-ext}
use Rattle.model.specs.Network.{max_steps, link_count, step_count}
use Rattle.model.specs.Flows.{vehicles, all_admitted, all_let_out, outside, under_way, doubled_time, totals}
use Rattle.model.specs.Rules.{rule17, rule18}
use Rattle.model.specs.Table.{network_checks, line_checks}
use Rattle.model.proofs.Accepted.{valid-network, lawful-step, LawfulStep}
use Rattle.model.proofs.Limits.{step-limits}
use Rattle.model.proofs.Flow.{balance-while}
use Rattle.model.proofs.Bounds.{KeepsLimits, lawful-limits, admitted-total-small, let-out-total-small, vehicles-small, outside-small, doubled-small}
use Rattle.network_tables.specs.declared.Counts.{Counts}
use Rattle.network_tables.specs.Tables.{CountsHold, PlanNumbers}
use Rattle.step_rows.specs.Waiting.{waiting_in, StepOffers}
use Rattle.step_rows.specs.Rows.{RowHolds}
use Rattle.step_rows.proofs.Cuts.{sum-places}
use Rattle.step_rows.proofs.Texts.{all-admitted-is, all-let-out-is, vehicles-is}
use Rattle.plan_steps.specs.Totals.{held_in, totals_after, TotalsAsked}
use Rattle.std.specs.Prelude.{Ok}

-- those who wait at the first n entries
pub waiting-sum : (waiting : List ℕ) (n : ℕ) → n ≤ length waiting → list_sum (take n waiting) ≡ sum n (waiting_in waiting)
waiting-sum waiting n h = sum-places (take n waiting) ∙ ap (λ k. sum k (λ i. get_or (take n waiting) i 0)) (length-take-le n waiting h) ∙ sum-ext n _ _ (λ i l. get_or-take n waiting i 0 l)

-- the rules of a line that has passed
pub passed-lawful : (network plan : List Line) (m : ℕ) → verdict (line_checks network plan m) ≡ Ok tt → LawfulStep network plan m
passed-lawful network plan m h = lawful-step network plan m (hold-of-passes (line_checks network plan m) h)

module _ (network plan : List Line) (holds : Hold (network_checks network)) (counts : Counts) (counted : CountsHold network counts) where
  pub totals-first : (row : List ℕ) → RowHolds network plan 0 row → (held : ℕ) → held ≡ held_in counts row
      → ◌≡◌ {A = Totals} (record { admitted = 0; let_out = 0; inside = held; doubled_time = 0 }) (totals network plan 0)
  unfolding totals sum doubled_time
  totals-first row r held i = rw (i ∙ vehicles-is counted r)

  module _ (n : ℕ) (h : n ≤ step_count network) (t : Totals) (at : t ≡ totals network plan n) (passed : (m : ℕ) → m < n → verdict (line_checks network plan m) ≡ Ok tt) where
    keeps-limits : (m : ℕ) → m < n → KeepsLimits network plan m
    keeps-limits m l = lawful-limits (passed-lawful network plan m (passed m l))

    keeps-18 : (m : ℕ) → m < n → (i : ℕ) → i < link_count network → rule18 network plan m i ≡ true
    keeps-18 m l = (passed-lawful network plan m (passed m l)).keeps18

    module _ (more : n < step_count network) (lawful : LawfulStep network plan n) {before after : ℕ} {line step : List ℕ} (eb : before ≡ outside network plan n) (ea : after ≡ outside network plan (suc n))
        (pn : PlanNumbers network plan n line) (so : StepOffers network plan n step) where
      -- by the steps that have passed, and this one
      keeps-17 : (m i : ℕ) → m ≤ n → i < link_count network → rule17 network plan m i ≡ true
      keeps-17 m i u l = elim (dec_le n m) [
        | yes w ↦ let q : m ≡ n = omega arith in rw q (lawful.keeps17 i l)
        | no w ↦ (passed-lawful network plan m (passed m (omega arith))).keeps17 i l
      ]

      balanced : vehicles network plan (suc n) + all_let_out network plan n ≡ vehicles network plan n + all_admitted network plan n
      balanced = balance-while network plan (valid-network network holds) n more keeps-17

      few-steps : n ≤ max_steps
      few-steps = omega (arith, h, counted.steps, counted.few.steps)

      few-links : link_count network ≤ 24
      few-links = omega (arith, counted.links, counted.few.links)

      pub totals-asked : TotalsAsked t before after counts line step
      unfolding totals
      totals-asked =
          let valid = valid-network network holds in
          record {
            few = counted.few;
            line-size = pn.size;
            step-size = so.size;
            short = omega (arith, so.lasts, (step-limits network valid n more).length-limit);
            few-admitted = rw at (admitted-total-small network plan holds n h keeps-limits);
            few-let-out = rw at (omega (arith, let-out-total-small network plan holds n h keeps-limits, mul-le-mul_right 14_400_000 few-steps));
            few-inside = rw at (omega (arith, vehicles-small network plan holds n keeps-18, mul-le-mul_right 2_000_000_000 few-links));
            enough = rw (at, all-admitted-is counted pn, all-let-out-is counted pn) (omega (arith, balanced));
            few-before = rw eb (outside-small network plan holds n h);
            few-after = rw ea (outside-small network plan holds (suc n) more);
            little-time = rw at (omega (arith, doubled-small network plan holds n h keeps-18, mul-le-mul_right 10_696_896_000_000 few-steps));
          }

      pub totals-next : totals_after t before after counts line step ≡ totals network plan (suc n)
      unfolding totals sum doubled_time under_way
      totals-next =
          let held : vehicles network plan n + all_admitted network plan n - all_let_out network plan n ≡ vehicles network plan (suc n) = omega (arith, balanced) in
          rw (at, eb, ea, all-admitted-is counted pn, all-let-out-is counted pn, held, so.lasts)
