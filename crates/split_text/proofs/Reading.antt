-- The `P` line that was read again is that of the plan.
use Rattle.std.specs.Option.{unwrap_or}
use Rattle.base_laws.proofs.Kit.{◌∙◌, ℕ, suc, ◌<◌, ◌≡◌, refl, ap, List, arith, length, get_or}
use Rattle.model.specs.declared.Signal.{Signal}
use Rattle.text_reader.specs.Lines.{lines}
use Rattle.model.specs.Network.{signal_count, step_count, signal}
use Rattle.model.specs.Hold.{plan_of}
use Rattle.model.proofs.Accepted.{ValidNetwork, valid-network}
use Rattle.network_tables.specs.Fields.{signal_at, line_size}
use Rattle.network_tables.specs.Tables.{PlanNumbers}
use Rattle.plan_steps.specs.PlanLine.{PlanAt, LineAsked, LineGot}
use Rattle.plan_steps.proofs.PlanLines.{line-bad, line-numbers, next-starts}
use Rattle.plan_steps.proofs.Runs.{signals-first}
use Rattle.split_tables.specs.declared.Whole.{Whole}
use Rattle.split_text.specs.Halves.{Held, PlanLineRead}
use Rattle.base_laws.proofs.Tests.{not-both}
use Rattle.std.specs.Prelude.{Option, Some, None}

-- ---- `read_plan`
pub plan-next : (whole : Whole) {at : ℕ} {before after : List ℕ} {r : Option ℕ} → LineGot whole.plan.now at whole.signals.now whole.tables.reading.counts before r after
    → {next : ℕ} → next ≡ unwrap_or r at → PlanLineRead whole at before next after
plan-next whole {at} {r = r} got e = record { result = r; got = got; next-is = λ place d. e ∙ ap (λ o. unwrap_or o at) d }

-- ---- by the plan
module _ {network_text : List ℕ} {whole : Whole} (held : Held network_text whole) where
  valid : ValidNetwork (lines network_text)
  valid = valid-network (lines network_text) held.holds

  pub plan-asked : {line : List ℕ} → length line ≡ line_size → LineAsked whole.signals.now whole.tables.reading.counts line
  plan-asked size =
      record {
        few = whole.tables.sized.few;
        signals-size = held.signal-table.size;
        ready = λ r l. (signals-first (lines network_text) (plan_of network_text whole.plan.now) whole.signals.now valid held.signal-table).ready r (omega (arith, held.counted.signals));
        size = size;
      }

  module _ {n at next : ℕ} {before line : List ℕ} (within : n < step_count (lines network_text)) (starts : PlanAt whole.plan.now at n) (zeros : (k : ℕ) → get_or before k 0 ≡ 0)
      (size : length before ≡ line_size) (read : PlanLineRead whole at before next line) where
    pub numbers-read : PlanNumbers (lines network_text) (plan_of network_text whole.plan.now) n line × PlanAt whole.plan.now next (suc n)
    numbers-read = go read.result refl
      where
        shown : length whole.plan.now ≡ 0 → (r : ℕ) → r < signal_count (lines network_text) → (signal_at whole.signals.now r).shown ≡ (signal (lines network_text) r).shown
        shown empty r l = ap (λ (s : Signal). s.shown) (held.signal-table.holds r l)

        go : (r : Option ℕ) → read.result ≡ r → PlanNumbers (lines network_text) (plan_of network_text whole.plan.now) n line × PlanAt whole.plan.now next (suc n)
        go (Some place) e = (
          line-numbers network_text whole.plan.now valid held.counted within starts shown (λ empty k u. zeros k) size read.got e,
          λ h. rw (read.next-is place e) (next-starts network_text whole.plan.now valid held.counted within starts shown (λ empty k u. zeros k) size read.got e h),
        )
        go None e = absurd (not-both (held.forms n within) (line-bad network_text whole.plan.now valid held.counted within starts shown (λ empty k u. zeros k) size read.got e))
