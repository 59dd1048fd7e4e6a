-- The times of the timeline's boundaries as they are set.
use Rattle.base_laws.proofs.Kit.{ℕ, ◌+◌, ◌≤◌, ◌<◌, ◌≡◌, refl, sym, ap, ◌∙◌, Bool, true, List, ℕ_discrete, add-one, arith, leb-true, length, get_or, set, length-set, get_or-set_same, get_or-set_other}
use Rattle.text_reader.specs.Lines.{Line}
use Rattle.base_laws.specs.Sum.{sum}
use Rattle.base_laws.specs.Test.{within}
use Rattle.model.specs.Network.{past_count, step_count, on_timeline, timeline_length, timeline_time}
use Rattle.base_laws.proofs.Tests.{and_left, and_right}
use Rattle.model.proofs.Times.{timeline-suc}
use Rattle.network_tables.specs.Fields.{time_table_size}
use Rattle.network_tables.specs.Tables.{TimeTable}
use Rattle.step_arrivals.specs.Arrivals.{Rising}
use Rattle.step_arrivals.specs.Timed.{TimeSet, TimedTo}

-- the time at the end of a step that is set
module _ {before : List ℕ} {m seconds : ℕ} {timed result : Bool} {after : List ℕ} (got : TimeSet before m seconds timed result after) (e : result ≡ true) where
  still-timed : timed ≡ true
  still-timed = and_left _ _ (sym got.told ∙ e)

  lasts-some : 1 ≤ seconds
  unfolding within
  lasts-some = leb-true _ _ (and_left _ _ (and_right _ _ (sym got.told ∙ e)))

  lasts-few : seconds ≤ 60
  unfolding within
  lasts-few = leb-true _ _ (and_right _ _ (and_right _ _ (sym got.told ∙ e)))

module _ {network : List Line} where
  pub timed-none : {timed : Bool} (times : List ℕ) → length times ≡ time_table_size → (timed ≡ true → past_count network + step_count network ≤ 120) → TimedTo network timed 0 (set times 0 0)
  unfolding timeline_time sum
  timed-none times size few =
      record {
        room = length-set times 0 0 ∙ size;
        few = few;
        times-set = λ e k l. let z : k ≡ 0 = omega arith in rw (z, get_or-set_same times 0 0 0 (omega arith));
        lasts = λ e k l. absurd (omega arith);
        short = λ e k l. let z : k ≡ 0 = omega arith in rw z (omega arith);
      }

  module _ {timed : Bool} {m : ℕ} {times : List ℕ} (inv : TimedTo network timed m times) (below : m < past_count network + step_count network) where
    pub timed-next : {seconds : ℕ} → seconds ≡ timeline_length network m → {result : Bool} {after : List ℕ} → TimeSet times m seconds timed result after → TimedTo network result (m + 1) after
    timed-next {seconds} s {result} {after} got =
        record {
          room = got.size ∙ inv.room;
          few = λ e. inv.few (still-timed got e);
          times-set = λ e k l. elim (ℕ_discrete k (m + 1)) [
            | yes q ↦ rw (got.time-set e, q, get_or-set_same times (m + 1) (get_or times m 0 + seconds) 0 (omega (arith, inv.few (still-timed got e), inv.room))) (reached e)
            | no q ↦ rw (got.time-set e, get_or-set_other times (m + 1) k (get_or times m 0 + seconds) 0 q) (inv.times-set (still-timed got e) k (omega arith))
          ];
          lasts = λ e k l. elim (ℕ_discrete k m) [ yes q ↦ rw q (omega (arith, lasts-some got e)) | no q ↦ inv.lasts (still-timed got e) k (omega arith) ];
          short = λ e k l. elim (ℕ_discrete k (m + 1)) [
            | yes q ↦ rw q (omega (arith, reached e, inv.times-set (still-timed got e) m (omega arith), inv.short (still-timed got e) m (omega arith), lasts-few got e))
            | no q ↦ inv.short (still-timed got e) k (omega arith)
          ];
        }
      where
        reached : result ≡ true → get_or times m 0 + seconds ≡ timeline_time network (m + 1)
        reached e = omega (arith, inv.times-set (still-timed got e) m (omega arith), timeline-suc network m, ap (timeline_time network) (add-one m))

  -- a timeline that is timed whole
  module _ {m : ℕ} {times : List ℕ} (inv : TimedTo network true m times) where
    pub timed-table : on_timeline network (step_count network) ≤ m → TimeTable network times
    timed-table h = record { size = inv.room; holds = λ k l. inv.times-set refl k (omega arith) }

    pub timed-rise : m ≤ 120 → Rising times m
    timed-rise h =
        record {
          room = omega (arith, inv.room);
          rises = λ k l. omega (arith, inv.times-set refl k (omega arith), inv.times-set refl (k + 1) (omega arith), inv.lasts refl k l, timeline-suc network k, ap (timeline_time network) (add-one k));
          small = λ k l. omega (arith, inv.times-set refl k l, inv.short refl k l);
        }
