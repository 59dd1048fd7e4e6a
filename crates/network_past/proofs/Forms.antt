-- The turns of the loop over the `H` lines.
use Rattle.base_laws.proofs.Kit.{ℕ, suc, ◌+◌, ◌*◌, ◌≤◌, ◌<◌, ◌≡◌, refl, sym, ap, ◌∙◌, Bool, true, false, List, ◌++◌, add-one, arith, leb-true, leb, length, take, drop, get_or, set}
use Rattle.base_search.specs.declared.Refusal.{Refusal}
use Rattle.base_search.specs.Checks.{refusal, verdict}
use Rattle.base_search.proofs.Laws.{checked-passes, checked_refused}
use Rattle.text_reader.specs.Lines.{Line, lines}
use Rattle.base_laws.specs.Test.{◌and◌, within, every}
use Rattle.model.specs.Network.{link_count, past_count, step_count, timeline_line, timeline_length}
use Rattle.model.specs.Table.{letter_h, past_checks}
use Rattle.network_tables.specs.declared.Reading.{Reading}
use Rattle.network_tables.specs.Places.{timeline_line_in}
use Rattle.network_tables.specs.Fields.{past_size}
use Rattle.network_tables.specs.Rows.{RowRead}
use Rattle.network_tables.proofs.Rows.{row_joined}
use Rattle.network_tables.specs.Blocks.{block_checks, ReadTo, past_block}
use Rattle.network_tables.specs.Tables.{Judged, PastNumbers}
use Rattle.network_tables.proofs.Tables.{past-length-at}
use Rattle.network_tables.proofs.Places.{timeline-line-is, steps-after-past}
use Rattle.network_tables.proofs.Blocks.{passed-all, passed-stop, block-begin, block-end, block-next}
use Rattle.network_tables.proofs.Stages.{judged-refused, judged-passed}
use Rattle.step_arrivals.specs.Timed.{valid_lengths, TimeSet, TimedTo}
use Rattle.step_arrivals.proofs.Timed.{timed-none, timed-next}
use Rattle.step_past.proofs.Reading.{past-numbers, past-next}
use Rattle.network_past.specs.Past.{FormsAsked, FormsHeld}
use Rattle.std.specs.Prelude.{Option, Some, None, Ok, Err}

-- one step more is valid
lengths-more : (network : List Line) (m : ℕ) → valid_lengths network (suc m) ≡ valid_lengths network m and within 1 (timeline_length network m) 60
unfolding valid_lengths every ◌and◌
lengths-more network m = by (every m (λ k. within 1 (timeline_length network k) 60)) (within 1 (timeline_length network m) 60) (leb (past_count network + step_count network) 120)
  where
    by : (a b c : Bool) → (a and b) and c ≡ (a and c) and b
    by true true true = refl
    by true true false = refl
    by true false true = refl
    by true false false = refl
    by false b c = refl

-- m lines have passed, and are timed as long as their lengths are valid
pub record FormsTo (text : List ℕ) (times fields : List ℕ) (at : ℕ) (timed : Bool) (m : ℕ) : Type 0 where
  pub read : ReadTo text (past_block (lines text)) at m
  pub field-size : length fields ≡ past_size
  pub told : timed ≡ valid_lengths (lines text) m
  pub timed-to : TimedTo (lines text) timed m times

module _ {text : List ℕ} {reading : Reading} {times₀ : List ℕ} (asked : FormsAsked text reading times₀) where
  pub forms-begin : {fields : List ℕ} → length fields ≡ past_size → {timed : Bool} → timed ≡ leb (reading.counts.past + reading.counts.steps) 120
      → FormsTo text (set times₀ 0 0) fields reading.next timed 0
  unfolding valid_lengths every ◌and◌
  forms-begin size {timed} t =
      let own : timed ≡ leb (past_count (lines text) + step_count (lines text)) 120 = t ∙ rw (asked.reached.counted.past, asked.reached.counted.steps) in
      record {
        read = block-begin asked.reached.starts;
        field-size = size;
        told = own;
        timed-to = timed-none times₀ asked.room (λ e. leb-true _ _ (sym own ∙ e));
      }

  module _ {times fields : List ℕ} {at m : ℕ} {timed : Bool} (inv : FormsTo text times fields at timed m) where
    pub forms-done : reading.counts.past ≤ m
        → Judged (block_checks (past_block (lines text))) (FormsHeld text times)
        (Ok (record { counts = reading.counts; next = at; trams_at = reading.trams_at; past_at = reading.next; steps_at = reading.steps_at; shortest = reading.shortest; timed = timed }))
    forms-done h =
        let r = asked.reached in
        let past : past_count (lines text) ≤ m = omega (arith, r.counted.past) in
        let all : m ≡ past_count (lines text) = omega (arith, inv.read.passed.within) in
        judged-passed (passed-all inv.read.passed past)
        (record {
          reached = record { counted = r.counted; starts = rw steps-after-past at (block-end inv.read past); trams-start = r.trams-start; shortest-time = r.shortest-time };
          past-start = r.starts;
          told = inv.told ∙ ap (valid_lengths (lines text)) all;
          timed-past = rw all at inv.timed-to;
        })

    module _ (h : m < reading.counts.past) where
      below : m < past_count (lines text)
      below = omega (arith, asked.reached.counted.past)

      module _ {width : ℕ} (w : width ≡ 1 + 2 * reading.counts.links) {r : (Option ℕ)} {part : List ℕ}
          (read : RowRead letter_h (length (take width fields)) text at (take width fields) r part) where
        -- the row, whose first numbers were read
        abbrev after : List ℕ
        after = part ++ drop width fields

        wide : width ≡ 1 + 2 * link_count (lines text)
        wide = omega (arith, w, asked.reached.counted.links)

        row : RowRead letter_h (1 + 2 * link_count (lines text)) text at fields r after
        row = rw (← wide) (row_joined (omega (arith, w, inv.field-size, asked.reached.counted.few.links)) read)

        pub forms-malformed : r ≡ None → {line : ℕ} {q : Refusal} → line ≡ timeline_line_in reading.counts m → q ≡ refusal 1 (line + 1) 0
            → Judged (block_checks (past_block (lines text))) (FormsHeld text times) (Err q)
        unfolding verdict past_checks
        forms-malformed e {line} l t =
            let told : line + 1 ≡ suc (timeline_line (lines text) m) = omega (arith, timeline-line-is asked.reached.counted m) in
            rw (t, told) (judged-refused (passed-stop inv.read.passed below (checked_refused _ 1 _ 0 (row.malformed e (timeline_line (lines text) m) inv.read.starts))))

        pub forms-next : {next : ℕ} → r ≡ Some next → {seconds : ℕ} → seconds ≡ get_or after 0 0 → {timed' : Bool} {times' : List ℕ} → TimeSet times m seconds timed timed' times'
            → FormsTo text times' after next timed' (m + 1)
        unfolding verdict past_checks
        forms-next {next} e {seconds} s {timed'} got =
            let line = row.held next e (timeline_line (lines text) m) inv.read.starts in
            let numbers : PastNumbers (lines text) m after = past-numbers m line (row.size ∙ inv.field-size) in
            let lasts : seconds ≡ timeline_length (lines text) m = s ∙ past-length-at numbers in
            record {
              read = block-next inv.read below (checked-passes _ 1 _ 0 line.form) (past-next m line);
              field-size = row.size ∙ inv.field-size;
              told = got.told ∙ rw (inv.told, lasts, add-one m) (sym (lengths-more (lines text) m));
              timed-to = timed-next inv.timed-to (omega (arith, below)) lasts got;
            }
