-- The rows that a plan's check has written are those that its report prints.
use Rattle.base_laws.proofs.Kit.{ℕ, suc, ◌+◌, ◌*◌, ◌≤◌, ◌<◌, ◌≡◌, sym, ap, ap₂, ◌∙◌, List, ◌∷◌, mul-le-mul_right, arith, length, get_or, take, drop, length-drop, ext_get_or, get_or-take, get_or-drop, length-take-le}
use Rattle.text_reader.specs.Lines.{Line}
use Rattle.text_writer.specs.Records.{record_texts}
use Rattle.text_writer.proofs.Laws.{records-same}
use Rattle.model.specs.Network.{link_count, step_count, past_count, on_timeline, time, timeline_time}
use Rattle.base_search.specs.Checks.{Hold}
use Rattle.model.specs.Table.{network_checks}
use Rattle.model.proofs.Accepted.{valid-network}
use Rattle.model.proofs.Limits.{counts}
use Rattle.model.proofs.Times.{timeline-time-at, on-timeline-mono}
use Rattle.model.specs.Flows.{row}
use Rattle.model.specs.Calls.{written}
use Rattle.model.specs.Report.{boundary_numbers}
use Rattle.model.proofs.Rows.{length-row, length-written, written_row}
use Rattle.network_tables.specs.declared.Counts.{Counts}
use Rattle.network_tables.specs.Tables.{CountsHold, TimeTable}
use Rattle.plancheck_report.specs.Boundaries.{ledger_numbers, plan_time, TimeAsked, boundary_texts}

module _ (network plan : List Line) (old : List ℕ) (m : ℕ) (long : 2 * m * link_count network ≤ length old) where
  row_read : (n : ℕ) → n < m → take (2 * link_count network) (drop (2 * n * link_count network) (written network plan old m)) ≡ row network plan n
  row_read n h =
      let w = length-written network plan old m long in
      let d = length-drop (2 * n * link_count network) (written network plan old m) in
      let s = mul-le-mul_right (2 * link_count network) h in
      let t = length-take-le (2 * link_count network) (drop (2 * n * link_count network) (written network plan old m)) (omega arith) in
      ext_get_or 0 _ _ (t ∙ sym (length-row network plan n))
      (λ k l. get_or-take (2 * link_count network) _ k 0 (omega arith) ∙ get_or-drop (2 * n * link_count network) _ k 0 ∙ written_row network plan old m n k h (omega arith))

  -- the `B` records, read from the ledger, are the model's
  pub rows-printed : record_texts 66 m (ledger_numbers (link_count network) (time network) (written network plan old m)) ≡ record_texts 66 m (boundary_numbers network plan)
  unfolding ledger_numbers boundary_numbers
  rows-printed = records-same 66 _ _ m (λ n l. ap (λ r. n ∷ time network n ∷ r) (row_read n l))

-- by the counts and times of a network's reading they are those of its text
module _ {network : List Line} {counted : Counts} {times : List ℕ} (c : CountsHold network counted) (t : TimeTable network times) where
  at-boundary : (n : ℕ) → n ≤ step_count network → get_or times (counted.past + n) 0 ≡ timeline_time network (past_count network) + time network n
  unfolding on_timeline
  at-boundary n h =
      let e : counted.past + n ≡ on_timeline network n = omega (arith, c.past) in
      rw e (t.holds (on_timeline network n) (on-timeline-mono network n (step_count network) h) ∙ timeline-time-at network n)

  at-past : get_or times counted.past 0 ≡ timeline_time network (past_count network)
  unfolding on_timeline
  at-past = rw c.past (t.holds (past_count network) (omega arith))

  time-is : (n : ℕ) → n ≤ step_count network → plan_time counted times n ≡ time network n
  time-is n h = omega (arith, at-past, at-boundary n h)

  pub time-asked : Hold (network_checks network) → (n : ℕ) → n ≤ counted.steps → TimeAsked counted times n
  time-asked holds n h =
      record {
        few = omega (arith, c.past, c.steps, (counts network (valid-network network holds)).together);
        size = t.size;
        since = omega (arith, at-past, at-boundary n (omega (arith, c.steps)));
      }

  pub texts-same : (ledger : List ℕ) → boundary_texts counted times ledger ≡ record_texts 66 (suc (step_count network)) (ledger_numbers (link_count network) (time network) ledger)
  unfolding ledger_numbers
  texts-same ledger =
      let same = records-same 66 _ _ (suc (step_count network)) (λ n h. ap (λ x. n ∷ x ∷ take (2 * link_count network) (drop (2 * n * link_count network) ledger)) (time-is n (omega arith))) in
      ap₂ (λ steps links. record_texts 66 (suc steps) (ledger_numbers links (plan_time counted times) ledger)) c.steps c.links ∙ same
