-- The returns of the function that reads the `N` line, each in the form of a need.
use Rattle.base_laws.proofs.Kit.{ℕ, ◌<◌, ◌≡◌, sym, ap, ◌∙◌, Bool, true, false, not, List, arith, leb-true, not-true, not-false, get_or}
use Rattle.base_search.specs.declared.Refusal.{Refusal}
use Rattle.base_search.specs.Checks.{refusal}
use Rattle.text_reader.specs.Lines.{lines}
use Rattle.text_reader.proofs.Laws.{starts_first}
use Rattle.base_laws.specs.Test.{within}
use Rattle.model.specs.Network.{entry, link_count, signal_count, movement_count, step_count, tram_count, past_count, tram_line}
use Rattle.model.specs.Rules.{valid_counts}
use Rattle.model.specs.Table.{letter_n, count_checks}
use Rattle.base_laws.proofs.Tests.{and_left, and_right}
use Rattle.network_tables.specs.declared.Counts.{Counts}
use Rattle.network_tables.specs.Rows.{RowRead}
use Rattle.network_tables.specs.Tables.{Judged, CountsHold}
use Rattle.network_tables.proofs.Blocks.{line-malformed, line-invalid, line-valid}
use Rattle.network_tables.proofs.Stages.{judged-refused, judged-passed}
use Rattle.network_tables.specs.Fields.{count_fields, counts_by}
use Rattle.network_signals.specs.Counts.{valid_counts_in, CountsHeld}
use Rattle.std.specs.Prelude.{Option, Some, None, Ok, Err}

module _ {text old fields : List ℕ} {r : (Option ℕ)} (row : RowRead letter_n count_fields text 0 old r fields) where
  pub counts-malformed : r ≡ None → {q : Refusal} → q ≡ refusal 1 1 0 → Judged (count_checks (lines text)) (CountsHeld text) (Err q)
  unfolding count_checks
  counts-malformed e t = rw t (judged-refused (line-malformed row 0 2 0 (valid_counts (lines text)) (starts_first text) e))

  module _ {next : ℕ} (e : r ≡ Some next) {counts : Counts} (c : counts ≡ counts_by (λ k. get_or fields k 0)) {v : Bool} (told : v ≡ valid_counts_in counts) where
    number_at : (k : ℕ) → k < count_fields → get_or fields k 0 ≡ entry (lines text) 0 k
    number_at k h = (row.held next e 0 (starts_first text)).numbers k h

    judged : v ≡ valid_counts (lines text)
    unfolding valid_counts_in valid_counts link_count signal_count movement_count step_count tram_count past_count
    judged =
        told ∙ rw (c, number_at 0 (omega arith), number_at 1 (omega arith), number_at 2 (omega arith), number_at 3 (omega arith), number_at 4 (omega arith), number_at 5 (omega arith))

    pub counts-invalid : not v ≡ true → {q : Refusal} → q ≡ refusal 2 1 0 → Judged (count_checks (lines text)) (CountsHeld text) (Err q)
    unfolding count_checks
    counts-invalid n t =
        rw t (judged-refused (line-invalid row 0 2 0 (valid_counts (lines text)) (starts_first text) e (sym judged ∙ not-true v n)))

    held : valid_counts_in counts ≡ true → CountsHold (lines text) counts
    unfolding valid_counts_in within
    held w =
        let links : counts.links ≡ link_count (lines text) = ap (λ (c : Counts). c.links) c ∙ unfold link_count in number_at 0 (omega arith) in
        let signals : counts.signals ≡ signal_count (lines text) = ap (λ (c : Counts). c.signals) c ∙ unfold signal_count in number_at 1 (omega arith) in
        let movements : counts.movements ≡ movement_count (lines text) = ap (λ (c : Counts). c.movements) c ∙ unfold movement_count in number_at 2 (omega arith) in
        let steps : counts.steps ≡ step_count (lines text) = ap (λ (c : Counts). c.steps) c ∙ unfold step_count in number_at 3 (omega arith) in
        let trams : counts.trams ≡ tram_count (lines text) = ap (λ (c : Counts). c.trams) c ∙ unfold tram_count in number_at 4 (omega arith) in
        let past : counts.past ≡ past_count (lines text) = ap (λ (c : Counts). c.past) c ∙ unfold past_count in number_at 5 (omega arith) in
        search (leb-true, and_left, and_right) depth 12

    pub counts-passed : not v ≡ false
        → Judged (count_checks (lines text)) (CountsHeld text) (Ok (record { counts = counts; next = next; trams_at = next; past_at = next; steps_at = next; shortest = 0; timed = false }))
    unfolding count_checks tram_line
    counts-passed n =
        let w = sym judged ∙ not-false v n in
        judged-passed (line-valid row 0 2 0 (valid_counts (lines text)) (starts_first text) e w)
        (record {
          counted = held (sym told ∙ not-false v n);
          starts = (row.held next e 0 (starts_first text)).starts;
          trams-start = (row.held next e 0 (starts_first text)).starts;
        })
