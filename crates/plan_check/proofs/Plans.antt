-- The whole check of a plan.
use Rattle.base_laws.proofs.Kit.{ℕ, suc, ◌+◌, ◌*◌, ◌≤◌, ◌<◌, ◌≡◌, refl, sym, ap, ap₂, ◌∙◌, true, false, List, add-one, le-leb, lt-leb, leb, length}
use Rattle.base_search.specs.declared.Refusal.{Refusal}
use Rattle.base_search.specs.Checks.{refusal, verdict}
use Rattle.base_search.proofs.Laws.{passes-of-hold, or-else-passes, or-else-refused, checked-passes, checked_refused}
use Rattle.text_reader.specs.Lines.{Line, lines}
use Rattle.text_reader.specs.Padding.{PaddingIgnored}
use Rattle.text_reader.proofs.Padding.{same_lines}
use Rattle.model.specs.Network.{link_count, step_count}
use Rattle.model.specs.Table.{network_checks, ledger_checks, plan_line_checks, plan_checks}
use Rattle.model.specs.Hold.{plan_of, EmptyHolds}
use Rattle.model.specs.Calls.{plan_answer, check_plan, ledger_after}
use Rattle.model.specs.Guarantees.{RowDue, Promises}
use Rattle.model.proofs.Rows.{written_none}
use Rattle.model.proofs.Written.{refused-fails, rows_none}
use Rattle.model.proofs.Promises.{promises}
use Rattle.model.proofs.Hold.{empty_holds}
use Rattle.network_tables.specs.declared.NetworkTables.{NetworkTables}
use Rattle.network_tables.specs.declared.Reading.{Reading}
use Rattle.network.specs.declared.Start.{Start}
use Rattle.network.specs.Loading.{StartLoaded}
use Rattle.plan_steps.specs.Steps.{RunAsked, RunGot}
use Rattle.plan_check.specs.Plan.{PlanGot}
use Rattle.std.specs.Prelude.{Result, Ok, Err}
use Rattle.model.specs.declared.Totals.{Totals}

-- a refusal of the network, or of the ledger's length, writes nothing
early : (network plan : List Line) (old : List ℕ) (r : Refusal) → (RowDue network plan (length old) 0 → ⊥) → verdict (plan_checks network plan (length old)) ≡ Err r
    → (Err r ≡ check_plan network plan (length old)) × (old ≡ ledger_after network plan old)
unfolding check_plan plan_answer ledger_after
early network plan old r h v = (rw v, rw (rows_none network plan (length old) h) (sym (written_none network plan old)))

module _ (network plan : List Line) (size : ℕ) where
  ledger-refused : leb (2 * suc (step_count network) * link_count network) size ≡ false → verdict (ledger_checks network size) ≡ Err (refusal 8 0 0)
  unfolding verdict ledger_checks
  ledger-refused h = checked_refused _ 8 0 0 h

  module _ (valid : verdict (network_checks network) ≡ Ok tt) where
    -- the ledger is too short
    ledger-short : leb (2 * suc (step_count network) * link_count network) size ≡ false → verdict (plan_checks network plan size) ≡ Err (refusal 8 0 0)
    unfolding verdict plan_checks
    ledger-short h = or-else-passes _ _ valid ∙ or-else-refused _ _ _ (ledger-refused h)

    -- it is long enough: all that is left are the plan's lines
    plan-lines : leb (2 * suc (step_count network) * link_count network) size ≡ true → verdict (plan_checks network plan size) ≡ verdict (plan_line_checks network plan)
    unfolding verdict plan_checks ledger_checks
    plan-lines room = or-else-passes _ _ valid ∙ or-else-passes _ _ (checked-passes _ 8 0 0 room)

module _ (tables : NetworkTables) (plan_text : List ℕ) {start : Start} (old : List ℕ) (loaded : StartLoaded tables start) where
  abbrev network_text : List ℕ
  network_text = tables.text.now

  abbrev reading : Reading
  reading = tables.reading

  abbrev net : List Line
  net = lines network_text

  abbrev pln : List Line
  pln = plan_of network_text plan_text

  valid : verdict (network_checks net) ≡ Ok tt
  valid = passes-of-hold (network_checks net) loaded.tabled.holds

  needed : 2 * (reading.counts.steps + 1) * reading.counts.links ≡ 2 * suc (step_count net) * link_count net
  needed = ap₂ (λ s l. 2 * s * l) (add-one reading.counts.steps ∙ ap suc loaded.tabled.counted.steps) loaded.tabled.counted.links

  -- the ledger is too short
  pub plan-short : {room : ℕ} → room ≡ 2 * (reading.counts.steps + 1) * reading.counts.links → length old < room → PlanGot network_text plan_text old (Err (refusal 8 0 0)) old
  plan-short is-size h =
      let short = lt-leb _ _ (rw (is-size ∙ needed) at h) in
      let e = early net pln old (refusal 8 0 0) (λ d. refused-fails (ledger_checks net (length old)) (refusal 8 0 0) (ledger-refused net pln (length old) short) d.ledger-holds)
      (ledger-short net pln (length old) valid short) in
      record { answered = e.0; written-rows = e.1 }

  module _ {size : ℕ} (is-size : size ≡ 2 * (reading.counts.steps + 1) * reading.counts.links) (h : size ≤ length old) where
    room : 2 * suc (step_count net) * link_count net ≤ length old
    room = rw (is-size ∙ needed) at h

    pub run-asked : RunAsked tables start old
    run-asked = record { loaded = loaded; room = room }

    pub plan_run : {answer : (Result Totals Refusal)} {after : List ℕ} → RunGot network_text plan_text old answer after → PlanGot network_text plan_text old answer after
    plan_run got =
        let v = plan-lines net pln (length old) valid (le-leb _ _ room) in
        record {
          answered = got.answered ∙ ap (plan_answer net pln) (sym v) ∙ (unfold check_plan in refl);
          written-rows = got.rows;
        }

-- a network's refusal
planned : (network plan : List Line) (size : ℕ) (r : Refusal) → verdict (network_checks network) ≡ Err r → verdict (plan_checks network plan size) ≡ Err r
unfolding verdict plan_checks
planned network plan size r v = or-else-refused _ _ r v

pub plan-refused : (network_text plan_text old : List ℕ) {r : Refusal} → verdict (network_checks (lines network_text)) ≡ Err r → PlanGot network_text plan_text old (Err r) old
plan-refused network_text plan_text old {r} v =
    let net = lines network_text in
    let p = early net (plan_of network_text plan_text) old r (λ d. refused-fails (network_checks net) r v d.network-holds) (planned net (plan_of network_text plan_text) (length old) r v) in
    record { answered = p.0; written-rows = p.1 }

pub plan-promised : {network_text plan_text old : List ℕ} {answer : (Result Totals Refusal)} {ledger : List ℕ} → PlanGot network_text plan_text old answer ledger
    → (answer ≡ check_plan (lines network_text) (plan_of network_text plan_text) (length old)) × ((ledger ≡ ledger_after (lines network_text) (plan_of network_text plan_text) old)
    × (Promises (lines network_text) (plan_of network_text plan_text) old ledger answer
    × (EmptyHolds network_text plan_text old ledger answer
    × PaddingIgnored network_text (λ padded_network. PaddingIgnored plan_text (λ padded_plan. PlanGot padded_network padded_plan old answer ledger)))))
plan-promised {network_text} {plan_text} {old} got = (
  got.answered,
  (
    got.written-rows,
    (
      rw (got.answered, got.written-rows) (promises (lines network_text) (plan_of network_text plan_text) old),
      (
        empty_holds network_text plan_text old got.answered got.written-rows,
        λ padded_network n padded_plan p.
            let one = same_lines network_text padded_network n in
            let other = same_lines plan_text padded_plan p in
            record { answered = got.answered ∙ rw (one, other); written-rows = got.written-rows ∙ rw (one, other) },
      ),
    ),
  ),
)
