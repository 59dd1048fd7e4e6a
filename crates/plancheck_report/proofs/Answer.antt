-- The laws of writing an answer: `A` and the `B` records behind it, or `R`.
use Rattle.base_laws.proofs.Kit.{ℕ, suc, ◌≤◌, ◌≡◌, List, [], ◌∷◌, ◌++◌, arith, length}
use Rattle.base_search.specs.declared.Refusal.{Refusal}
use Rattle.text_writer.specs.Writing.{Wrote}
use Rattle.text_writer.proofs.Laws.{wrote-more, wrote-length, record-most, records-most}
use Rattle.model.specs.declared.Totals.{Totals}
use Rattle.network_tables.specs.declared.Counts.{Counts}
use Rattle.network_tables.specs.Places.{Few}
use Rattle.plancheck_report.specs.Boundaries.{ledger_numbers, plan_time, boundary_texts, RowsAsked}
use Rattle.plancheck_report.specs.Answer.{totals_size, totals_text, refusal_text, answer_text}
use Rattle.plancheck_report.proofs.Boundaries.{boundary-length}
use Rattle.std.specs.Prelude.{Result, Ok, Err}

texts-length : (counts : Counts) (times ledger : List ℕ) → Few counts → length (boundary_texts counts times ledger) ≤ 127_292
texts-length counts times ledger few =
    omega (arith, few.steps, records-most 66 (ledger_numbers counts.links (plan_time counts times) ledger) 1052 (suc counts.steps) (λ n. boundary-length counts.links (plan_time counts times) ledger n few.links))

module _ {counts : Counts} {times ledger old : List ℕ} (asked : RowsAsked old totals_size counts times ledger) (t : Totals) where
  totals-length : length (totals_text t) ≤ totals_size
  totals-length = omega (arith, record-most 65 (t.admitted ∷ t.let_out ∷ t.inside ∷ t.doubled_time ∷ []))

  module _ {mid : List ℕ} {next : ℕ} (a : Wrote (totals_text t) 0 old mid next) where
    -- the room behind the `A` record
    pub rows-asked : RowsAsked mid next counts times ledger
    rows-asked =
        let l = totals-length in
        let w = wrote-length (totals_text t) 0 old mid next (omega (arith, asked.room)) a in
        record { few = asked.few; timed = asked.timed; rows = asked.rows; room = omega (arith, a.ends, asked.room) }

    pub accepted-wrote : {new : List ℕ} {answer : ℕ} → Wrote (boundary_texts counts times ledger) next mid new answer
        → Wrote (totals_text t ++ boundary_texts counts times ledger) 0 old new answer
    accepted-wrote b =
        wrote-more (totals_text t) (boundary_texts counts times ledger) 0 old _ _ next _ (omega (arith, totals-length, texts-length counts times ledger asked.few, asked.room)) a b

-- ---- an answer that is known
module _ (counts : Counts) (times ledger : List ℕ) {old new : List ℕ} {answer : (Result Totals Refusal)} {r : ℕ} where
  pub accepted-told : {t : Totals} → answer ≡ Ok t
      → Wrote (totals_text t ++ boundary_texts counts times ledger) 0 old new r → Wrote (answer_text counts times answer ledger) 0 old new r
  unfolding answer_text
  accepted-told e w = rw e w

  pub refused-told : {x : Refusal} → answer ≡ Err x → Wrote (refusal_text x) 0 old new r → Wrote (answer_text counts times answer ledger) 0 old new r
  unfolding answer_text
  refused-told e w = rw e w
