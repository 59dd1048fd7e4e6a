-- What the call promises beside the theorem: what it wrote, and that the number of a refusal is one that can arise.
use Rattle.base_laws.proofs.Kit.{◌≡◌, refl, sym, ap, ◌∙◌, List, ℕ, length, take}
use Rattle.base_search.specs.declared.Refusal.{Refusal}
use Rattle.base_search.specs.Checks.{verdict}
use Rattle.base_search.specs.Numbers.{is_one_of}
use Rattle.base_search.proofs.Numbers.{Numbered, refused-number, all_of}
use Rattle.text_reader.specs.Lines.{Line, lines}
use Rattle.model.specs.Table.{network_checks}
use Rattle.model.specs.Calls.{check_network}
use Rattle.model.proofs.Numbers.{network-among, plan-among}
use Rattle.model_text.proofs.Answers.{passes-of-written, refused-of-answer, text_of, kept_of}
use Rattle.model_carry.specs.Part.{cut, carried_text}
use Rattle.model_carry.specs.Call.{boundary_checks, carry_numbers, carry_checks, carry_on, carry_ledger, carry_buffer}
use Rattle.model_carry.specs.CarriesOn.{CarriedOn}
use Rattle.model_carry.proofs.CarriesOn.{carries-on}
use Rattle.std.specs.Prelude.{Result, Ok, Err}

module _ (network plan : List Line) (b size room : ℕ) where
  pub carry-numbered : Numbered carry_numbers (carry_checks network plan b size room)
  unfolding Numbered is_one_of all_of carry_checks boundary_checks
  carry-numbered = ((network-among network carry_numbers refl, refl), (plan-among (cut network b) plan size carry_numbers refl, refl))

-- an answer, a ledger and a buffer that are those of the definitions
pub carried_on : (network plan : List Line) (b : ℕ) (ledger buffer : List ℕ) {ledger_after buffer_after : List ℕ} {answer : (Result ℕ Refusal)}
    → answer ≡ carry_on network plan b (length ledger) (length buffer) → ledger_after ≡ carry_ledger network plan b ledger → buffer_after ≡ carry_buffer network plan b (length ledger) buffer
    → CarriedOn network plan b ledger ledger_after buffer buffer_after answer
unfolding carry_on check_network carry_buffer
carried_on network plan b ledger buffer {buffer_after = after} {answer = answer} told rows holds =
    record {
      told = told;
      rows = rows;
      holds = holds;
      written = written;
      written-valid = λ end e.
          ap (λ t. verdict (network_checks (lines t))) (written end e)
          ∙ (carries-on network).valid plan b (length ledger) (length buffer) (passes-of-written (carried_text network plan b) _ end (sym told ∙ e)).0;
      untouched = λ r e. holds ∙ kept_of (carried_text network plan b) _ buffer r (refused r e);
      carries-on = carries-on network;
      refused-number = λ r e. refused-number carry_numbers _ r (carry-numbered network plan b (length ledger) (length buffer)) (refused r e);
    }
  where
    refused : (r : Refusal) → answer ≡ Err r → verdict (carry_checks network plan b (length ledger) (length buffer)) ≡ Err r
    refused r e = refused-of-answer (carried_text network plan b) _ r (sym told ∙ e)

    written : (end : ℕ) → answer ≡ Ok end → take end after ≡ carried_text network plan b
    written end e =
        let w = passes-of-written (carried_text network plan b) _ end (sym told ∙ e) in
        rw (holds, w.1) (text_of (carried_text network plan b) _ buffer w.0)
