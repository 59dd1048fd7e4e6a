-- What a call gives: a refusal of one of its checks, or the step.
use Rattle.std.specs.Prelude.{Ok, Err}
use Rattle.base_laws.proofs.Kit.{◌≡◌, refl, ◌∙◌, sym, ◌&&◌, List, eqb-true, leb, length, true}
use lib.Ieee.{Float}
use Rattle.base_search.specs.declared.Refusal.{Refusal}
use Rattle.base_search.specs.Checks.{verdict, checked, Verdict}
use Rattle.base_search.specs.Numbers.{is_one_of}
use Rattle.base_search.proofs.Laws.{checked-true, or-else-refused, or-else-passes}
use Rattle.base_search.proofs.Numbers.{Numbered, refused-number}
use Rattle.base_laws.specs.Indexed.{list}
use Rattle.base_laws.proofs.Bools.{and_right, zero_one}
use Rattle.traces.specs.Step.{place_after}
use Rattle.traces.specs.Call.{vehicles_numbers, valid_counts, valid_values, step_checks, step_vehicles, places_by, places_after}
use Rattle.traces.specs.Guarantees.{StepKeeps}
use Rattle.traces.proofs.Guarantees.{valid-of, keeps}

module _ (places advances lines : List Float) (spacing : Float) where
  -- all that the call promises of its answer and of the places after it
  pub record Done (answer : Verdict) (after : List Float) : Type 0 where
    pub value : answer ≡ step_vehicles places advances lines spacing
    pub places_after : after ≡ places_after places advances lines spacing
    pub step_keeps : StepKeeps places advances lines spacing answer after

  numbered : Numbered vehicles_numbers (step_checks places advances lines spacing)
  unfolding Numbered is_one_of step_checks
  numbered = (refl, refl)

  -- a refused step: no vehicle has moved
  stopped : (answer : Verdict) (r : Refusal) → answer ≡ Err r → step_vehicles places advances lines spacing ≡ Err r → Done answer places
  unfolding places_after places_by step_vehicles
  stopped answer r e s =
      record {
        value = e ∙ sym s;
        places_after = rw s;
        step_keeps =
            record {
              stepped = λ p. zero_one (cc);
              unchanged = λ q f. refl;
              refused-number = λ q f. refused-number vehicles_numbers (step_checks places advances lines spacing) q numbered (s ∙ sym e ∙ f);
            };
      }

  module _ (first : Verdict) (counts : first ≡ checked (valid_counts places advances lines) 39 0 0) where
    pub counts-stop : (answer : Verdict) (r : Refusal) → answer ≡ Err r → first ≡ Err r → Done answer places
    unfolding step_vehicles step_checks verdict
    counts-stop answer r e f = stopped answer r e (or-else-refused _ _ r (sym counts ∙ f))

    module _ (passed : first ≡ Ok tt) where
      counted : valid_counts places advances lines ≡ true
      counted = checked-true (valid_counts places advances lines) 39 0 0 (sym counts ∙ passed)

      pub one-advance-each : length advances ≡ length places
      unfolding valid_counts
      one-advance-each =
          eqb-true (length advances) (length places) (and_right (leb (length places) 64 && leb (length lines) 64) _ counted)

      module _ (second : Verdict) (values : second ≡ checked (valid_values places advances lines spacing) 38 0 0) where
        answer-is : step_vehicles places advances lines spacing ≡ second
        unfolding step_vehicles step_checks verdict
        answer-is = or-else-passes _ _ (sym counts ∙ passed) ∙ sym values

        pub values-stop : (answer : Verdict) (r : Refusal) → answer ≡ Err r → second ≡ Err r → Done answer places
        values-stop answer r e f = stopped answer r e (answer-is ∙ f)

        pub all-stepped : (after : List Float) → second ≡ Ok tt → after ≡ list (length places) (place_after places advances lines spacing) → Done (Ok tt) after
        unfolding places_after places_by
        all-stepped after p e =
            let valued = checked-true (valid_values places advances lines spacing) 38 0 0 (sym values ∙ p) in
            record {
              value = sym (answer-is ∙ p);
              places_after = e ∙ rw (answer-is ∙ p);
              step_keeps =
                  record {
                    stepped = λ _. rw e (keeps places advances lines spacing (valid-of places advances lines spacing counted valued));
                    unchanged = λ r f. zero_one (cc);
                    refused-number = λ r f. zero_one (cc);
                  };
            }
