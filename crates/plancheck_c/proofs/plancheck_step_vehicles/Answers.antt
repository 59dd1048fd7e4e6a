-- `plancheck_c::plancheck_step_vehicles` meets its contract.
use Rattle.base_laws.proofs.Kit.{List, ◌≡◌, ap, ◌∙◌}
use Rattle.traces.specs.Guarantees.{StepKeeps}
use Rattle.plancheck_c.specs.Results.{verdict_result, verdict_of}
use Rattle.plancheck_c.proofs.Numbers.{vehicles-tells}
use Rattle.plancheck_c.proofs.Read.{read-as, verdict-back}
use Rattle.plancheck_c.specs.declared.NetworkResult.{NetworkResult}
use lib.Ieee.{Float}
use Rattle.plancheck_c.proofs.plancheck_step_vehicles.Goals as goal
use Rattle.base_search.specs.Checks.{Verdict}

-- what a step keeps holds of the verdict that its result is read as
module _ (v : Verdict) (r : NetworkResult) (is : r ≡ verdict_result v) where
  kept : {places advances lines after : List Float} {spacing : Float} → StepKeeps places advances lines spacing v after → StepKeeps places advances lines spacing (verdict_of r) after
  kept {places} {advances} {lines} {after} {spacing} k = read-as verdict_of (λ (x : Verdict). StepKeeps places advances lines spacing x after) is (verdict-back v k.refused-number) k

pub returns : goal.returns
returns c =
    let e = c.step_vehicles.ensures in
    let is = c.into.ensures in
    let told = is ∙ ap verdict_result e.value in
    record { value = told; places_after = e.places_after; step_keeps = kept _ _ is e.step_keeps; number_tells = vehicles-tells _ _ _ _ told }
