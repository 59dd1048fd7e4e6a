-- `plancheck_c::plancheck_link_state` meets its contract.
use Rattle.base_laws.proofs.Kit.{ap, ◌∙◌}
use Rattle.plancheck_c.specs.Results.{link_result}
use Rattle.plancheck_c.proofs.Numbers.{link-tells}
use Rattle.plancheck_c.proofs.plancheck_link_state.Goals as goal

pub returns : goal.returns
returns c =
    let got = c.link_state.ensures in
    let is = c.into.ensures in
    let told = is ∙ ap link_result got.value in
    record { value = told; number_tells = link-tells _ _ _ _ told; padding_ignored = λ padded same. is ∙ ap link_result (got.padding_ignored padded same) }
