-- `plancheck_c::plancheck_check_network` meets its contract.
use Rattle.base_laws.proofs.Kit.{ap, ◌∙◌}
use Rattle.plancheck_c.specs.Results.{verdict_result}
use Rattle.plancheck_c.proofs.Numbers.{network-tells}
use Rattle.plancheck_c.proofs.plancheck_check_network.Goals as goal

pub returns : goal.returns
returns c =
    let got = c.check_network.ensures in
    let told = c.into.ensures ∙ ap verdict_result got.value in
    record { value = told; number_tells = network-tells _ told; padding_ignored = λ padded same. c.into.ensures ∙ ap verdict_result (got.padding_ignored padded same) }
