-- `cases_traces::values::bits_of` meets its contract.
use Rattle.std.proofs.Common.{sym, ◌∙◌}
use Rattle.cases_traces.proofs.Laws.{bits_of_nan}
use Rattle.cases_traces.proofs.values.bits_of.Goals as goal

pub returns-then-is_nan : goal.returns-then-is_nan
returns-then-is_nan c = bits_of_nan _ (sym c.is_nan.ensures.value ∙ c.if-is_nan.true)
