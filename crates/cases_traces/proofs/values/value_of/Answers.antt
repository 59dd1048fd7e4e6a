-- `cases_traces::values::value_of` meets its contract.
use Rattle.std.proofs.Common.{rules}
use Rattle.cases_traces.proofs.Laws.{no-nan-of-bits, nan-of-bits}
use Rattle.cases_traces.proofs.values.value_of.Goals as goal

pub float_from_bits-result : goal.float_from_bits-result
float_from_bits-result c = let h = no-nan-of-bits _ c.if-bits-gt-INFINITY.false in search rules

pub returns-then-bits-gt-INFINITY : goal.returns-then-bits-gt-INFINITY
returns-then-bits-gt-INFINITY c = nan-of-bits c.args.bits c.if-bits-gt-INFINITY.true
