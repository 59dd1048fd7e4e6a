use Rattle.std.proofs.Common.{◌≡◌, ◌+◌, rules, arith, length, sum_by}
use Rattle.text_writer.specs.Records.{numeral}
use Rattle.text_writer.proofs.Laws.{fields_fit, fields_sum, record_is}
use Rattle.text_writer.proofs.record_length.Goals as goal

summed : (c : goal.After-sum) → c.sum.result ≡ sum_by (λ n. 1 + length (numeral 19 n)) c.args.numbers.now
summed c = search rules

pub sum-requires-clause-fits : goal.sum-requires-clause-fits
sum-requires-clause-fits c = let f = fields_fit c.args.numbers.now c.requires in search rules

pub overflow_add-result : goal.overflow_add-result
overflow_add-result c = omega (arith, summed c, fields_fit c.args.numbers.now c.requires)

pub returns : goal.returns
returns c = λ letter. omega (arith, summed c, fields_sum c.args.numbers.now, record_is letter c.args.numbers.now)
