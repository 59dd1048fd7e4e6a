-- `text_writer::digit_count` meets its contract.
use Rattle.base_laws.proofs.Kit.{arith}
use Rattle.text_writer.proofs.Laws.{numeral_count}
use Rattle.text_writer.proofs.digit_count.Goals as goal

pub returns-then-value-lt10-clause-count : goal.returns-then-value-lt10-clause-count
returns-then-value-lt10-clause-count c = numeral_count 19 0 c.args.value (omega arith) (omega arith) (omega arith)
