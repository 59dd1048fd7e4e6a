-- `split::split_loaded` meets its contract.
use Rattle.base_search.proofs.Laws.{passed_on}
use Rattle.split.proofs.Splitting.{number-asked, judged-refused, write-asked, all-judged}
use Rattle.split.proofs.split_loaded.Goals as goal

pub number_halves-requires : goal.number_halves-requires
number_halves-requires c = number-asked c.requires

pub returns-in_err-judge_halves-clause-got : goal.returns-in_err-judge_halves-clause-got
returns-in_err-judge_halves-clause-got c = rw (passed_on _ _ c.from_residual.ensures.1) (judged-refused c.requires _ c.number_halves.ensures.above c.number_halves.ensures.numbered c.judge_halves.ensures _ c.in_err-judge_halves.was)

pub write_halves-requires : goal.write_halves-requires
write_halves-requires c = write-asked c.requires _ c.number_halves.ensures.above c.number_halves.ensures.numbered c.judge_halves.ensures c.in_ok-judge_halves.was

pub returns-clause-got : goal.returns-clause-got
returns-clause-got c = all-judged c.requires _ c.number_halves.ensures.above c.number_halves.ensures.numbered c.judge_halves.ensures c.in_ok-judge_halves.was c.write_halves.ensures.written
