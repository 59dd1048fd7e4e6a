-- `plancheck_report::write_not_read` meets its contract.
use Rattle.std.proofs.Common.{rules}
use Rattle.model.specs.Report.{not_read}
use Rattle.text_writer.proofs.Laws.{record-fits}
use Rattle.plancheck_report.proofs.write_not_read.Goals as goal

pub write_record-requires : goal.write_record-requires
write_record-requires c = record-fits _ _ _ _ (search rules)

pub returns : goal.returns
unfolding not_read
returns c = rw c.number.ensures at c.write_record.ensures
