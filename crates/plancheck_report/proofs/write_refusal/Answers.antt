-- `plancheck_report::write_refusal` meets its contract.
use Rattle.std.proofs.Common.{rules}
use Rattle.text_writer.proofs.Laws.{record-fits}
use Rattle.plancheck_report.proofs.write_refusal.Goals as goal

pub write_record-requires : goal.write_record-requires
write_record-requires c = record-fits _ _ _ _ (search rules)
