-- `plancheck_report::write_answer` meets its contract, answer by answer.
use Rattle.plancheck_report.proofs.Answer.{accepted-told, refused-told}
use Rattle.plancheck_report.proofs.write_answer.Goals as goal

pub returns-in-Ok : goal.returns-in-Ok
returns-in-Ok c = accepted-told c.args.tables.now.reading.counts c.args.tables.now.times.now c.args.ledger.now c.in-Ok.is c.write_accepted.ensures

pub returns-in-Err : goal.returns-in-Err
returns-in-Err c = refused-told c.args.tables.now.reading.counts c.args.tables.now.times.now c.args.ledger.now c.in-Err.is c.write_refusal.ensures
