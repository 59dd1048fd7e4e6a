-- `plancheck_report::write_report` meets its contract.
use Rattle.plancheck_report.proofs.Report.{refused-wrote, padding-too}
use Rattle.plancheck_report.proofs.write_report.Goals as goal

pub write_judged-requires-clause-loaded : goal.write_judged-requires-clause-loaded
write_judged-requires-clause-loaded c = (c.read_start-read.ensures.held _ c.in-Ok.is).loaded

pub returns-in-Err : goal.returns-in-Err
returns-in-Err c =
    let (wrote, padding) = padding-too c.args.network.now c.args.plan.now (refused-wrote c.args.network.now c.args.plan.now c.read_start-read.ensures c.in-Err.is c.write_refusal.ensures) in
    record { wrote = wrote; padding_ignored = padding }

pub returns-in-Ok : goal.returns-in-Ok
returns-in-Ok c =
    let same = (c.read_start-read.ensures.held _ c.in-Ok.is).same-text in
    let (wrote, padding) = padding-too c.args.network.now c.args.plan.now (rw same at c.write_judged.ensures) in
    record { wrote = wrote; padding_ignored = padding }
