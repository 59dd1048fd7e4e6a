-- `sheet_check::check_on_network` meets its contract.
use Rattle.std.proofs.Common.{rules}
use Rattle.base_search.proofs.Laws.{passed_on}
use Rattle.sheet_check.proofs.Call.{read_asked, sheet-refused, plan-refused, pass-asked, runs-kept, runs-broken}
use Rattle.sheet_check.proofs.check_on_network.Goals as goal

pub read_sheet-requires : goal.read_sheet-requires
read_sheet-requires c = read_asked c.args.tables.now c.requires.tabled (search rules)

pub returns-in_err-read_sheet : goal.returns-in_err-read_sheet
returns-in_err-read_sheet c = rw (passed_on _ _ c.from_residual.ensures.1) (sheet-refused c.args.tables.now c.requires.tabled c.read_sheet.ensures c.in_err-read_sheet.was)

pub returns-in_err-totals : goal.returns-in_err-totals
returns-in_err-totals c = rw (passed_on _ _ c.from_residual-in_err-totals.ensures.1)
    (plan-refused c.args.tables.now c.requires.tabled c.read_sheet.ensures c.in_ok-read_sheet.was c.judge_loaded.ensures c.in_err-totals.was)

pub pass_plan-requires : goal.pass_plan-requires
pass_plan-requires c = pass-asked c.args.tables.now c.requires.tabled c.read_sheet.ensures c.in_ok-read_sheet.was c.judge_loaded.ensures c.in_ok-totals.was

pub returns-in_err-pass_plan : goal.returns-in_err-pass_plan
returns-in_err-pass_plan c = rw (passed_on _ _ c.from_residual-in_err-pass_plan.ensures.1)
    (runs-broken c.args.tables.now c.requires.tabled c.read_sheet.ensures c.in_ok-read_sheet.was c.judge_loaded.ensures c.in_ok-totals.was c.pass_plan.ensures c.in_err-pass_plan.was)

pub returns : goal.returns
returns c = runs-kept c.args.tables.now c.requires.tabled c.read_sheet.ensures c.in_ok-read_sheet.was c.judge_loaded.ensures c.in_ok-totals.was c.pass_plan.ensures c.in_ok-pass_plan.was
