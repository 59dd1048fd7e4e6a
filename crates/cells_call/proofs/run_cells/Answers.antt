-- `cells_call::run_cells` meets its contract.
use Rattle.std.proofs.Common.{rules, ap, ◌∙◌}
use Rattle.text_reader.specs.Lines.{lines}
use Rattle.text_reader.proofs.Padding.{same_lines}
use Rattle.cells_call.specs.Call.{run_cells}
use Rattle.cells_call.proofs.Guarantees.{run-keeps, volumes-told}
use Rattle.cells_call.proofs.Calls.{run-refused, loaded-ready, run-loaded}
use Rattle.cells_call.proofs.run_cells.Goals as goal

pub returns-in_err-corridor-clause-answer_value : goal.returns-in_err-corridor-clause-answer_value
returns-in_err-corridor-clause-answer_value c = search (run-refused, rules)

pub returns-in_err-corridor-clause-run_keeps : goal.returns-in_err-corridor-clause-run_keeps
returns-in_err-corridor-clause-run_keeps c = rw (returns-in_err-corridor-clause-answer_value c) (run-keeps _)

pub returns-in_err-corridor-clause-padding_ignored : goal.returns-in_err-corridor-clause-padding_ignored
returns-in_err-corridor-clause-padding_ignored c padded same = returns-in_err-corridor-clause-answer_value c ∙ ap run_cells (same_lines c.args.text.now padded same)

pub run_steps-passed-requires-clause-ready : goal.run_steps-passed-requires-clause-ready
run_steps-passed-requires-clause-ready c = loaded-ready c.in_ok-corridor.ensures.ok

pub returns-clause-answer_value : goal.returns-clause-answer_value
returns-clause-answer_value c = run-loaded c.in_ok-corridor.ensures.ok c.run_steps-passed.ensures

pub returns-clause-volumes_value : goal.returns-clause-volumes_value
returns-clause-volumes_value c = let v = volumes-told (lines c.args.text.now) in let e = returns-clause-answer_value c in rw (← e) at v

pub returns-clause-run_keeps : goal.returns-clause-run_keeps
returns-clause-run_keeps c = rw (returns-clause-answer_value c) (run-keeps _)

pub returns-clause-padding_ignored : goal.returns-clause-padding_ignored
returns-clause-padding_ignored c padded same = returns-clause-answer_value c ∙ ap run_cells (same_lines c.args.text.now padded same)
