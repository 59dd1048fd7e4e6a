-- `split_text::put_signals` meets its contract.
use Rattle.model.specs.Table.{letter_g}
use Rattle.network_writer.specs.Put.{Put}
use Rattle.network_writer.specs.Texts.{line_texts}
use Rattle.model_split.specs.Numbering.{picked}
use Rattle.split_tables.specs.Whole.{whole_network}
use Rattle.split_tables.specs.Tables.{is_in}
use Rattle.split_text.specs.Rows.{half_signal_row}
use Rattle.split_text.proofs.put_signals.Given as goal

abbrev pub invariant-loop-r : goal.invariant-loop-r
invariant-loop-r l = Put l.r (line_texts letter_g (picked l.r (is_in l.half.signals) (half_signal_row (whole_network l.whole)))) l.initial.output l.output
