-- `network_writer::write_measured` meets its contract.
use Rattle.std.proofs.Common.{rules}
use Rattle.network_writer.proofs.Texts.{told-short, told-whole}
use Rattle.network_writer.proofs.write_measured.Goals as goal

pub returns-then-out-length : goal.returns-then-out-length
returns-then-out-length g c = λ text puts. let measured = puts _ _ _ c.put-length.ensures in search (told-short, rules)

pub returns : goal.returns
returns g c = λ text puts. told-whole (puts _ _ _ c.put-length.ensures) _ c.if-out-length.false (puts _ _ _ c.put.ensures)
