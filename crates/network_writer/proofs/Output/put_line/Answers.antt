-- `network_writer::Output::put_line` meets its contract.
use Rattle.base_laws.proofs.Kit.{arith, refl}
use Rattle.network_writer.proofs.Put.{line-few, line-short, line-wrote}
use Rattle.network_writer.proofs.Output.put_line.Goals as goal
use Rattle.network_writer.proofs.Output.put_line.Goals.{then-end-self, else-end-self}

pub overflow_add-end : goal.overflow_add-end
overflow_add-end c = omega (arith, line-few c.widen.ensures c.requires.0 c.record_length.ensures)

pub returns : goal.returns
returns c =
    elim c.if-end-self.branch [
      | then-end-self w ↦
          rw w.self-is (line-wrote c.widen.ensures c.requires.0 c.record_length.ensures c.args.letter refl refl w.if-end-self.true w.write_record.ensures)
      | else-end-self w ↦
          rw w.self-is (line-short c.widen.ensures c.requires.0 c.record_length.ensures c.args.letter refl refl w.if-end-self.false refl)
    ]
