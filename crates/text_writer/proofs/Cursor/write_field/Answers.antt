use Rattle.base_laws.proofs.Kit.{arith, ◌∙◌}
use Rattle.text_writer.specs.Records.{field_text}
use Rattle.text_writer.proofs.Laws.{wrote-length, wrote-more}
use Rattle.text_writer.proofs.Cursor.write_field.Goals as goal

pub write_number-requires : goal.write_number-requires
unfolding field_text
write_number-requires c = omega (arith, wrote-length _ _ _ _ _ (omega arith) c.write_byte.ensures.wrote, c.write_byte.ensures.wrote.ends)

pub returns : goal.returns
unfolding field_text
returns c =
    record {
      buffer = c.write_number.ensures.buffer ∙ c.write_byte.ensures.buffer;
      wrote = wrote-more _ _ _ _ _ _ _ _ (omega arith) c.write_byte.ensures.wrote c.write_number.ensures.wrote;
    }
