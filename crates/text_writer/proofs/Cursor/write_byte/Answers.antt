use Rattle.base_laws.proofs.Kit.{refl}
use Rattle.text_writer.proofs.Laws.{wrote-byte}
use Rattle.text_writer.proofs.Cursor.write_byte.Goals as goal

pub returns : goal.returns
returns c = record { buffer = refl; wrote = search wrote-byte }
