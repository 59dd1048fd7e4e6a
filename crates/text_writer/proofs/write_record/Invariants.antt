use Rattle.base_laws.proofs.Kit.{◌≡◌, ◌+◌, ◌++◌, ◌∷◌, [], drop, length}
use Rattle.text_writer.specs.Records.{field_texts, record_text}
use Rattle.text_writer.specs.Writing.{put_at}
use Rattle.text_writer.proofs.write_record.Given as goal

-- the fields still to come complete the record
abbrev pub invariant-loop-number : goal.invariant-loop-number
invariant-loop-number l =
    record {
      buffer : l.cursor.out.ghost_name ≡ l.initial.cursor.out.ghost_name;
      long : length l.cursor.out.now ≡ length l.fn.out;
      ends : l.cursor.at + length (field_texts (drop l.number-index l.numbers)) + 1 ≡ l.at + length (record_text l.letter l.numbers);
      completes : put_at l.cursor.at (field_texts (drop l.number-index l.numbers) ++ (10 ∷ [])) l.cursor.out.now ≡ put_at l.at (record_text l.letter l.numbers) l.fn.out;
    }
