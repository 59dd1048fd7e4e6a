use Rattle.std.proofs.Common.{rules}
use Rattle.base_laws.proofs.Kit.{ℕ, ◌∙◌, append_assoc, refl, ap, arith, length, length-append}
use Rattle.text_writer.specs.Records.{record_text}
use Rattle.text_writer.specs.Writing.{Wrote}
use Rattle.text_writer.proofs.Laws.{fields_more, fields_all, put-behind, wrote-length}
use Rattle.text_writer.proofs.write_record.Goals as goal

pub loop-number-init : goal.loop-number-init
unfolding record_text
loop-number-init c =
    let w = c.write_byte.ensures.wrote in
    record {
      buffer = refl;
      long = wrote-length _ _ _ _ _ (omega arith) w;
      ends = omega (arith, w.ends, length-append {A = ℕ});
      completes = put-behind _ _ _ _ _ _ (omega arith) w;
    }

pub write_field-requires : goal.write_field-requires
write_field-requires c =
    let m = fields_more c.args.numbers.now c.loop-number.number-index c.loop-number-test.true in
    omega (arith, ap length m, length-append {A = ℕ})

pub loop-number-preserved : goal.loop-number-preserved
loop-number-preserved c =
    let kept = c.loop-number.invariant in
    let w = c.write_field.ensures.wrote in
    let m = fields_more c.args.numbers.now c.loop-number.number-index c.loop-number-test.true in
    record {
      buffer = c.write_field.ensures.buffer ∙ kept.buffer;
      long = wrote-length _ _ _ _ _ (omega (arith, ap length m, length-append {A = ℕ})) w ∙ kept.long;
      ends = omega (arith, w.ends, ap length m, length-append {A = ℕ});
      completes = put-behind _ _ _ _ _ _ (omega (arith, ap length m, length-append {A = ℕ})) w ∙ rw (← append_assoc, ← m) kept.completes;
    }

pub returns : goal.returns
returns c =
    let n = fields_all c.args.numbers.now c.loop-number.number-index c.loop-number-test.false in
    let w = c.write_byte-2.ensures.wrote in
    let written : Wrote (record_text c.args.letter c.args.numbers.now) c.args.at c.args.out.now c.write_byte-2.new.self.out.now c.write_byte-2.new.self.at =
    record { is = w.is ∙ rw n at c.loop-number.invariant.completes; ends = omega (arith, w.ends, ap length n) } in search rules
