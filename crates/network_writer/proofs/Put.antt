-- Lines that are put one behind another.
use Rattle.base_laws.proofs.Kit.{ℕ, suc, ◌+◌, ◌≤◌, ◌<◌, ◌≡◌, refl, sym, ap, ap₂, ◌∙◌, List, [], ◌++◌, add-one, arith, length, length-append, take-append-drop}
use Rattle.text_writer.specs.Records.{record_text, record_texts}
use Rattle.text_writer.specs.Writing.{put_at, Wrote}
use Rattle.text_writer.proofs.Laws.{put-more, wrote-length, record-most}
use Rattle.network_tables.specs.Fields.{line_size}
use Rattle.network_writer.specs.declared.Output.{Output}
use Rattle.network_writer.specs.Put.{longest, Put}

pub put-none : (output : Output) → Put 0 [] output output
unfolding put_at
put-none output =
    record {
      buffer = refl;
      ends = omega arith;
      few = omega arith;
      size = refl;
      is = λ h. let e : output.at + 0 ≡ output.at = omega arith in rw e (sym (take-append-drop output.at output.out.now));
    }

pub puts-more : {m n : ℕ} {a b : List ℕ} {old mid new : Output} → Put m a old mid → Put n b mid new → Put (m + n) (a ++ b) old new
puts-more {a = a} {b = b} {old = old} p q =
    record {
      buffer = q.buffer ∙ p.buffer;
      ends = omega (arith, p.ends, q.ends, length-append a b);
      few = omega (arith, p.few, q.few, length-append a b);
      size = q.size ∙ p.size;
      is = λ h.
          q.is (omega (arith, p.size)) ∙ ap₂ (λ x (y : List ℕ). put_at x b y) p.ends (p.is (omega (arith, q.ends)))
          ∙ put-more old.at old.out.now a b (omega (arith, p.ends, q.ends));
    }

-- ---- lines of one letter
module _ (letter : ℕ) (f : ℕ → List ℕ) where
  pub lines_none : (output : Output) → Put 0 (record_texts letter 0 f) output output
  unfolding record_texts
  lines_none output = put-none output

  pub lines_more : {k : ℕ} {old mid new : Output} → Put k (record_texts letter k f) old mid → Put 1 (record_text letter (f k)) mid new
      → Put (k + 1) (record_texts letter (k + 1) f) old new
  unfolding record_texts
  lines_more {k} p q = let e : k + 1 ≡ suc k = add-one k in let w = puts-more p q in rw e (rw e at w)

-- of `count` lines of one letter the first k are put
pub record LinesTo (letter : ℕ) (f : ℕ → List ℕ) (count : ℕ) (old now : Output) (k : ℕ) : Type 0 where
  pub few : k ≤ count
  pub put : Put k (record_texts letter k f) old now

module _ {letter : ℕ} {f : ℕ → List ℕ} {count : ℕ} {old : Output} where
  pub rows_none : LinesTo letter f count old old 0
  rows_none = record { few = omega arith; put = lines_none letter f old }

  module _ {now : Output} {k : ℕ} (t : LinesTo letter f count old now k) where
    pub rows_next : k < count → {new : Output} → Put 1 (record_text letter (f k)) now new → LinesTo letter f count old new (k + 1)
    rows_next h p = record { few = omega arith; put = lines_more letter f t.put p }

    pub rows_all : count ≤ k → Put count (record_texts letter count f) old now
    rows_all h = let z : k ≡ count = omega (arith, t.few) in rw z at t.put

-- ---- one line, by its numbers as the writer takes them
module _ {row numbers : List ℕ} (e : numbers ≡ row) (few : length row ≤ line_size) {r : ℕ} (long : (letter : ℕ) → r ≡ length (record_text letter numbers)) where
  long-is : (letter : ℕ) → r ≡ length (record_text letter row)
  long-is letter = rw e at (long letter)

  pub line-few : r ≤ longest
  line-few = omega (arith, record-most 0 row, long-is 0)

  module _ (letter : ℕ) {old new : Output} (ends : new.at ≡ old.at + r) (buffer : new.out.ghost_name ≡ old.out.ghost_name) where
    pub line-short : length old.out.now < old.at + r → new.out.now ≡ old.out.now → Put 1 (record_text letter row) old new
    line-short h same =
        record { buffer = buffer; ends = omega (arith, long-is letter); few = omega (arith, line-few, long-is letter); size = ap length same; is = λ l. absurd (omega arith) }

    pub line-wrote : old.at + r ≤ length old.out.now → {end : ℕ} → Wrote (record_text letter numbers) old.at old.out.now new.out.now end → Put 1 (record_text letter row) old new
    line-wrote h {end} w =
        let v = rw e at w in
        record {
          buffer = buffer;
          ends = omega (arith, long-is letter);
          few = omega (arith, line-few, long-is letter);
          size = wrote-length _ old.at old.out.now new.out.now end (omega (arith, long-is letter)) v;
          is = λ l. v.is;
        }
