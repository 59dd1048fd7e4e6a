-- One line of a corridor's text, as the code reads it.
use Rattle.base_laws.proofs.Kit.{ℕ, ◌<◌, ◌≡◌, sym, ◌∙◌, true, false, List, arith, length, eqb, get_or, List·getD-eq-default}
use Rattle.std.specs.Prelude.{Option, Some, None}
use Rattle.text_reader.specs.Lines.{Line, lines, no_line, is_record, number}
use Rattle.text_reader.specs.Reading.{line_at, next_line, record_at, leading_as, Starts, Got}
use Rattle.text_reader.proofs.Laws.{parts, record-read, record-malformed, got-record, starts-line}

-- a line of n numbers that was read into a row
pub record Row (letter n : ℕ) (text : List ℕ) (at next : ℕ) (row : List ℕ) : Type 0 where
  pub has-form : is_record letter n (line_at text at) ≡ true
  pub place : next ≡ next_line text at
  pub numbers : (k : ℕ) → k < n → get_or row k 0 ≡ number (line_at text at) k

module _ (letter : ℕ) (text : List ℕ) (at : ℕ) {row₀ : List ℕ} {read : Option ℕ} {row : List ℕ}
    (got : Got (record_at letter (length row₀) text at) (leading_as letter (length row₀) (line_at text at)) row₀ read row) where
  pub no-record : read ≡ None → is_record letter (length row₀) (line_at text at) ≡ false
  no-record e = record-malformed letter (length row₀) text at (sym got.told ∙ e)

  pub row_of : {next : ℕ} → read ≡ Some next → Row letter (length row₀) text at next row
  row_of {next} e =
      let r = record-read letter (length row₀) text at next (sym got.told ∙ e) in
      record { has-form = r.formed; place = r.place; numbers = (got-record letter text at row₀ row read next got e).each }

-- a line with a letter is one of the text
pub letter-inside : (text : List Line) (i letter : ℕ) → letter < 256 → eqb (get_or text i no_line).letter letter ≡ true → i < length text
letter-inside text i letter small e = grind (arith, List·getD-eq-default text no_line)

-- so is a record
pub record-inside : (letter n : ℕ) (text : List ℕ) (at i next : ℕ) → letter < 256 → Starts text at i → record_at letter n text at ≡ Some next → i < length (lines text)
record-inside letter n text at i next small begins e =
    let own = (parts letter n (line_at text at) (record-read letter n text at next e).formed).own in
    letter-inside (lines text) i letter small (rw (starts-line text at i begins) at own)
