-- What the way to one number of a line promises, where no other number is read.
use Rattle.std.specs.Prelude.{ℕ, ◌+◌, ◌-◌, ◌≤◌, ◌≡◌, Bool, cond, not, List, [], length, drop, get_or, eqb}
use Rattle.base_laws.specs.Sum.{sum}
use Rattle.base_laws.specs.Test.{every}
use Rattle.text_reader.specs.Lines.{number}
use Rattle.text_reader.specs.Reading.{line_at, next_line, field_at}
use Rattle.text_reader.specs.declared.Passed.{Passed}
use Rattle.text_reader.specs.declared.LineNumber.{LineNumber}

-- the bytes of a block
abbrev pub block_size : ℕ
block_size = 16

-- what a byte counts among the separators of a block: a tab 1, a line feed 15
unfoldable pub separator_weight : ℕ → ℕ
separator_weight b = cond (eqb b 9) 1 (cond (eqb b 10) 15 0)

-- the separators of n bytes from a place on
abbrev pub separators : List ℕ → ℕ → ℕ → ℕ
separators text at n = sum n (λ k. separator_weight (get_or text (at + k) 0))

-- From one place to another in a line: of n fields that are to be passed so many are left.
pub record Passing (text : List ℕ) (at n : ℕ) (passed : Passed) : Type 0 where
  pub within : passed.place ≤ length text
  pub few : passed.left ≤ n
  pub fields : (line_at text passed.place).fields ≡ drop (n - passed.left) (line_at text at).fields
  pub next : next_line text passed.place ≡ next_line text at

-- From one place to another in a line: past n fields, or past all that the line has.
pub record FieldsPassed (text : List ℕ) (at n place : ℕ) : Type 0 where
  pub within : place ≤ length text
  pub stops : field_at text place ≡ []
  pub fields : (line_at text place).fields ≡ drop n (line_at text at).fields
  pub next : next_line text place ≡ next_line text at

-- no line feed stands in the n bytes from a place on
abbrev pub stays_in_line : List ℕ → ℕ → ℕ → Bool
stays_in_line text at n = every n (λ k. not (eqb (get_or text (at + k) 0) 10))

-- from one place to another in a line
pub record InLine (text : List ℕ) (at place : ℕ) : Type 0 where
  pub within : place ≤ length text
  pub next : next_line text place ≡ next_line text at

-- the line of a place ends at another
pub record LineEnds (text : List ℕ) (at place : ℕ) : Type 0 where
  pub within : place ≤ length text
  pub next : place + 1 ≡ next_line text at

-- number k of the line at a place, and the place of the next line
abbrev pub line_number : List ℕ → ℕ → ℕ → LineNumber
line_number text at k = record { value = number (line_at text at) k; next = next_line text at }
