-- What is promised of a file that was read: how many bytes, or nothing where it was not read.
use Rattle.std.specs.Prelude.{ℕ, ◌<◌, ◌≡◌, List, Option, take, IfSome}

-- what was read leaves at least one byte of the buffer
abbrev pub Within : ℕ → Option ℕ → Type 0
Within size read = IfSome read (λ n. n < size)

-- what was read, at the start of the buffer, is all that there was to read, where that is known
abbrev pub IsWhole : Option (List ℕ) → List ℕ → Option ℕ → Type 0
IsWhole known buffer read = IfSome read (λ n. IfSome known (λ bytes. take n buffer ≡ bytes))
