-- What the program prints. Nothing can say what a file holds: a text is what was read of it.
use Rattle.std.specs.Prelude.{ℕ, List, Option, Some, None, take}
use Rattle.std.specs.Option.{option_map}
use Rattle.model.specs.Report.{report, not_read}

-- `L 1` where the network was not read; else `L 2` where the plan was not; else the report of the two texts
abbrev pub output : Option (List ℕ) → Option (List ℕ) → List ℕ
output None plan = not_read 1
output (Some network) None = not_read 2
output (Some network) (Some plan) = report network plan

-- the text at the start of a buffer, where a file of so many bytes was read into it
abbrev pub text_of : List ℕ → Option ℕ → Option (List ℕ)
text_of buffer read = option_map (λ n. take n buffer) read
