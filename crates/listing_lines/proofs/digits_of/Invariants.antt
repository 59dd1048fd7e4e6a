use Rattle.std.proofs.Common.{◌≡◌, ◌<◌, ◌^◌, drop}
use mathlib.Core.List.{foldl}
use Rattle.text_reader.specs.Field.{digits, shift, decimal}
use Rattle.listing_lines.proofs.digits_of.Given as goal

-- the digits so far say the value
abbrev pub invariant-loop-b : goal.invariant-loop-b
invariant-loop-b l = record {
  small : l.value < 10 ^ l.b-index;
  all : digits l.bytes ≡ digits (drop l.b-index l.bytes);
  says : decimal l.bytes ≡ foldl shift l.value (drop l.b-index l.bytes);
}
