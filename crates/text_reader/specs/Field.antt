-- The number that a field's bytes stand for.
use Rattle.std.specs.Prelude.{ℕ, ◌+◌, ◌-◌, ◌*◌, Bool, true, cond, ◌&&◌, length, leb, Option, Some, None}
use mathlib.Core.List.{List, [], ◌∷◌, foldl}

-- the bytes 0 to 9 in decimal
unfoldable pub digit : ℕ → Bool
digit b = leb 48 b && leb b 57

-- every byte is a digit
unfoldable pub digits : List ℕ → Bool
digits [] = true
digits (b ∷ bs) = digit b && digits bs

-- one digit more at the right
unfoldable pub shift : ℕ → ℕ → ℕ
shift v b = v * 10 + (b - 48)

-- the number that digits say in decimal
unfoldable pub decimal : List ℕ → ℕ
decimal bs = foldl shift 0 bs

-- the largest number that a field may say
abbrev pub largest : ℕ
largest = 4_294_967_295

-- the grammar of a number: one to ten digits, at most the largest
unfoldable pub is_numeral : List ℕ → Bool
is_numeral bs = leb 1 (length bs) && leb (length bs) 10 && digits bs && leb (decimal bs) largest

-- what a field says
unfoldable pub field_of : List ℕ → Option ℕ
field_of bs = cond (is_numeral bs) (Some (decimal bs)) None
