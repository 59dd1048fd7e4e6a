-- What a field says, digit by digit.
use Rattle.base_laws.proofs.Kit.{ℕ, suc, ◌+◌, ◌-◌, ◌*◌, ◌≤◌, ◌<◌, ◌≡◌, refl, true, false, and-eq-true_iff, and-false, List, [], ◌∷◌, foldl, le_trans, arith, le-leb, lt-leb, leb-true, leb, leb·zero, leb·suc-zero, leb·suc-suc, length}
use Rattle.text_reader.specs.Field.{digit, digits, shift, decimal, largest, is_numeral, field_of}
use Rattle.text_reader.specs.Reading.{worth}
use Rattle.std.specs.Prelude.{Some, None}

-- a byte that is a digit
pub digit-bounds : (b : ℕ) → digit b ≡ true → (48 ≤ b) × (b ≤ 57)
unfolding digit
digit-bounds b e =
    let both = (and-eq-true_iff (leb 48 b) (leb b 57)).0 e in
    (leb-true 48 b both.0, leb-true b 57 both.1)

-- ---- the bytes after digits that say v
-- the digits to come make a number no smaller
shift-grows : (v : ℕ) (bs : List ℕ) → v ≤ foldl shift v bs
unfolding shift
shift-grows v [] = omega arith
shift-grows v (b ∷ bs) = le_trans (omega arith) (shift-grows (shift v b) bs)

pub worth-end : (n v : ℕ) → v ≤ largest → worth n v [] ≡ Some v
unfolding worth digits
worth-end n v h = rw (leb·zero n, le-leb v largest)

module _ (n v b : ℕ) (bs : List ℕ) where
  pub worth-not : digit b ≡ false → worth n v (b ∷ bs) ≡ None
  unfolding worth digits
  worth-not e = rw (e, and-false)

  pub worth-full : worth 0 v (b ∷ bs) ≡ None
  unfolding worth
  worth-full = rw (leb·suc-zero (length bs))

  pub worth-more : digit b ≡ true → worth (suc n) v (b ∷ bs) ≡ worth n (v * 10 + (b - 48)) bs
  unfolding worth digits shift
  worth-more e = rw (e, leb·suc-suc (length bs) n)

  -- more digits never bring a number down
  pub worth-over : largest < v * 10 + (b - 48) → worth n v (b ∷ bs) ≡ None
  unfolding worth shift
  worth-over h =
      let g = shift-grows (v * 10 + (b - 48)) bs in
      rw (lt-leb (foldl shift (v * 10 + (b - 48)) bs) largest (omega arith), and-false)

-- ---- a field by its first byte
pub field-none : field_of [] ≡ None
unfolding field_of is_numeral
field-none = refl

pub field-some : (b : ℕ) (bs : List ℕ) → field_of (b ∷ bs) ≡ worth 10 0 (b ∷ bs)
unfolding field_of is_numeral decimal worth
field-some b bs = rw (le-leb 1 (length (b ∷ bs)) (omega arith))
