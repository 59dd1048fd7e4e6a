-- Bits, eight to a byte: a bit that is set, and the others, which stay.
use Rattle.base_laws.proofs.Kit.{ℕ, zero, suc, ◌+◌, ◌*◌, ◌/◌, ◌%◌, ◌^◌, ◌≤◌, ◌<◌, ◌≡◌, ◌⊎◌, inl, inr, ◌≢◌, Bool, true, false, List, ℕ_discrete, eq-or-lt_of_le, add-zero, pow-suc, ◌∙◌, ◌-◌, arith, length, get_or, get_or-set_same, get_or-set_other}
use Rattle.std.proofs.lemmas.Nat.Bits.{bit_at_or, bit_at-pow_same, bit_at-pow_other, bit_at-lt, bit_at_above, bit_at_cat_low, bit_at_cat_high}
use Rattle.std.specs.Int as number
use Rattle.base_laws.specs.Sum.{sum, only}
use Rattle.base_laws.proofs.Sums.{sum-ext, sum_bound}
use Rattle.listing_call.specs.Tables.{bit, bit_at, with_bit}

-- ---- bytes
pub bit-few : (bytes : List ℕ) (k : ℕ) → bit_at bytes k ≤ 1
bit-few bytes k = omega (arith, bit_at-lt (get_or bytes (k / 8) 0) (k % 8))

module _ (bytes : List ℕ) (k : ℕ) (h : k / 8 < length bytes) where
  pub bit-set : bit_at (with_bit bytes k) k ≡ 1
  bit-set = grind (arith, get_or-set_same, bit_at_or, bit_at-pow_same, bit_at-lt)

  pub bit-other : (j : ℕ) → j ≢ k → bit_at (with_bit bytes k) j ≡ bit_at bytes j
  bit-other j n = elim (ℕ_discrete (j / 8) (k / 8)) [
    | yes e ↦ let d : j % 8 ≢ k % 8 = λ q. n (omega arith) in grind (arith, get_or-set_same, bit_at_or, bit_at-pow_other)
    | no d ↦ rw (get_or-set_other bytes (k / 8) (j / 8) _ 0 d)
  ]

-- ---- sums that change at one index
pub sum-change : (n k x : ℕ) (f g : ℕ → ℕ) → k < n → g k ≡ f k + x → ((j : ℕ) → j < n → j ≢ k → g j ≡ f j) → sum n g ≡ sum n f + x
unfolding sum
sum-change zero k x f g h e o = absurd (omega arith)
sum-change (suc n) k x f g h e o = go (eq-or-lt_of_le h) (λ l. sum-change n k x f g l e (λ j m. o j (omega arith)))
  where
    go : (suc k ≡ suc n) ⊎ (suc k < suc n) → (k < n → sum n g ≡ sum n f + x) → sum n g + g n ≡ sum n f + f n + x
    go (inl q) ih =
        let z : k ≡ n = omega arith in
        let t : g n ≡ f n + x = rw z at e in
        omega (arith, sum-ext n g f (λ j l. o j (omega arith) (λ y. omega arith)))
    go (inr q) ih = omega (arith, ih (omega arith), o n (omega arith) (λ y. omega arith))

pub bits-few : (n : ℕ) (bytes : List ℕ) → sum n (bit_at bytes) ≤ n
bits-few n bytes = omega (arith, sum_bound n 1 (bit_at bytes) (λ k l. bit-few bytes k))

-- ---- the bits of a sum of powers
bit-low : (t : Bool) (s n j : ℕ) → j < n → number.bit_at (s + only t (2 ^ n)) j ≡ number.bit_at s j
bit-low true s n j l = let e : s + 2 ^ n ≡ 1 * 2 ^ n + s = omega arith in rw e (bit_at_cat_low 1 n s j l)
bit-low false s n j l = rw add-zero

bit-top : (t : Bool) (s n : ℕ) → s < 2 ^ n → number.bit_at (s + only t (2 ^ n)) n ≡ bit t
unfolding bit
bit-top true s n l =
    let e : s + 2 ^ n ≡ 1 * 2 ^ n + s = omega arith in
    let z : n - n ≡ 0 = omega arith in
    rw e (bit_at_cat_high 1 n s n l (omega arith) ∙ rw z)
bit-top false s n l = rw add-zero (bit_at_above s n n l (omega arith))

module _ (b : ℕ → Bool) where
  abbrev powers : ℕ → ℕ
  powers n = sum n (λ k. only (b k) (2 ^ k))

  pub bits_below : (n : ℕ) → powers n < 2 ^ n
  unfolding sum
  bits_below zero = omega arith
  bits_below (suc n) = omega (arith, bits_below n, pow-suc 2 n, at_most (b n) (2 ^ n))
    where
      at_most : (t : Bool) (x : ℕ) → only t x ≤ x
      at_most true x = omega arith
      at_most false x = omega arith

  pub bit_past : (n j : ℕ) → n ≤ j → number.bit_at (powers n) j ≡ 0
  bit_past n j h = bit_at_above (powers n) n j (bits_below n) h

  pub bit_in : (n j : ℕ) → j < n → number.bit_at (powers n) j ≡ bit (b j)
  unfolding sum
  bit_in zero j h = absurd (omega arith)
  bit_in (suc n) j h = go (eq-or-lt_of_le h) (bit_in n j)
    where
      go : (suc j ≡ suc n) ⊎ (suc j < suc n) → (j < n → number.bit_at (powers n) j ≡ bit (b j)) → number.bit_at (powers n + only (b n) (2 ^ n)) j ≡ bit (b j)
      go (inl q) ih = let z : j ≡ n = omega arith in rw z (bit-top (b n) (powers n) n (bits_below n))
      go (inr l) ih = bit-low (b n) (powers n) n j (omega arith) ∙ ih (omega arith)
