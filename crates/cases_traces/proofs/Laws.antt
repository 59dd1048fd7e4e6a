-- A NaN and its bits.
use Rattle.base_laws.proofs.Kit.{ℕ, ◌%◌, ◌≤◌, ◌<◌, ◌≡◌, refl, sym, ◌∙◌, true, not, T, le-ltb, lt-ltb}
use lib.Ieee.{Float, nan, inf, fin, binary64, is_nan, nan_bits, of_bits, to_bits}
use lib.Ieee.Bits.{nan_bits_above, nan_bits_is}
use Rattle.base_laws.proofs.Bools.{no_truth}

-- bits at most those of an infinity, but for the sign
pub no-nan-of-bits : (bits : ℕ) → bits % 9_223_372_036_854_775_808 ≤ 9_218_868_437_227_405_312 → T (not (nan_bits binary64 bits))
no-nan-of-bits bits h = rw (nan_bits_above binary64 bits ∙ le-ltb _ _ h) tt

nan-is : (x : Float) → is_nan x ≡ true → nan ≡ x
unfolding is_nan
nan-is nan e = refl
nan-is (inf s) e = no_truth e
nan-is (fin s m e) t = no_truth t

one-nan : of_bits binary64 9_221_120_237_041_090_560 ≡ nan
unfolding of_bits
one-nan = refl

-- bits above those of an infinity, but for the sign, are those of the one NaN
pub nan-of-bits : (bits : ℕ) → 9_218_868_437_227_405_312 < bits % 9_223_372_036_854_775_808 → of_bits binary64 9_221_120_237_041_090_560 ≡ of_bits binary64 bits
nan-of-bits bits h = one-nan ∙ nan-is (of_bits binary64 bits) (sym (nan_bits_is binary64 bits) ∙ nan_bits_above binary64 bits ∙ lt-ltb _ _ h)

pub bits_of_nan : (x : Float) → is_nan x ≡ true → 9_221_120_237_041_090_560 ≡ to_bits binary64 x
unfolding is_nan to_bits
bits_of_nan nan e = refl
bits_of_nan (inf s) e = no_truth e
bits_of_nan (fin s m e) t = no_truth t
