use Rattle.std.proofs.Common.{◌≡◌, ◌≤◌, ℕ, ◌+◌, ◌-◌, ◌*◌, ◌<◌, ◌^◌, arith, rules, sym}
use Rattle.std.proofs.Math.Nat.{mul-le-mul_right, one-le-pow}
use Rattle.std.proofs.lemmas.Nat.{pow-add}
use Rattle.listing_lines.proofs.fraction_of.Goals as goal

scaled_small : (v n : ℕ) → v < 10 ^ n → n ≤ 6 → v * 10 ^ (6 - n) < 10 ^ 6
scaled_small v n l h =
    let six : n + (6 - n) ≡ 6 = omega arith in
    let e : 10 ^ n * 10 ^ (6 - n) ≡ 10 ^ 6 = sym (rw six at (pow-add 10 n (6 - n))) in
    omega (arith, e, mul-le-mul_right (10 ^ (6 - n)) l, one-le-pow (6 - n) 10 (omega arith))

pub returns-clause-small : goal.returns-clause-small
returns-clause-small c = rw c.pow.ensures (scaled_small _ _ (search rules) (search rules))
