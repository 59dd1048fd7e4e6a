-- The chain's sum is that of the list; each number fits 32 bits.
use Rattle.std.proofs.Common.{◌≡◌, rules, sum as list_sum}
use Rattle.base_laws.proofs.Kit.{arith, length, get_or}
use Rattle.base_laws.proofs.Sums.{sum_bound}
use Rattle.step_rows.proofs.Cuts.{sum-places}
use Rattle.step_rows.proofs.sum_of.Goals as goal

pub returns : goal.returns
returns c =
    let numbers = c.args.numbers.now in
    let is : c.sum.result ≡ list_sum numbers = search rules in
    (is, omega (arith, is, sum-places numbers, sum_bound (length numbers) 4294967295 (λ i. get_or numbers i 0) (λ i l. omega (arith, (c.type_inv.numbers i).fits))))
