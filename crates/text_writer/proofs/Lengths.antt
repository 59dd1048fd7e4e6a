-- How long written records are, by the digits of their numbers.
use Rattle.std.proofs.lemmas.List.Sums.{sum_by-le}
use Rattle.std.proofs.lemmas.List.Elements.{All-from_get_or}
use Rattle.std.proofs.lemmas.List.Concat.{flat_map-append}
use Rattle.base_laws.proofs.Kit.{ℕ, suc, ◌+◌, ◌*◌, ◌^◌, ◌≤◌, ◌<◌, List, ◌++◌, ◌≡◌, le_trans, pow-le-pow_right, arith, length, get_or, length-append}
use Rattle.text_writer.specs.Records.{numeral, field_texts}
use Rattle.text_writer.proofs.Laws.{fields_sum}
use Rattle.text_writer.proofs.Numerals.{numeral-spells}

-- numbers of at most d + 1 digits
pub fields-most : (d : ℕ) → d ≤ 19 → (ns : List ℕ) → ((k : ℕ) → get_or ns k 0 < 10 ^ suc d) → length (field_texts ns) ≤ (2 + d) * length ns
fields-most d l ns h =
    let few : suc d ≤ 20 = omega arith in
    let short = λ (k : ℕ). (numeral-spells 19 (get_or ns k 0) (le_trans (h k) (pow-le-pow_right {n = 10} (omega arith) few))).short d (h k) in
    let each = sum_by-le (λ n. 1 + length (numeral 19 n)) (2 + d) ns (All-from_get_or (λ n. 1 + length (numeral 19 n) ≤ 2 + d) ns 0 (λ k b. omega (arith, short k))) in
    omega (arith, fields_sum ns)

pub fields-both : (a b : List ℕ) → length (field_texts (a ++ b)) ≡ length (field_texts a) + length (field_texts b)
unfolding field_texts
fields-both a b = rw flat_map-append (length-append (field_texts a) (field_texts b))
