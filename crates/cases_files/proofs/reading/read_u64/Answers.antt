use Rattle.std.proofs.Common.{◌≡◌, ℕ, ◌<◌, length, get_or, rules}
use Rattle.std.proofs.lemmas.Nat.{le_bytes_8}
use Rattle.cases_files.proofs.reading.read_u64.Goals as goal

pub returns : goal.returns
returns g c =
    let bytes = c.in_ok-read_array.field-0 in
    let eight : length bytes ≡ 8 = search rules in
    let small : (i : ℕ) → get_or bytes i 0 < 256 = λ i. search rules in
    rw (le_bytes_8 bytes _ eight small c.from_le_bytes.ensures) c.in_ok-read_array.ensures
