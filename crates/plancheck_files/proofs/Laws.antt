-- What was written fits its buffer.
use Rattle.base_laws.proofs.Kit.{ℕ, ◌+◌, ◌≤◌, ◌≡◌, ap, List, ◌++◌, arith, length, drop, length-append}
use Rattle.text_writer.specs.Writing.{put_at, Wrote}

pub end-within : {text old new : List ℕ} {end : ℕ} → Wrote text 0 old new end → end ≤ length new
unfolding put_at
end-within {text} {old} {new} {end} w =
    let e : length new ≡ length (text ++ drop (0 + length text) old) = ap length w.is in
    omega (arith, w.ends, e, length-append text (drop (0 + length text) old))
