use Rattle.std.proofs.Common.{rules, ◌≡◌, ◌≢◌, ℕ, ◌+◌, ◌-◌, ◌<◌, ◌≤◌, ◌==◌, length, List, take, drop, get_or, arith, Some, None}
use Rattle.std.proofs.lemmas.Bool.{eq-eqb, ne_eqb}
use Rattle.std.proofs.lemmas.Bool.Decides.{nat_tests}
use Rattle.std.proofs.lemmas.List.{take_rest}
use Rattle.std.proofs.lemmas.List.Sums.{position_or_len_is}
use Rattle.std.specs.List.{position_or_len}
use Rattle.listing_lines.specs.Entry.{split_once}
use Rattle.listing_lines.proofs.split_once.Goals as goal

module _ (c : ℕ) (bs : List ℕ) where
  place : (end : ℕ) → end ≤ length bs → ((k : ℕ) → k < end → get_or bs k 0 ≢ c) → (end < length bs → get_or bs end 0 ≡ c)
      → position_or_len (λ b. b == c) bs ≡ end
  place end l h e = position_or_len_is _ bs end 0 l (λ k m. ne_eqb _ c (h k m)) (λ m. eq-eqb _ c (e m))

  nowhere : ((k : ℕ) → k < length bs → get_or bs k 0 ≢ c) → split_once c bs ≡ None
  unfolding split_once
  nowhere h = let p = place (length bs) (omega arith) h (λ l. absurd (omega arith)) in grind (arith, nat_tests)

  parts_at : (end : ℕ) → end < length bs → get_or bs end 0 ≡ c → ((k : ℕ) → k < end → get_or bs k 0 ≢ c)
      → split_once c bs ≡ Some (take end bs, take (length bs - (end + 1)) (drop (end + 1) bs))
  unfolding split_once
  parts_at end l e h = let p = place end (omega arith) h (λ m. e) in grind (arith, nat_tests, take_rest)

pub returns-in_err-end : goal.returns-in_err-end
returns-in_err-end c = search (rules, nowhere)

pub returns : goal.returns
returns c = parts_at c.args.byte c.args.bytes.now c.in_ok-end.end (search rules) (search rules) (search rules)
