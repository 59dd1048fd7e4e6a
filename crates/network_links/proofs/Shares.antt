-- The sums of the shares of each link's movements, in one pass.
use Rattle.base_laws.proofs.Kit.{ℕ, ◌+◌, ◌*◌, ◌≤◌, ◌<◌, ◌≡◌, ap, ◌∙◌, Bool, true, false, List, add-one, arith, eqb, get_or, length, take}
use Rattle.std.proofs.lemmas.List.{length-take-le}
use Rattle.network_tables.specs.declared.Counts.{Counts}
use Rattle.network_tables.specs.Places.{Few}
use Rattle.model.specs.Network.{max_links}
use Rattle.base_laws.specs.Sum.{sum, only}
use Rattle.network_tables.specs.declared.Movement.{Movement}
use Rattle.network_tables.specs.Fields.{link_in, share_in}
use Rattle.network_links.specs.Movements.{share_sum_in, Added, SumsAsked, ShareSums}

-- ---- the turns of `add_shares`
pub record SumsTo (movements : List Movement) (sums : List ℕ) (j : ℕ) : Type 0 where
  pub within : j ≤ length movements
  pub held : ShareSums movements j sums
  pub small : (i : ℕ) → i < max_links → get_or sums i 0 ≤ 4_294_967_296 * j

module _ {movements : List Movement} {sums₀ : List ℕ} (asked : SumsAsked movements sums₀) where
  pub sums-begin : SumsTo movements sums₀ 0
  unfolding share_sum_in sum
  sums-begin =
      record { within = omega arith; held = record { size = asked.size; each-sum = asked.none }; small = λ i l. omega (arith, asked.none i l) }

  module _ {sums : List ℕ} {j : ℕ} (inv : SumsTo movements sums j) (h : j < length movements) {part : ℕ} (fits : part < 4294967296) where
    pub sums_next : {from : ℕ} → from ≡ link_in movements 0 j → part ≡ share_in movements j → {sums' : List ℕ} → Added from part sums sums' → SumsTo movements sums' (j + 1)
    unfolding share_sum_in sum
    sums_next {from} f p {sums'} got =
        record {
          within = omega arith;
          held = record {
            size = got.size;
            each-sum = λ i l. rw (add-one j, ← f, ← p) (got.each-sum i l ∙ ap (λ x. x + only (eqb from (i + 1)) part) (inv.held.each-sum i l));
          };
          small = λ i l. omega (arith, got.each-sum i l, inv.small i l, most (eqb from (i + 1)));
        }
      where
        most : (b : Bool) → only b part ≤ part
        most true = omega arith
        most false = omega arith

-- the sums of the network's links
pub sums-size : {movements : List Movement} {m : ℕ} {sums : List ℕ} → ShareSums movements m sums → {counts : Counts} → Few counts → length (take counts.links sums) ≡ counts.links
sums-size {sums = sums} held {counts} few = length-take-le counts.links sums (omega (arith, held.size, few.links))
