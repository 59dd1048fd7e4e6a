-- Vehicles that wait at the entry.
use Rattle.base_laws.proofs.Kit.{◌≡◌, refl, true, List, ℕ, zero, suc, ◌+◌, ◌≤◌, ◌<◌, arith, leb-true}
use Rattle.text_reader.specs.Lines.{Line}
use Rattle.base_laws.specs.Sum.{sum}
use Rattle.model.specs.Network.{link_count, waiting_at_start, demand}
use Rattle.model.specs.Flows.{offered, all_demand, admitted, taken, waits, outside, all_admitted}
use Rattle.model.specs.Rules.{rule15}
use Rattle.base_laws.proofs.Sums.{sum-ext, sum-add, sum_more}

module _ (network : List Line) where
  pub offered-suc : (n i : ℕ) → offered network (suc n) i ≡ offered network n i + demand network n i
  unfolding offered sum
  offered-suc n i = omega arith

  pub offered-more : (m n i : ℕ) → m ≤ n → offered network m i ≤ offered network n i
  unfolding offered
  offered-more m n i h = omega (arith, sum_more (λ k. demand network k i) m n h)

module _ (network plan : List Line) where
  pub taken-suc : (n i : ℕ) → taken network plan (suc n) i ≡ taken network plan n i + admitted network plan n i
  unfolding taken sum
  taken-suc n i = refl

  -- steps that keep rule 15 have taken no more than was offered
  pub taken-offered : (n i : ℕ) → ((m : ℕ) → m < n → rule15 network plan m i ≡ true) → taken network plan n i ≤ offered network n i
  unfolding rule15
  taken-offered zero i keeps = unfold taken sum in omega arith
  taken-offered (suc n) i keeps = leb-true _ _ (keeps n (omega arith))

  -- what waits is the part of the demand that was not admitted
  pub waits-rest : (n i : ℕ) → taken network plan n i ≤ offered network n i → waits network plan n i + taken network plan n i ≡ offered network n i
  unfolding waits
  waits-rest n i h = omega arith

  -- at the start what the `Q` lines say
  pub outside-start : outside network plan 0 ≡ sum (link_count network) (waiting_at_start network)
  unfolding outside waits offered taken
  outside-start = sum-ext (link_count network) _ (waiting_at_start network) (λ i l. unfold sum in omega arith)

  -- those outside after a step: its demand has come, what it admits has gone in
  pub outside-step : (n : ℕ) → ((m i : ℕ) → m ≤ suc n → i < link_count network → taken network plan m i ≤ offered network m i)
      → outside network plan (suc n) + all_admitted network plan n ≡ outside network plan n + all_demand network n
  unfolding outside all_admitted all_demand
  outside-step n h =
      let L = link_count network in
      omega (
        arith,
        sum-ext L (λ i. waits network plan (suc n) i + admitted network plan n i) (λ i. waits network plan n i + demand network n i) link,
        sum-add L (waits network plan (suc n)) (admitted network plan n),
        sum-add L (waits network plan n) (demand network n),
      )
    where
      link : (i : ℕ) → i < link_count network → waits network plan (suc n) i + admitted network plan n i ≡ waits network plan n i + demand network n i
      link i l =
          omega (
            arith,
            waits-rest n i (h n i (omega arith) l),
            waits-rest (suc n) i (h (suc n) i (omega arith) l),
            offered-suc network n i,
            taken-suc n i,
          )
