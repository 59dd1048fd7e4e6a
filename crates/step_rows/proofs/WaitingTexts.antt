-- What the tables say of those who wait is what the two texts say.
use Rattle.base_laws.proofs.Kit.{ℕ, suc, ◌+◌, ◌≤◌, ◌<◌, ◌≡◌, sym, ◌∙◌, true, List, dec_le, arith, leb-true, le-leb, lt-leb, leb, length}
use Rattle.std.specs.List.{slice_range}
use Rattle.base_search.specs.Checks.{Hold}
use Rattle.text_reader.specs.Lines.{Line}
use Rattle.base_laws.specs.Sum.{sum}
use Rattle.model.specs.Network.{max_links, link_count, step_count}
use Rattle.model.specs.Flows.{offered, admitted, taken, waits, outside}
use Rattle.model.specs.Rules.{rule15}
use Rattle.model.specs.Table.{network_checks}
use Rattle.base_laws.proofs.Sums.{sum-ext}
use Rattle.model.proofs.Bounds.{offered-small}
use Rattle.model.proofs.Waiting.{offered-suc, taken-suc}
use Rattle.network_tables.specs.declared.Counts.{Counts}
use Rattle.network_tables.specs.Tables.{CountsHold, LinkTable, StepNumbers, PlanNumbers}
use Rattle.network_tables.proofs.Tables.{waiting-at-start-at, step-length-at, demand-at}
use Rattle.network_tables.specs.Fields.{admitted_in}
use Rattle.step_rows.proofs.Texts.{admitted-is}
use Rattle.step_signals.proofs.Cuts.{length-cut, cut-at}
use Rattle.step_rows.specs.Waiting.{waiting_in, offer_in, FirstWaits, AddAsked, Offers, WaitsAsked, Waits, WaitingTable, StepOffers}
use Rattle.network_tables.specs.declared.Link.{Link}

-- the same added to both sides
leb-plus : (a b c : ℕ) → leb a b ≡ leb (c + a) (b + c)
leb-plus a b c = elim (dec_le a b) [
  | yes h ↦ le-leb a b h ∙ sym (le-leb (c + a) (b + c) (omega arith))
  | no h ↦ lt-leb a b (omega arith) ∙ sym (lt-leb (c + a) (b + c) (omega arith))
]

-- who waits at the start
pub waiting-first : {network : List Line} (plan : List Line) {links : List Link} {waiting : List ℕ} → LinkTable network links → FirstWaits links (link_count network) waiting → WaitingTable network plan 0 waiting
unfolding offered taken sum
waiting-first plan t w = record { size = w.size; holds = λ i l. omega (arith, w.starts i l, waiting-at-start-at t i l) }

module _ {network plan : List Line} {n : ℕ} {counts : Counts} (counted : CountsHold network counts) where
  -- those who wait and those who come fit 32 bits
  pub add-ready : {waiting step : List ℕ} → Hold (network_checks network) → n < step_count network → WaitingTable network plan n waiting → StepNumbers network n step
      → AddAsked (slice_range waiting 0 counts.links) step
  add-ready {waiting} holds h w s =
      let size : length (slice_range waiting 0 counts.links) ≡ counts.links = length-cut waiting counts.links (omega (arith, w.size, counted.few.links)) in
      record {
        few = omega (arith, size, counted.few.links);
        step-size = s.size;
        fits = λ i l.
            let l' : i < link_count network = omega (arith, counted.links, size) in
            omega (arith, cut-at waiting counts.links i 0 (omega (arith, counted.links)), w.holds i l', demand-at s i l', offered-suc network n i, offered-small network plan holds (suc n) h i l', counted.steps, counted.few.steps);
      }

  -- all who wait
  pub outside-is : {waiting : List ℕ} → WaitingTable network plan n waiting → sum counts.links (waiting_in waiting) ≡ outside network plan n
  unfolding outside waits
  outside-is w = rw counted.links (sum-ext (link_count network) _ _ (λ i l. omega (arith, w.holds i l)))

  -- who is at the entries in the step
  pub step-offers : {waiting step result : List ℕ} → WaitingTable network plan n waiting → StepNumbers network n step → Offers counts.links waiting step result
      → StepOffers network plan n result
  step-offers w s o =
      record {
        size = o.size;
        lasts = o.lasts ∙ step-length-at s;
        holds = λ i l. omega (arith, o.offers i (omega (arith, counted.links)), w.holds i l, demand-at s i l, offered-suc network n i);
      }

  module _ {line step : List ℕ} (numbers : PlanNumbers network plan n line) (offers : StepOffers network plan n step) where
    -- rule 15: no more is admitted than is at the entry
    pub offer-is : (i : ℕ) → i < link_count network → leb (admitted_in counts line i) (offer_in step i) ≡ rule15 network plan n i
    unfolding rule15
    offer-is i l =
        rw (admitted-is counted numbers i l, taken-suc network plan n i, ← offers.holds i l)
        (leb-plus (admitted network plan n i) (offer_in step i) (taken network plan n i))

    -- a step that keeps rule 15 leaves waiting who was at the entry and was not admitted
    module _ (keeps : (i : ℕ) → i < link_count network → rule15 network plan n i ≡ true) where
      enough : (i : ℕ) → i < link_count network → admitted_in counts line i ≤ offer_in step i
      enough i l = leb-true _ _ (offer-is i l ∙ keeps i l)

      pub next-ready : {waiting : List ℕ} → length waiting ≡ max_links → WaitsAsked counts step line waiting
      next-ready size =
          record {
            few = counted.few;
            step-size = offers.size;
            line-size = numbers.size;
            size = size;
            enough = λ i l. enough i (omega (arith, counted.links));
          }

      pub waiting-next : {waiting : List ℕ} → Waits counts step line counts.links waiting → WaitingTable network plan (suc n) waiting
      waiting-next w =
          record {
            size = w.size;
            holds = λ i l. omega (arith, w.rest i (omega (arith, counted.links)), enough i l, admitted-is counted numbers i l, offers.holds i l, taken-suc network plan n i);
          }
