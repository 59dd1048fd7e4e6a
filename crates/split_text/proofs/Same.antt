-- The rows that are put by the tables are those of the half.
use Rattle.base_laws.proofs.Kit.{ℕ, suc, ◌+◌, ◌-◌, ◌≤◌, ◌<◌, ◌≡◌, refl, sym, ap, ◌∙◌, ◌⊎◌, inl, inr, Bool, true, List, ◌∷◌, ◌++◌, ℕ_discrete, arith, eq-eqb, ne_eqb, eqb, get_or}
use Rattle.base_search.specs.Checks.{Hold}
use Rattle.text_reader.specs.Field.{largest}
use Rattle.text_reader.specs.Lines.{Line, number}
use Rattle.base_laws.specs.Test.{◌and◌}
use Rattle.base_laws.specs.Sum.{sum, only}
use Rattle.model.specs.Network.{entry, link_count, signal_count, movement_count, tram_count, tram_line, signal_of, exit_rate, from_link, to_link, rate, step_length, demand}
use Rattle.model.specs.Rules.{tram}
use Rattle.model.specs.Flows.{shown_mask, admitted, let_out, moved}
use Rattle.model.specs.Table.{network_checks}
use Rattle.base_laws.proofs.Tests.{and_left, and_right}
use Rattle.base_laws.proofs.Sums.{sum-ext}
use Rattle.model.proofs.Accepted.{ValidNetwork, valid-network}
use Rattle.model.proofs.Limits.{link-limits}
use Rattle.network_tables.specs.declared.Counts.{Counts}
use Rattle.network_tables.specs.declared.Link.{Link}
use Rattle.network_tables.specs.declared.Movement.{Movement}
use Rattle.network_tables.specs.declared.Tram.{Tram}
use Rattle.network_tables.specs.Fields.{movement_at, link_in, rate_in, demand_in, admitted_in, let_out_in, moved_in}
use Rattle.network_tables.specs.Tables.{CountsHold, TramTable, LinkTable, MovementTable, StepNumbers, PlanNumbers}
use Rattle.network_tables.proofs.Tables.{capacity-at, travel-time-at, exit-rate-at, signal-of-at, phase-mask-at, standing-at, waiting-at-start-at, from-link-at, to-link-at, rate-at, share-at, step-length-at, demand-at, shown-mask-at, admitted-at, let-out-at, moved_at}
use Rattle.model_text.proofs.Formed.{Formed, formed-of-holds}
use Rattle.model_split.specs.Numbering.{rank, picked}
use Rattle.model_split.specs.Halves.{Half, in_field, link_number, signal_number, inside, follows, half_tram_numbers, movement_numbers, crosses, crossing_into, crossing_from, border_rate, border_in, border_out, first_half, second_half, link_numbers, step_numbers, half_plan_numbers}
use Rattle.model_split.specs.Call.{in_set}
use Rattle.model_split.proofs.Same.{Apart, in_field_lem}
use Rattle.model_split.proofs.Border.{Splittable, splittable, first-apart, second-apart}
use Rattle.model_split.proofs.HalfValid.{exit_small}
use Rattle.model_split.proofs.Trams.{signal-there}
use Rattle.split_tables.specs.declared.HalfTables.{HalfTables}
use Rattle.split_tables.specs.Tables.{is_in, is_border, HalfNumbered}
use Rattle.split_tables.proofs.Ends.{from-there, to-there}
use Rattle.split_tables.proofs.Tables.{border-is, half-has-link, half-has-signal, half-has-movement}
use Rattle.split_text.specs.Border.{border_sum, Bordered}
use Rattle.split_text.specs.Filling.{raised}
use Rattle.split_text.specs.Rows.{signal_number_in, tram_in, half_tram_row, half_link_row, half_movement_row}
use Rattle.split_text.proofs.Picked.{picked_same}
use Rattle.split_text.specs.Halves.{OneHalf}

module _ {network : List Line} (holds : Hold (network_checks network)) {set : ℕ} {h : Half} {half : HalfTables} (one : OneHalf network set h half) where
  abbrev first : ℕ → Bool
  first = in_set set

  valid : ValidNetwork network
  valid = valid-network network holds

  formed : Formed network
  formed = formed-of-holds network holds

  pub split : Splittable network first
  split = splittable network first one.can one.parts

  apart : Apart network first h
  apart = go one.which
    where
      go : (h ≡ first_half network first) ⊎ (h ≡ second_half network first) → Apart network first h
      go (inl e) = rw e (first-apart network first split)
      go (inr e) = rw e (second-apart network first split)

  abbrev table : HalfNumbered network h half
  table = one.numbered

  -- ---- signals
  -- the number of a signal of the half
  signal-is : (s : ℕ) → s ≤ signal_count network → (1 ≤ s → h.has-signal (s - 1) ≡ true) → signal_number_in half s ≡ signal_number h s
  unfolding signal_number_in signal_number
  signal-is s l own = elim (ℕ_discrete s 0) [
    | yes e ↦ rw (eq-eqb s 0 e) refl
    | no e ↦ rw (ne_eqb s 0 e) (table.signals (s - 1) (omega arith) ∙ ap (λ b. only b (suc (rank h.has-signal (s - 1)))) (own (omega arith)))
  ]

  -- ---- `T` lines
  pub named-signal : (k : ℕ) → k < tram_count network → entry network (tram_line network k) 0 ≤ signal_count network
  named-signal k l = unfold entry in (signal-there network h formed valid k l).1

  module _ {trams : List Tram} (loaded : TramTable network trams) where
    pub tram-follows : (k : ℕ) → k < tram_count network → tram_in trams half k ≡ follows network h k
    unfolding tram_in signal_number_in follows is_in entry
    tram-follows k l =
        let t = signal-there network h formed valid k l in
        rw (loaded.holds k l, ne_eqb (number (tram network k) 0) 0 (λ e. omega (arith, t.0))) (half-has-signal table (number (tram network k) 0 - 1) (omega (arith, t)))

    pub tram-same : (k : ℕ) → k < tram_count network → follows network h k ≡ true → half_tram_row trams half k ≡ half_tram_numbers network h k
    unfolding half_tram_row half_tram_numbers follows entry
    tram-same k l f = rw (loaded.holds k l, signal-is (number (tram network k) 0) (signal-there network h formed valid k l).1 (λ o. f)) refl

  -- ---- movements
  module _ {movements : List Movement} (moves : MovementTable network movements) where
    pub movement-same : (j : ℕ) → j < movement_count network → inside network h j ≡ true → half_movement_row movements half j ≡ movement_numbers network h j
    unfolding half_movement_row movement_numbers link_number inside
    movement-same j l i =
        let from = and_left (h.has-link (from_link network j - 1)) (h.has-link (to_link network j - 1)) i in
        let to = and_right (h.has-link (from_link network j - 1)) (h.has-link (to_link network j - 1)) i in
        rw (
          from-link-at moves j l,
          to-link-at moves j l,
          rate-at moves j l,
          share-at moves j l,
          table.links (from_link network j - 1) (from-there network holds j l),
          table.links (to_link network j - 1) (to-there network holds j l),
          from,
          to,
        ) refl

    -- a movement that has one link in the half is a border movement
    crosses-is : (j : ℕ) → j < movement_count network → is_border (movement_at movements j) half.links ≡ crosses network first j
    crosses-is j l = border-is h half.links movements table.links moves j l (from-there network holds j l) (to-there network holds j l) ∙ sym (apart.sides j)

    -- what the border adds at a link, by the side on which movements name it
    border-at : {side : ℕ} {link : ℕ → ℕ} → ((j : ℕ) → j < movement_count network → link_in movements side j ≡ link j) → {count : ℕ} → count ≡ movement_count network
        → {f : ℕ → ℕ} (g : ℕ → ℕ) → ((j : ℕ) → j < movement_count network → f j ≡ g j)
        → {sums : List ℕ} → Bordered movements half.links count side f sums
        → (i : ℕ) → i < link_count network → get_or sums i 0 ≡ sum (movement_count network) (λ j. only (crosses network first j and eqb (link j) (suc i)) (g j))
    unfolding border_sum
    border-at named e g same b i l =
        b.are i ∙ rw e (sum-ext (movement_count network) _ _ (λ j u. rw (crosses-is j u, named j u, same j u) refl))

    -- ---- `Q` lines
    module _ {links : List Link} (t : LinkTable network links) (plan : List Line) {count : ℕ} (counted : count ≡ movement_count network) {rates : List ℕ}
        (r : Bordered movements half.links count 0 (rate_in movements) rates) where
      rates-are : (i : ℕ) → i < link_count network → get_or rates i 0 ≡ border_rate network first i
      unfolding crossing_from
      rates-are = border-at (from-link-at moves) counted (rate network) (rate-at moves) r

      pub link-same : (i : ℕ) → i < link_count network → h.has-link i ≡ true → half_link_row links rates half i ≡ link_numbers network first plan h i
      unfolding half_link_row link_numbers raised
      link-same i l own =
          let small : exit_rate network i + border_rate network first i ≤ largest = omega (arith, exit_small network first valid split i l) in
          rw (
            capacity-at t i l,
            travel-time-at t i l,
            exit-rate-at t i l,
            rates-are i l,
            in_field_lem (exit_rate network i + border_rate network first i) small,
            signal-of-at t i l,
            signal-is (signal_of network i) (link-limits network valid i l).signal-last (λ o. apart.own-signal i l own o),
            phase-mask-at t i l,
            standing-at t i l,
            waiting-at-start-at t i l,
          ) refl

    -- ---- the rows of a step
    module _ (plan : List Line) (n : ℕ) {line : List ℕ} (p : PlanNumbers network plan n line) {c : Counts} (counted : CountsHold network c) where
      moved-is : (j : ℕ) → j < movement_count network → moved_in c line j ≡ moved network plan n j
      moved-is j l = rw (counted.signals, counted.links) (moved_at p j l)

      volumes-into : {into : List ℕ} → Bordered movements half.links c.movements 1 (moved_in c line) into → (i : ℕ) → i < link_count network → get_or into i 0 ≡ border_in network first plan n i
      unfolding crossing_into
      volumes-into = border-at (to-link-at moves) counted.movements (moved network plan n) moved-is

      volumes-from : {from : List ℕ} → Bordered movements half.links c.movements 0 (moved_in c line) from → (i : ℕ) → i < link_count network → get_or from i 0 ≡ border_out network first plan n i
      unfolding crossing_from
      volumes-from = border-at (from-link-at moves) counted.movements (moved network plan n) moved-is

      -- the `S` line: no sum is too large for a field
      pub step_row : {step into : List ℕ} → StepNumbers network n step → Bordered movements half.links c.movements 1 (moved_in c line) into
          → ((i : ℕ) → i < link_count network → demand network n i + border_in network first plan n i ≤ largest)
          → get_or step 0 0 ∷ picked c.links (is_in half.links) (raised (demand_in step) into) ≡ step_numbers network first plan h n
      unfolding step_numbers raised
      step_row {step} {into} t b small =
          rw (counted.links, step-length-at t)
          (ap (λ (x : List ℕ). step_length network n ∷ x)
          (picked_same (link_count network) (is_in half.links) h.has-link _ (λ i. demand network n i + border_in network first plan n i)
          (half-has-link table) (λ i l own. rw (demand-at t i l, volumes-into b i l) (in_field_lem _ (small i l)))))

      -- the `P` line
      pub row-written : {into from : List ℕ} → Bordered movements half.links c.movements 1 (moved_in c line) into → Bordered movements half.links c.movements 0 (moved_in c line) from
          → picked c.signals (is_in half.signals) (λ r. get_or line r 0)
          ++ (picked c.links (is_in half.links) (raised (admitted_in c line) into)
          ++ (picked c.links (is_in half.links) (raised (let_out_in c line) from)
          ++ picked c.movements (is_in half.movements) (moved_in c line)))
          ≡ half_plan_numbers network first plan h n
      unfolding half_plan_numbers raised
      row-written {into} {from} b d = four masks admissions exits volumes
        where
          four : {a a' b b' c c' d d' : List ℕ} → a ≡ a' → b ≡ b' → c ≡ c' → d ≡ d' → a ++ (b ++ (c ++ d)) ≡ a' ++ (b' ++ (c' ++ d'))
          four p q r s = rw (p, q, r, s) refl

          masks : picked c.signals (is_in half.signals) (λ r. get_or line r 0) ≡ picked (signal_count network) h.has-signal (shown_mask network plan n)
          masks = rw counted.signals (picked_same (signal_count network) _ _ _ _ (half-has-signal table) (λ r l own. shown-mask-at p r l))

          admissions : picked c.links (is_in half.links) (raised (admitted_in c line) into) ≡ picked (link_count network) h.has-link (λ i. in_field (admitted network plan n i + border_in network first plan n i))
          admissions = rw (counted.links, counted.signals) (picked_same (link_count network) _ _ _ _ (half-has-link table) (λ i l own. rw (admitted-at p i l, volumes-into b i l) refl))

          exits : picked c.links (is_in half.links) (raised (let_out_in c line) from) ≡ picked (link_count network) h.has-link (λ i. in_field (let_out network plan n i + border_out network first plan n i))
          exits = rw (counted.links, counted.signals) (picked_same (link_count network) _ _ _ _ (half-has-link table) (λ i l own. rw (let-out-at p i l, volumes-from d i l) refl))

          volumes : picked c.movements (is_in half.movements) (moved_in c line) ≡ picked (movement_count network) (inside network h) (moved network plan n)
          volumes = rw counted.movements (picked_same (movement_count network) _ _ _ _ (half-has-movement table) (λ j l own. moved-is j l))
