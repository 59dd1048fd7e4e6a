-- What the lines of a part of a network say: it goes on from its first boundary.
use Rattle.base_laws.proofs.Kit.{◌≡◌, refl, sym, ap, ap₂, ◌∙◌, ◌⊎◌, inl, inr, List, [], ◌∷◌, ◌++◌, ℕ, zero, suc, ◌+◌, ◌*◌, ◌-◌, ◌≤◌, ◌<◌, eq-or-lt_of_le, dec_le, arith, length, get_or, length-append, List·getD-append, List·getD-eq-default, get_or-append-add}
use Rattle.text_reader.specs.Lines.{Line}
use Rattle.model.specs.declared.Signal.{Signal}
use Rattle.base_laws.specs.Sum.{joined}
use Rattle.base_laws.specs.Indexed.{list}
use Rattle.model.specs.Network.{entry, link_count, signal_count, movement_count, step_count, tram_count, past_count, on_timeline, signal_line, timeline_line, step_line, trams, signal, capacity, travel_time, exit_rate, signal_of, phase_mask, standing, waiting_at_start, from_link, to_link, rate, share, timeline_length, past_entries, past_exits, step_length, demand, tram_phase}
use Rattle.model.specs.Flows.{offered, signal_at, timeline_inflow, timeline_outflow, taken, waits}
use Rattle.model.specs.Table.{letter_g}
use Rattle.base_laws.proofs.Sums.{list_at, list_length, list_same}
use Rattle.model.proofs.Shown.{kept, same-phases}
use Rattle.text_reader.proofs.Laws.{record-past}
use Rattle.model_text.specs.NetworkText.{NetworkNumbers, network_lines}
use Rattle.model_text.proofs.Lines.{counted, signal-says, link-says, movement-says, past-says, step-says, trams-are}
use Rattle.model_text.proofs.Formed.{Formed}
use Rattle.model_carry.specs.Part.{clipped, signal_numbers, link_numbers, movement_numbers, past_numbers, step_numbers, part}
use Rattle.model_carry.proofs.Trams.{clipped-phase}
use Rattle.base_laws.proofs.Laws.{get_d-behind}
use Rattle.model_carry.proofs.GoesOn.{GoesOn, SameLink, SameMovement}
use Rattle.model_carry.proofs.Agree.{timeline-inflow-agree, timeline-outflow-agree, signal-agree, taken-agree, waits-agree}

-- pairs, one behind the other
module _ (f g : ℕ → ℕ) where
  abbrev pair : ℕ → List ℕ
  pair i = f i ∷ g i ∷ []

  pub pairs-length : (n : ℕ) → length (joined n pair) ≡ 2 * n
  unfolding joined
  pairs-length zero = refl
  pairs-length (suc n) = length-append (joined n pair) (pair n) ∙ omega (arith, pairs-length n)

  pairs-at : (n i : ℕ) → i < n → (get_or (joined n pair) (2 * i) 0 ≡ f i) × (get_or (joined n pair) (2 * i + 1) 0 ≡ g i)
  unfolding joined
  pairs-at zero i h = absurd (omega arith)
  pairs-at (suc n) i h = go (eq-or-lt_of_le h) (pairs-at n i)
    where
      go : (suc i ≡ suc n) ⊎ (suc i < suc n) → (i < n → (get_or (joined n pair) (2 * i) 0 ≡ f i) × (get_or (joined n pair) (2 * i + 1) 0 ≡ g i))
          → (get_or (joined n pair ++ pair n) (2 * i) 0 ≡ f i) × (get_or (joined n pair ++ pair n) (2 * i + 1) 0 ≡ g i)
      go (inl e) ih =
          let j : n ≡ i = omega arith in
          let a : 2 * i ≡ length (joined n pair) + 0 = omega (arith, pairs-length n) in
          let b : 2 * i + 1 ≡ length (joined n pair) + 1 = omega (arith, pairs-length n) in (
            ap (λ x. get_or (joined n pair ++ pair n) x 0) a ∙ get_or-append-add (joined n pair) (pair n) 0 0 ∙ ap f j,
            ap (λ x. get_or (joined n pair ++ pair n) x 0) b ∙ get_or-append-add (joined n pair) (pair n) 1 0 ∙ ap g j,
          )
      go (inr u) ih =
          let r = ih (omega arith) in (
            List·getD-append (joined n pair) (pair n) 0 (2 * i) (omega (arith, pairs-length n)) ∙ r.0,
            List·getD-append (joined n pair) (pair n) 0 (2 * i + 1) (omega (arith, pairs-length n)) ∙ r.1,
          )

-- ---- a signal's numbers
module _ (s : Signal) where
  abbrev head : List ℕ
  head = s.least_cycle ∷ s.greatest_cycle ∷ s.phases ∷ s.shown ∷ s.shown_for ∷ s.cycle_clock ∷ []

  abbrev times_of : List ℕ
  times_of = joined s.phases (λ k. get_or s.least k 0 ∷ get_or s.greatest k 0 ∷ [])

  whole : signal_numbers s ≡ head ++ times_of
  whole = unfold signal_numbers in refl

  pub signal-length : length (signal_numbers s) ≡ 6 + 2 * s.phases
  signal-length = ap length whole ∙ length-append head times_of ∙ ap (λ x. 6 + x) (pairs-length (λ k. get_or s.least k 0) (λ k. get_or s.greatest k 0) s.phases)

  -- the times of phase k, 0 past the last
  module _ (none : (k : ℕ) → s.phases ≤ k → (get_or s.least k 0 ≡ 0) × (get_or s.greatest k 0 ≡ 0)) (k : ℕ) where
    past_end : (j : ℕ) → length (signal_numbers s) ≤ j → get_or (signal_numbers s) j 0 ≡ 0
    past_end j h = List·getD-eq-default (signal_numbers s) 0 h

    least_at : get_or (signal_numbers s) (6 + 2 * k) 0 ≡ get_or s.least k 0
    least_at = elim (dec_le s.phases k) [
      | yes h ↦ past_end (6 + 2 * k) (omega (arith, signal-length)) ∙ sym (none k h).0
      | no h ↦ ap (λ xs. get_or xs (6 + 2 * k) 0) whole ∙ get_d-behind head times_of 6 (2 * k) 0 refl ∙ (pairs-at (λ k. get_or s.least k 0) (λ k. get_or s.greatest k 0) s.phases k (omega arith)).0
    ]

    greatest-at : get_or (signal_numbers s) (7 + 2 * k) 0 ≡ get_or s.greatest k 0
    greatest-at = elim (dec_le s.phases k) [
      | yes h ↦ past_end (7 + 2 * k) (omega (arith, signal-length)) ∙ sym (none k h).1
      | no h ↦
          let e : 7 + 2 * k ≡ 6 + (2 * k + 1) = omega arith in
          ap₂ (λ xs j. get_or xs j 0) whole e ∙ get_d-behind head times_of 6 (2 * k + 1) 0 refl ∙ (pairs-at (λ k. get_or s.least k 0) (λ k. get_or s.greatest k 0) s.phases k (omega arith)).1
    ]

module _ (network plan : List Line) (a c : ℕ) (formed : Formed network) (some : a < c) where
  abbrev X : NetworkNumbers
  X = part network plan a c

  abbrev P : List Line
  P = network_lines X

  -- ---- the counts
  pub part-links : link_count P ≡ link_count network
  part-links = (counted X).link-count ∙ (unfold part in refl)

  pub part-signals : signal_count P ≡ signal_count network
  part-signals = (counted X).signal-count ∙ (unfold part in refl)

  pub part-movements : movement_count P ≡ movement_count network
  part-movements = (counted X).movement-count ∙ (unfold part in refl)

  pub part-steps : step_count P ≡ c - a
  part-steps = (counted X).step_count_lem ∙ (unfold part in refl)

  pub part-trams : tram_count P ≡ length (clipped a c (trams network))
  part-trams = (counted X).tram-count ∙ (unfold part in refl)

  pub part-past : past_count P ≡ past_count network + a
  part-past = (counted X).past-count ∙ (unfold part on_timeline in refl)

  pub part-tram-lines : (r n : ℕ) → n < c - a → tram_phase (trams P) r n ≡ tram_phase (trams network) r (a + n)
  part-tram-lines r n h = rw (trams-are X) (unfold part in clipped-phase a c (trams network) r n (omega arith))

  -- ---- a signal's line
  module _ (r : ℕ) (l : r < signal_count network) where
    abbrev now : Signal
    now = signal_at network plan a r

    signal-entry : (k : ℕ) → entry P (signal_line P r) k ≡ get_or (signal_numbers now) k 0
    signal-entry k = (signal-says X r (unfold part in l)).says k ∙ (unfold part in refl)

    kept-least : now.least ≡ (signal network r).least
    kept-least = kept network plan r (λ (s : Signal). s.least) (λ s q x. refl) a

    kept-greatest : now.greatest ≡ (signal network r).greatest
    kept-greatest = kept network plan r (λ (s : Signal). s.greatest) (λ s q x. refl) a

    -- the `G` line has no number past its last
    pub no-entry : (k : ℕ) → 6 + 2 * now.phases ≤ k → entry network (signal_line network r) k ≡ 0
    unfolding entry
    no-entry k h = record-past letter_g _ _ (formed.signal-forms r l) k (rw (same-phases network plan r a) at h)

    none : (k : ℕ) → now.phases ≤ k → (get_or now.least k 0 ≡ 0) × (get_or now.greatest k 0 ≡ 0)
    unfolding signal
    none k h = (
      ap (λ xs. get_or xs k 0) kept-least ∙ none_of (λ j. entry network (signal_line network r) (6 + 2 * j)) k (no-entry (6 + 2 * k) (omega arith)),
      ap (λ xs. get_or xs k 0) kept-greatest ∙ none_of (λ j. entry network (signal_line network r) (7 + 2 * j)) k (no-entry (7 + 2 * k) (omega arith)),
    )
      where
        none_of : (f : ℕ → ℕ) (k : ℕ) → f k ≡ 0 → get_or (list 8 f) k 0 ≡ 0
        none_of f k e = elim (dec_le 8 k) [
          | yes u ↦ List·getD-eq-default (list 8 f) 0 (omega (arith, list_length 8 f))
          | no u ↦ list_at 8 f k (omega arith) ∙ e
        ]

    -- the times of the phases, the least or the greatest, from their first place in the line
    times-same : (first : ℕ) (old : List ℕ) → old ≡ list 8 (λ k. entry network (signal_line network r) (first + 2 * k)) → ((k : ℕ) → get_or (signal_numbers now) (first + 2 * k) 0 ≡ get_or old k 0)
        → list 8 (λ k. entry P (signal_line P r) (first + 2 * k)) ≡ old
    times-same first old e at =
        list_same 8 _ _ (λ k u. signal-entry (first + 2 * k) ∙ at k ∙ ap (λ xs. get_or xs k 0) e ∙ list_at 8 (λ k. entry network (signal_line network r) (first + 2 * k)) k u) ∙ sym e

    -- the signal is what it is at boundary a
    pub part-signal : signal P r ≡ now
    unfolding signal signal_numbers
    part-signal = rw (signal-entry 0, signal-entry 1, signal-entry 2, signal-entry 3, signal-entry 4, signal-entry 5, times-same 6 now.least kept-least (least_at now none), times-same 7 now.greatest kept-greatest (greatest-at now none))

  -- ---- a link's and a movement's line
  part-link : (i : ℕ) → i < link_count network → SameLink network P i
  part-link i l =
      let s = link-says X i (unfold part in l) in
      record {
        same-capacity = unfold part link_numbers capacity in s.says 0;
        same-travel = unfold part link_numbers travel_time in s.says 1;
        same-exit = unfold part link_numbers exit_rate in s.says 2;
        same-signal = unfold part link_numbers signal_of in s.says 3;
        same-mask = unfold part link_numbers phase_mask in s.says 4;
        same-standing = unfold part link_numbers standing in s.says 5;
      }

  pub part-waiting : (i : ℕ) → i < link_count network → waiting_at_start P i ≡ waits network plan a i
  unfolding waiting_at_start
  part-waiting i l = (link-says X i (unfold part in l)).says 6 ∙ (unfold part link_numbers in refl)

  part-movement : (j : ℕ) → j < movement_count network → SameMovement network P j
  unfolding part movement_numbers
  part-movement j l =
      record {
        same_from = unfold from_link in (movement-says X j l).says 0;
        same-to = unfold to_link in (movement-says X j l).says 1;
        same-rate = unfold rate in (movement-says X j l).says 2;
        same-share = unfold share in (movement-says X j l).says 3;
      }

  -- ---- a step's line
  past-entry : (m k : ℕ) → m < past_count network + a → entry P (timeline_line P m) k ≡ get_or (past_numbers network plan a c m) k 0
  past-entry m k h = (past-says X m (unfold part on_timeline in h)).says k ∙ (unfold part in refl)

  step-entry : (n k : ℕ) → n < c - a → entry P (step_line P n) k ≡ get_or (step_numbers network plan a c n) k 0
  step-entry n k h = (step-says X n (unfold part in h)).says k ∙ (unfold part in refl)

  pub part_length : (m : ℕ) → m < past_count network + a + (c - a) → timeline_length P m ≡ timeline_length network m
  unfolding timeline_length
  part_length m h = elim (dec_le (past_count network + a) m) [
    | yes u ↦ later (m - (past_count network + a)) (omega arith) (omega arith)
    | no u ↦ past-entry m 0 (omega arith) ∙ (unfold past_numbers timeline_length in refl)
  ]
    where
      later : (n : ℕ) → n < c - a → m ≡ past_count network + a + n → entry P (timeline_line P m) 0 ≡ entry network (timeline_line network m) 0
      later n l e =
          let f : m ≡ on_timeline P n = unfold on_timeline in omega (arith, part-past) in
          let g : m ≡ on_timeline network (a + n) = unfold on_timeline in omega arith in
          let s : entry P (timeline_line P (on_timeline P n)) 0 ≡ entry network (timeline_line network (on_timeline network (a + n))) 0 =
          unfold step_line step_numbers step_length timeline_length in step-entry n 0 l in
          ap (λ k. entry P (timeline_line P k) 0) f ∙ s ∙ ap (λ k. entry network (timeline_line network k) 0) (sym g)

  pub part-demand : (n i : ℕ) → n < c - a → i < link_count network → demand P n i ≡ demand network (a + n) i
  unfolding demand
  part-demand n i h l =
      step-entry n (1 + i) h
      ∙ (unfold step_numbers demand in get_d-behind (step_length network (a + n) ∷ []) (list (link_count network) (demand network (a + n))) 1 i 0 refl ∙ list_at (link_count network) (demand network (a + n)) i l)

  abbrev ran : ℕ → List ℕ
  ran m = joined (link_count network) (λ i. timeline_inflow network plan m i ∷ timeline_outflow network plan m i ∷ [])

  past-number : (m k : ℕ) → m < past_count network + a → entry P (timeline_line P m) (1 + k) ≡ get_or (ran m) k 0
  past-number m k h = past-entry m (1 + k) h ∙ (unfold past_numbers in get_d-behind (timeline_length network m ∷ []) (ran m) 1 k 0 refl)

  pub part-past-in : (m i : ℕ) → m < past_count network + a → i < link_count network → past_entries P m i ≡ timeline_inflow network plan m i
  unfolding past_entries
  part-past-in m i h l = past-number m (2 * i) h ∙ (pairs-at (timeline_inflow network plan m) (timeline_outflow network plan m) (link_count network) i l).0

  pub part-past-out : (m i : ℕ) → m < past_count network + a → i < link_count network → past_exits P m i ≡ timeline_outflow network plan m i
  unfolding past_exits
  part-past-out m i h l =
      let e : 2 + 2 * i ≡ 1 + (2 * i + 1) = omega arith in
      ap (entry P (timeline_line P m)) e ∙ past-number m (2 * i + 1) h ∙ (pairs-at (timeline_inflow network plan m) (timeline_outflow network plan m) (link_count network) i l).1

  -- ---- the part goes on from boundary a of any plan whose first a lines are these
  pub goes_on : (whole rest : List Line) → ((n k : ℕ) → n < a → entry plan n k ≡ entry whole n k) → ((i : ℕ) → i < link_count network → taken network plan a i ≤ offered network a i)
      → ((n k : ℕ) → n < c - a → entry rest n k ≡ entry whole (a + n) k)
      → GoesOn network whole P rest a
  goes_on whole rest agree few planned =
      record {
        links = part-links;
        signals = part-signals;
        movements = part-movements;
        past = part-past;
        some-step = omega (arith, part-steps);
        link = part-link;
        movement = part-movement;
        state = λ r l. part-signal r l ∙ signal-agree network plan whole a agree a r (omega arith);
        waiting-at = λ i l. part-waiting i l ∙ waits-agree network plan whole a agree i;
        taken_at = λ i l. rw (← (taken-agree network plan whole a agree i)) (few i l);
        lengths = λ m u. part_length m (omega (arith, part-steps));
        demands = λ n i u l. part-demand n i (omega (arith, part-steps)) l;
        past-in = λ m i u l. part-past-in m i u l ∙ timeline-inflow-agree network plan whole a agree m i u;
        past-out = λ m i u l. part-past-out m i u l ∙ timeline-outflow-agree network plan whole a agree m i u;
        tram = λ n r u. part-tram-lines r n (omega (arith, part-steps));
        planned = λ n k u. planned n k (omega (arith, part-steps));
      }
