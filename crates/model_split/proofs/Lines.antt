-- The lines of a half say the half's numbers.
use Rattle.base_laws.proofs.Kit.{◌≡◌, refl, sym, ◌∙◌, Bool, true, List, [], ◌++◌, ℕ, suc, ◌+◌, ◌*◌, ◌≤◌, ◌<◌, dec_le, arith, length, get_or, length-append, List·getD-append, List·getD-eq-default, get_or-append-add}
use Rattle.text_reader.specs.Lines.{Line}
use Rattle.text_writer.proofs.Records.{lines-count, entry-back, form-back}
use Rattle.base_laws.specs.Indexed.{list}
use Rattle.model.specs.Network.{entry, link_count, signal_count, movement_count, step_count, tram_count, past_count, tram_line, signal_line, link_line, movement_line, timeline_line, step_line, on_timeline, trams, tram_phase, signal, capacity, travel_time, exit_rate, signal_of, phase_mask, standing, waiting_at_start, from_link, to_link, rate, share, timeline_length, step_length, demand}
use Rattle.model.specs.Flows.{shown_mask, admitted, let_out, moved}
use Rattle.model.specs.Table.{letter_t, letter_g, letter_q, letter_m, letter_s, letter_p, is_form}
use Rattle.base_laws.proofs.Sums.{list_at, list_length, list_same}
use Rattle.model.proofs.Accepted.{ValidNetwork}
use Rattle.text_reader.proofs.Laws.{record-past}
use Rattle.model_text.proofs.Lines.{Says, counted, tram-says, signal-says, link-says, movement-says, step-says, trams-are}
use Rattle.model_text.proofs.Formed.{Formed}
use Rattle.model_split.specs.Numbering.{rank, picked}
use Rattle.model_split.specs.Halves.{Half, in_field, follows, half_tram_numbers, signal_numbers, movement_numbers, border_in, border_out, link_numbers, step_numbers, half_numbers, half_plan_numbers, half_plan}
use Rattle.model_split.proofs.Names.{counts_of, names_of}
use Rattle.model_split.proofs.Numbering.{rank_lt, picked-length, picked-at}
use Rattle.model_split.proofs.Same.{IsHalf}
use Rattle.model_split.proofs.Trams.{half-phase}

-- a number of the first part of a list, and one behind it
in-picked : (n i : ℕ) (test : ℕ → Bool) (f : ℕ → ℕ) (ys : List ℕ) → i < n → test i ≡ true → get_or (picked n test f ++ ys) (rank test i) 0 ≡ f i
in-picked n i test f ys l t =
    List·getD-append (picked n test f) ys 0 (rank test i) (omega (arith, picked-length test f n, rank_lt test i n t l)) ∙ picked-at test f n i 0 l t

past-picked : (n k : ℕ) (test : ℕ → Bool) (f : ℕ → ℕ) (ys : List ℕ) → get_or (picked n test f ++ ys) (rank test n + k) 0 ≡ get_or ys k 0
past-picked n k test f ys = rw (← (picked-length test f n)) (get_or-append-add (picked n test f) ys k 0)

module _ (network plan : List Line) (first : ℕ → Bool) (h : Half) where
  open counts_of network use {L, R, M, K}
  open names_of network plan first h use {X, N, P, ins, link, new_signal}

  -- ---- the counts
  pub half-links : link_count N ≡ link L
  half-links = (counted X).link-count ∙ (unfold half_numbers in refl)

  pub half-signals : signal_count N ≡ new_signal R
  half-signals = (counted X).signal-count ∙ (unfold half_numbers in refl)

  pub half-movements : movement_count N ≡ rank ins M
  half-movements = (counted X).movement-count ∙ (unfold half_numbers in refl)

  pub half-steps : step_count N ≡ K
  half-steps = (counted X).step_count_lem ∙ (unfold half_numbers in refl)

  pub half-trams : tram_count N ≡ rank (follows network h) (tram_count network)
  half-trams = (counted X).tram-count ∙ (unfold half_numbers in picked-length (follows network h) (half_tram_numbers network h) (tram_count network))

  pub half-past : past_count N ≡ 0
  half-past = (counted X).past-count ∙ (unfold half_numbers in refl)

  -- ---- each line of the half says the numbers of its old line
  pub tram-line : (k : ℕ) → k < tram_count network → follows network h k ≡ true → Says X (tram_line N (rank (follows network h) k)) letter_t (half_tram_numbers network h k)
  tram-line k l t =
      let few : rank (follows network h) k < length X.trams = omega (arith, half-trams, (counted X).tram-count, rank_lt (follows network h) k (tram_count network) t l) in
      let s = tram-says X (rank (follows network h) k) few in
      let e : get_or X.trams (rank (follows network h) k) [] ≡ half_tram_numbers network h k = unfold half_numbers in picked-at (follows network h) (half_tram_numbers network h) (tram_count network) k [] l t in
      rw e at s

  pub signal-line : (r : ℕ) → r < R → h.has-signal r ≡ true → Says X (signal_line N (new_signal r)) letter_g (signal_numbers network h r)
  signal-line r l t =
      let s = signal-says X (new_signal r) (unfold half_numbers in rank_lt h.has-signal r R t l) in
      let e : X.signal (new_signal r) ≡ signal_numbers network h r = unfold half_numbers in picked-at h.has-signal (signal_numbers network h) R r [] l t in
      rw e at s

  pub link-line : (i : ℕ) → i < L → h.has-link i ≡ true → Says X (link_line N (link i)) letter_q (link_numbers network first plan h i)
  link-line i l t =
      let s = link-says X (link i) (unfold half_numbers in rank_lt h.has-link i L t l) in
      let e : X.link (link i) ≡ link_numbers network first plan h i = unfold half_numbers in picked-at h.has-link (link_numbers network first plan h) L i [] l t in
      rw e at s

  pub movement-line : (j : ℕ) → j < M → ins j ≡ true → Says X (movement_line N (rank ins j)) letter_m (movement_numbers network h j)
  movement-line j l t =
      let s = movement-says X (rank ins j) (unfold half_numbers in rank_lt ins j M t l) in
      let e : X.movement (rank ins j) ≡ movement_numbers network h j = unfold half_numbers in picked-at ins (movement_numbers network h) M j [] l t in
      rw e at s

  pub step_line_lem : (n : ℕ) → n < K → Says X (step_line N n) letter_s (step_numbers network first plan h n)
  step_line_lem n l =
      let s = step-says X n (unfold half_numbers in l) in
      let e : X.step n ≡ step_numbers network first plan h n = unfold half_numbers in refl in
      rw e at s

  -- ---- a signal is what it was
  module _ (formed : Formed network) (r : ℕ) (l : r < R) (t : h.has-signal r ≡ true) where
    -- the `G` line has no number past its last
    no-entry : (k : ℕ) → 6 + 2 * (signal network r).phases ≤ k → entry network (signal_line network r) k ≡ 0
    unfolding entry
    no-entry k u = record-past letter_g _ _ (formed.signal-forms r l) k u

    signal-numbers-at : (k : ℕ) → get_or (signal_numbers network h r) k 0 ≡ entry network (signal_line network r) k
    unfolding signal_numbers
    signal-numbers-at k = elim (dec_le (6 + 2 * (signal network r).phases) k) [
      | yes u ↦
          List·getD-eq-default (list (6 + 2 * (signal network r).phases) (entry network (signal_line network r))) 0 (omega (arith, list_length (6 + 2 * (signal network r).phases) (entry network (signal_line network r))))
          ∙ sym (no-entry k u)
      | no u ↦ list_at (6 + 2 * (signal network r).phases) (entry network (signal_line network r)) k (omega arith)
    ]

    signal-entry : (k : ℕ) → entry N (signal_line N (new_signal r)) k ≡ entry network (signal_line network r) k
    signal-entry k = (signal-line r l t).says k ∙ signal-numbers-at k

    pub signal-kept : signal N (new_signal r) ≡ signal network r
    unfolding signal
    signal-kept = rw (signal-entry 0, signal-entry 1, signal-entry 2, signal-entry 3, signal-entry 4, signal-entry 5, times 6, times 7)
      where
        times : (first : ℕ) → list 8 (λ k. entry N (signal_line N (new_signal r)) (first + 2 * k)) ≡ list 8 (λ k. entry network (signal_line network r) (first + 2 * k))
        times first = list_same 8 _ _ (λ k u. signal-entry (first + 2 * k))

  -- ---- a step
  demand-kept : (n i : ℕ) → n < K → i < L → h.has-link i ≡ true → demand N n (link i) ≡ demand network n i + border_in network first plan n i
  unfolding demand step_numbers
  demand-kept n i u l t =
      let e : 1 + link i ≡ suc (link i) = omega arith in
      (step_line_lem n u).says (1 + link i) ∙ rw e (picked-at h.has-link (λ i. entry network (step_line network n) (1 + i) + border_in network first plan n i) L i 0 l t)

  length-kept : (n : ℕ) → n < K → step_length N n ≡ step_length network n
  unfolding step_length timeline_length step_numbers
  length-kept n l =
      let e : entry N (step_line N n) 0 ≡ entry N (timeline_line N (on_timeline N n)) 0 = unfold step_line in refl in
      sym e ∙ (step_line_lem n l).says 0

  -- ---- a plan line: its parts
  abbrev pub masks : ℕ → List ℕ
  masks n = picked R h.has-signal (shown_mask network plan n)

  abbrev pub admissions : ℕ → List ℕ
  admissions n = picked L h.has-link (λ i. in_field (admitted network plan n i + border_in network first plan n i))

  abbrev pub exits : ℕ → List ℕ
  exits n = picked L h.has-link (λ i. in_field (let_out network plan n i + border_out network first plan n i))

  abbrev pub moves : ℕ → List ℕ
  moves n = picked M ins (moved network plan n)

  plan-entry : (n k : ℕ) → n < K → entry P n k ≡ get_or (masks n ++ (admissions n ++ (exits n ++ moves n))) k 0
  unfolding entry half_plan
  plan-entry n k l = entry-back letter_p K (half_plan_numbers network first plan h) n l k ∙ (unfold half_plan_numbers in refl)

  past-masks : (n k : ℕ) → n < K → entry P n (new_signal R + k) ≡ get_or (admissions n ++ (exits n ++ moves n)) k 0
  past-masks n k l = plan-entry n (new_signal R + k) l ∙ past-picked R k h.has-signal (shown_mask network plan n) (admissions n ++ (exits n ++ moves n))

  past-admissions : (n k : ℕ) → n < K → entry P n (new_signal R + (link L + k)) ≡ get_or (exits n ++ moves n) k 0
  past-admissions n k l = past-masks n (link L + k) l ∙ past-picked L k h.has-link (λ i. in_field (admitted network plan n i + border_in network first plan n i)) (exits n ++ moves n)

  past-exits : (n k : ℕ) → n < K → entry P n (new_signal R + (2 * link L + k)) ≡ get_or (moves n) k 0
  past-exits n k l =
      let e : 2 * link L + k ≡ link L + (link L + k) = omega arith in
      rw e (past-admissions n (link L + k) l ∙ past-picked L k h.has-link (λ i. in_field (let_out network plan n i + border_out network first plan n i)) (moves n))

  mask-written : (n r : ℕ) → n < K → r < R → h.has-signal r ≡ true → shown_mask N P n (new_signal r) ≡ shown_mask network plan n r
  mask-written n r l u t = (unfold shown_mask in (plan-entry n (new_signal r) l ∙ in-picked R r h.has-signal (shown_mask network plan n) (admissions n ++ (exits n ++ moves n)) u t))

  pub admitted-written : (n i : ℕ) → n < K → i < L → h.has-link i ≡ true → admitted N P n (link i) ≡ in_field (admitted network plan n i + border_in network first plan n i)
  admitted-written n i l u t =
      let e : admitted N P n (link i) ≡ entry P n (new_signal R + link i) = unfold admitted in rw half-signals in
      e ∙ past-masks n (link i) l ∙ in-picked L i h.has-link (λ i. in_field (admitted network plan n i + border_in network first plan n i)) (exits n ++ moves n) u t

  pub let-out-written : (n i : ℕ) → n < K → i < L → h.has-link i ≡ true → let_out N P n (link i) ≡ in_field (let_out network plan n i + border_out network first plan n i)
  let-out-written n i l u t =
      let e : let_out N P n (link i) ≡ entry P n (new_signal R + (link L + link i)) = unfold let_out in rw (half-signals, half-links) in
      e ∙ past-admissions n (link i) l ∙ in-picked L i h.has-link (λ i. in_field (let_out network plan n i + border_out network first plan n i)) (moves n) u t

  moved-written : (n j : ℕ) → n < K → j < M → ins j ≡ true → moved N P n (rank ins j) ≡ moved network plan n j
  moved-written n j l u t =
      let e : moved N P n (rank ins j) ≡ entry P n (new_signal R + (2 * link L + rank ins j)) = unfold moved in rw (half-signals, half-links) in
      e ∙ past-exits n (rank ins j) l ∙ picked-at ins (moved network plan n) M j 0 u t

  -- its form
  plan-width : (n : ℕ) → length (half_plan_numbers network first plan h n) ≡ new_signal R + (2 * link L + rank ins M)
  unfolding half_plan_numbers
  plan-width n =
      omega (
        arith,
        length-append (masks n) (admissions n ++ (exits n ++ moves n)),
        length-append (admissions n) (exits n ++ moves n),
        length-append (exits n) (moves n),
        picked-length h.has-signal (shown_mask network plan n) R,
        picked-length h.has-link (λ i. in_field (admitted network plan n i + border_in network first plan n i)) L,
        picked-length h.has-link (λ i. in_field (let_out network plan n i + border_out network first plan n i)) L,
        picked-length ins (moved network plan n) M,
      )

  pub plan-form : (n : ℕ) → n < K → is_form P n letter_p (signal_count N + (2 * link_count N + movement_count N)) ≡ true
  unfolding is_form half_plan
  plan-form n l = rw (half-signals, half-links, half-movements, ← (plan-width n)) (form-back letter_p K (half_plan_numbers network first plan h) n l)

  pub plan-length : length P ≡ K
  unfolding half_plan
  plan-length = lines-count letter_p K (half_plan_numbers network first plan h)

  -- ---- the half
  pub is-half : Formed network → ValidNetwork network → past_count network ≡ 0 → IsHalf network plan N P first h
  is-half formed valid none =
      record {
        links = half-links;
        signals = half-signals;
        movements = half-movements;
        steps = half-steps;
        past = half-past;
        whole-past = none;
        tram-same = λ n r l t. trams-kept n r t;
        signal-same = λ r l t. signal-kept formed r l t;
        capacity-same = λ i l t. unfold capacity link_numbers in (link-line i l t).says 0;
        travel-same = λ i l t. unfold travel_time link_numbers in (link-line i l t).says 1;
        exit-more = λ i l t. unfold exit_rate link_numbers in (link-line i l t).says 2;
        signal-of-other = λ i l t. unfold signal_of link_numbers in (link-line i l t).says 3;
        mask-same = λ i l t. unfold phase_mask link_numbers in (link-line i l t).says 4;
        standing-same = λ i l t. unfold standing link_numbers in (link-line i l t).says 5;
        waiting-same = λ i l t. unfold waiting_at_start link_numbers in (link-line i l t).says 6;
        from-number = λ j l t. unfold from_link movement_numbers in (movement-line j l t).says 0;
        to_number = λ j l t. unfold to_link movement_numbers in (movement-line j l t).says 1;
        rate-same = λ j l t. unfold rate movement_numbers in (movement-line j l t).says 2;
        share-same = λ j l t. unfold share movement_numbers in (movement-line j l t).says 3;
        length-same = length-kept;
        demand-more = demand-kept;
        mask-shown = mask-written;
        admitted-more = admitted-written;
        let-out-more = let-out-written;
        moved_same = moved-written;
      }
    where
      trams-kept : (n r : ℕ) → h.has-signal r ≡ true → tram_phase (trams N) (new_signal r) n ≡ tram_phase (trams network) r n
      trams-kept n r t = rw (trams-are X) (unfold half_numbers in half-phase network h formed valid r n t)
