-- The lines that are put, one block behind another, are the carried network's.
use Rattle.base_laws.proofs.Kit.{ℕ, zero, suc, ◌+◌, ◌*◌, ◌-◌, ◌≤◌, ◌<◌, ◌≡◌, refl, sym, ap, ap₂, ◌∙◌, true, List, [], ◌∷◌, ◌++◌, append_assoc, append-nil, add-one, arith, leb-true, length, get_or, get_or-take, take, drop, length-take, length-take-le}
use Rattle.text_reader.specs.Lines.{Line, lines}
use Rattle.text_reader.specs.Reading.{Starts, over}
use Rattle.text_writer.specs.Records.{record_text, record_texts}
use Rattle.text_writer.proofs.Laws.{records-same}
use Rattle.model.specs.declared.Signal.{Signal}
use Rattle.base_laws.specs.Test.{within}
use Rattle.base_laws.specs.Sum.{joined}
use Rattle.base_laws.specs.Indexed.{list}
use Rattle.model.specs.Network.{entry, link_count, signal_count, movement_count, step_count, tram_count, past_count, on_timeline, tram_line, timeline_line, step_line, trams as tram_lines, timeline_length, past_entries, past_exits, step_length, demand}
use Rattle.model.specs.Rules.{tram_exists, valid_tram, valid_phases}
use Rattle.model.specs.Flows.{signal_at, timeline_inflow, timeline_outflow, entered, left}
use Rattle.model.specs.Table.{is_form, letter_n, letter_t, letter_g, letter_q, letter_m, letter_h, letter_s}
use Rattle.base_laws.proofs.Tests.{and_left, and_right}
use Rattle.model.proofs.Accepted.{ValidNetwork, valid-network}
use Rattle.model.proofs.Shown.{same-phases}
use Rattle.model.proofs.Timeline.{past-inflow, past-outflow, plan-inflow, plan-outflow, entered-suc, left-suc}
use Rattle.model.proofs.Rows.{written_at}
use Rattle.network_tables.specs.declared.Counts.{Counts}
use Rattle.network_tables.specs.declared.NetworkTables.{NetworkTables}
use Rattle.network_tables.specs.Places.{Few}
use Rattle.network_tables.specs.declared.Tram.{Tram}
use Rattle.network_tables.specs.Fields.{past_size, entered_at, left_at}
use Rattle.network_tables.specs.Tables.{TablesSized, TramTable}
use Rattle.network_tables.proofs.Tables.{tables-sized, capacity-at, travel-time-at, exit-rate-at, signal-of-at, phase-mask-at, standing-at, from-link-at, to-link-at, rate-at, share-at}
use Rattle.model_text.specs.NetworkText.{count_numbers, network_text}
use Rattle.model_text.proofs.Formed.{Formed, formed-of-holds}
use Rattle.model_carry.specs.Part.{clipped, signal_numbers, link_numbers, movement_numbers, past_numbers, step_numbers, part, carried_text}
use Rattle.model_carry.proofs.Clipped.{clipped-length}
use Rattle.network_writer.specs.declared.Output.{Output}
use Rattle.network_writer.specs.Put.{longest, Put, Early}
use Rattle.network_writer.specs.Texts.{line_texts}
use Rattle.network_writer.proofs.Put.{puts-more}
use Rattle.network_writer.proofs.Texts.{texts-of-list, put_first}
use Rattle.carry.specs.declared.PassedLines.{PassedLines}
use Rattle.carry.specs.Rows.{count_row, carried_link_row, volumes_in, Copied, StepsPutAsked, StepsPut, Rising, SignalsAsked}
use Rattle.network_tables.specs.Fields.{signal_at as signal_in, movement_at, no_signal, movement_row}
use Rattle.network_writer.specs.Texts.{rows_to}
use Rattle.network_writer.proofs.Rows.{each-one}
use Rattle.carry.specs.Trams.{all_left}
use Rattle.carry.specs.declared.Standing.{Standing}
use Rattle.carry.proofs.Trams.{left-is}
use Rattle.carry.specs.Carried.{StandsAt, CarryAsked, TextPut}
use Rattle.base_laws.proofs.Sums.{joined_same}

-- ---- lists and texts
list-first : (n : ℕ) (f : ℕ → ℕ) → list (1 + n) f ≡ f 0 ∷ list n (λ k. f (1 + k))
unfolding list
list-first zero f = refl
list-first (suc n) f = let e : 1 + suc n ≡ suc (1 + n) = omega arith in rw e (ap (λ (xs : List ℕ). xs ++ (f (1 + n) ∷ [])) (list-first n f))

list-pairs : (n : ℕ) (f : ℕ → ℕ) → list (1 + 2 * n) f ≡ f 0 ∷ joined n (λ i. f (1 + 2 * i) ∷ f (2 + 2 * i) ∷ [])
unfolding list joined
list-pairs zero f = refl
list-pairs (suc n) f =
    let e : 1 + 2 * suc n ≡ suc (suc (1 + 2 * n)) = omega arith in
    let d : suc (1 + 2 * n) ≡ 2 + 2 * n = omega arith in
    rw e (append_assoc (list (1 + 2 * n) f) (f (1 + 2 * n) ∷ []) (f (suc (1 + 2 * n)) ∷ []) ∙ ap₂ (λ (xs : List ℕ) x. xs ++ (f (1 + 2 * n) ∷ f x ∷ [])) (list-pairs n f) d)

module _ (letter : ℕ) where
  texts-plus : (m n : ℕ) (f : ℕ → List ℕ) → record_texts letter (m + n) f ≡ record_texts letter m f ++ record_texts letter n (λ k. f (m + k))
  unfolding record_texts
  texts-plus m zero f = let e : m + 0 ≡ m = omega arith in rw e (sym (append-nil _))
  texts-plus m (suc n) f =
      let e : m + suc n ≡ suc (m + n) = omega arith in
      rw e (ap (λ (xs : List ℕ). xs ++ record_text letter (f (m + n))) (texts-plus m n f) ∙ append_assoc (record_texts letter m f) (record_texts letter n (λ k. f (m + k))) (record_text letter (f (m + n))))

-- ---- what is asked of each block
module _ {tables : NetworkTables} {st : Standing} (a : CarryAsked tables st) {trams : List Tram} (held : TramTable (lines tables.text.now) trams) where
  abbrev net : List Line
  net = lines tables.text.now

  abbrev C : Counts
  C = tables.reading.counts

  abbrev b : ℕ
  b = st.boundary

  abbrev signals : List Signal
  signals = st.signals.now

  abbrev waiting : List ℕ
  waiting = st.waiting.now

  abbrev ledger : List ℕ
  ledger = st.ledger.now

  formed : Formed net
  formed = formed-of-holds net a.loaded.holds

  valid : ValidNetwork net
  valid = valid-network net a.loaded.holds

  tram-within : (k : ℕ) → k < tram_count net → (entry net (tram_line net k) 2 ≤ entry net (tram_line net k) 3) × (entry net (tram_line net k) 3 ≤ step_count net)
  unfolding valid_tram tram_exists within entry
  tram-within k h =
      let v = and_right _ _ (and_left _ _ (valid.trams k h)) in (leb-true _ _ (and_left _ _ v), leb-true _ _ (and_right _ _ v))

  left-clipped : all_left b trams C.trams ≡ clipped b (step_count net) (tram_lines net)
  unfolding is_form
  left-clipped = rw a.loaded.counted.trams (left-is b held formed.tram-forms (λ k l. (tram-within k l).0) (λ k l. (tram-within k l).1))

  left-few : length (all_left b trams C.trams) ≤ C.trams
  unfolding tram_lines
  left-few = omega (arith, ap length left-clipped, clipped-length b (step_count net) (take (tram_count net) (drop 1 net)), length-take (tram_count net) (drop 1 net), a.loaded.counted.trams)

  pub counts-asked : {left : ℕ} → left ≡ length (all_left b trams C.trams) → Few C × (b ≤ C.steps) × (left ≤ 16)
  counts-asked e = (a.loaded.counted.few, omega (arith, a.within, a.loaded.counted.steps), omega (arith, left-few, a.loaded.counted.few.trams))

  pub signals-asked : {output : Output} → Early C.signals output → SignalsAsked (take C.signals signals) output
  signals-asked {output} e = record { phases = λ r l. eight r (omega (arith, length-take C.signals signals)); early = rw size e }
    where
      size : length (take C.signals signals) ≡ C.signals
      size = length-take-le C.signals signals (omega (arith, a.signals-size, a.loaded.counted.few.signals))

      eight : (r : ℕ) → r < C.signals → (signal_in (take C.signals signals) r).phases ≤ 8
      eight r h = unfold valid_phases within in
          rw (get_or-take C.signals signals r no_signal h, ap (λ (s : Signal). s.phases) (a.stands.signals-at r (omega (arith, a.loaded.counted.signals))) ∙ same-phases net a.plan r b) (leb-true _ _ (and_right _ _ (valid.phases r (omega (arith, a.loaded.counted.signals)))))

  -- the ledger's numbers are those of the plan
  standing-entered : (plan : List Line) → StandsAt net plan st → (n i : ℕ) → n ≤ b → i < link_count net → entered_at ledger (link_count net) n i ≡ entered net plan n i
  standing-entered plan s n i h l = ap (λ (x : List ℕ). get_or x (2 * n * link_count net + 2 * i) 0) s.rows ∙ (written_at net plan ledger (suc b) n i (omega arith) l).0

  standing-left : (plan : List Line) → StandsAt net plan st → (n i : ℕ) → n ≤ b → i < link_count net → left_at ledger (link_count net) n i ≡ left net plan n i
  standing-left plan s n i h l = ap (λ (x : List ℕ). get_or x (2 * n * link_count net + 2 * i + 1) 0) s.rows ∙ (written_at net plan ledger (suc b) n i (omega arith) l).1

  pub rising : Rising ledger C.links b
  rising = rw a.loaded.counted.links (
      record {
        few-links = omega (arith, a.loaded.counted.links, a.loaded.counted.few.links);
        few-steps = omega (arith, a.within, a.loaded.counted.steps, a.loaded.counted.few.steps);
        rows = a.ledger-room;
        entered = λ n i h l. rw (add-one n) (omega (arith, standing-entered a.plan a.stands n i (omega arith) l, standing-entered a.plan a.stands (suc n) i h l, entered-suc net a.plan n i));
        left = λ n i h l. rw (add-one n) (omega (arith, standing-left a.plan a.stands n i (omega arith) l, standing-left a.plan a.stands (suc n) i h l, left-suc net a.plan n i));
      })

  -- ---- the `H` and `S` lines have passed
  past-forms : (k : ℕ) → k < C.past → is_form net (timeline_line net 0 + k) letter_h (1 + 2 * C.links) ≡ true
  unfolding is_form timeline_line
  past-forms k h =
      let c = a.loaded.counted in
      let e : timeline_line net 0 + k ≡ timeline_line net k = unfold timeline_line in omega arith in
      rw (e, c.links) (formed.past-forms k (omega (arith, c.past)))

  step-place : (n : ℕ) → step_line net 0 + n ≡ step_line net n
  unfolding step_line timeline_line on_timeline
  step-place n = omega arith

  step-forms : (n : ℕ) → n < b → is_form net (step_line net 0 + n) letter_s (1 + C.links) ≡ true
  unfolding is_form
  step-forms n h = rw (step-place n, a.loaded.counted.links) (formed.step-forms n (omega (arith, a.within)))

  rest-forms : (n : ℕ) → n < C.steps - b → is_form net (step_line net 0 + b + n) letter_s (1 + C.links) ≡ true
  unfolding is_form
  rest-forms n h =
      let e : step_line net 0 + b + n ≡ step_line net 0 + (b + n) = omega arith in
      rw (e, step-place (b + n), a.loaded.counted.links) (formed.step-forms (b + n) (omega (arith, a.within, a.loaded.counted.steps)))

  -- what was put of them
  abbrev past : ℕ → PassedLines
  past width = record { at = tables.reading.past_at; letter = letter_h; width = width; count = C.past }

  abbrev rest : ℕ → ℕ → PassedLines
  rest at width = record { at = at; letter = letter_s; width = width; count = C.steps - b }

  past-put : {width : ℕ} → width ≡ 1 + 2 * C.links → {old new : Output} → Copied tables.text.now (past width) old new
      → Put C.past (record_texts letter_h C.past (λ k. list (1 + 2 * C.links) (entry net (timeline_line net 0 + k)))) old new
  past-put e p = rw e at p (timeline_line net 0) a.loaded.past-start past-forms

  steps-put : {old new : Output} (next : ℕ) → StepsPut tables st old next new
      → Put b (record_texts letter_h b (λ n. entry net (step_line net 0 + n) 0 ∷ joined C.links (volumes_in ledger C.links n))) old new
      × Starts tables.text.now next (step_line net 0 + b)
  steps-put next p = p (step_line net 0) a.loaded.steps-start step-forms

  rest_put : (at : ℕ) {width : ℕ} → width ≡ 1 + C.links → {old new : Output} → Starts tables.text.now at (step_line net 0 + b) → Copied tables.text.now (rest at width) old new
      → Put (C.steps - b) (record_texts letter_s (C.steps - b) (λ k. list (1 + C.links) (entry net (step_line net 0 + b + k)))) old new
  rest_put at e s p = rw e at p (step_line net 0 + b) s rest-forms

  -- ---- there are few lines before each block
  abbrev few : Few C
  few = a.loaded.counted.few

  movement-size : length tables.movements.now ≡ C.movements
  movement-size =
      let sized : TablesSized tables.reading tables.links.now tables.movements.now tables.times.now =
      tables-sized a.loaded.counted a.loaded.link-table a.loaded.movement-table a.loaded.time-table in
      sized.movement-size

  module _ {t₁ : List ℕ} {o₀ o₁ : Output} (start : o₀.at ≡ 0) (p₁ : Put 1 t₁ o₀ o₁) where
    pub trams-early : Early (length trams) o₁
    trams-early = omega (arith, held.size, a.loaded.counted.trams, start, p₁.ends, p₁.few, few.trams)

    module _ {t₂ : List ℕ} {o₂ : Output} (p₂ : Put C.trams t₂ o₁ o₂) where
      pub signals-ready : SignalsAsked (take C.signals signals) o₂
      signals-ready = signals-asked (omega (arith, start, p₁.ends, p₁.few, p₂.ends, p₂.few, few.trams, few.signals))

      module _ {t₃ : List ℕ} {o₃ : Output} (p₃ : Put C.signals t₃ o₂ o₃) where
        pub links-early : Early (length tables.links.now) o₃
        links-early = omega (arith, tables.sized.link-size, start, p₁.ends, p₁.few, p₂.ends, p₂.few, p₃.ends, p₃.few, few.trams, few.signals, few.links)

        module _ {t₄ : List ℕ} {o₄ : Output} (p₄ : Put C.links t₄ o₃ o₄) where
          before-movements : o₄.at ≤ longest * 49
          before-movements = omega (arith, start, p₁.ends, p₁.few, p₂.ends, p₂.few, p₃.ends, p₃.few, p₄.ends, p₄.few, few.trams, few.signals, few.links)

          pub movements-early : Early (length tables.movements.now) o₄
          movements-early = omega (arith, movement-size, before-movements, few.movements)

          module _ {t₅ : List ℕ} {o₅ : Output} (p₅ : Put C.movements t₅ o₄ o₅) where
            before-past : o₅.at ≤ longest * 113
            before-past = omega (arith, before-movements, p₅.ends, p₅.few, few.movements)

            pub past-ready : {width : ℕ} → width ≡ 1 + 2 * C.links → (width ≤ past_size) × Early C.past o₅
            past-ready e = (omega (arith, few.links), omega (arith, before-past, few.past))

            module _ {width : ℕ} (e : width ≡ 1 + 2 * C.links) {o₆ : Output} (p₆ : Copied tables.text.now (past width) o₅ o₆) where
              before-steps : o₆.at ≤ longest * 233
              before-steps = omega (arith, before-past, (past-put e p₆).ends, (past-put e p₆).few, few.past)

              pub steps-ready : StepsPutAsked tables st o₆
              steps-ready = record { rising = rising; early = omega (arith, before-steps, a.within, a.loaded.counted.steps, few.steps) }

              pub rest-ready : {o₇ : Output} (next : ℕ) {rest-width : ℕ} → rest-width ≡ 1 + C.links → StepsPut tables st o₆ next o₇ → (rest-width ≤ past_size) × Early (C.steps - b) o₇
              rest-ready next w p₇ =
                  let q = (steps-put next p₇).0 in
                  (omega (arith, few.links), omega (arith, before-steps, q.ends, q.few, a.within, a.loaded.counted.steps, few.steps))

  -- ---- each block is the carried network's
  module _ (plan : List Line) (s : StandsAt net plan st) where
    counts_same : {left : ℕ} → left ≡ length (all_left b trams C.trams) → count_row C b left ≡ count_numbers (part net plan b (step_count net))
    unfolding count_row count_numbers part on_timeline
    counts_same e = let c = a.loaded.counted in simp (c.links, c.signals, c.movements, c.steps, c.past, e ∙ ap length left-clipped) refl

    signals-same : record_texts letter_g C.signals (λ r. signal_numbers (signal_in signals r)) ≡ record_texts letter_g (signal_count net) (λ r. signal_numbers (signal_at net plan b r))
    signals-same = rw a.loaded.counted.signals (records-same letter_g _ _ (signal_count net) (λ r l. ap signal_numbers (s.signals-at r l)))

    links-same : record_texts letter_q C.links (carried_link_row tables.links.now waiting) ≡ record_texts letter_q (link_count net) (link_numbers net plan b (step_count net))
    links-same = rw a.loaded.counted.links (records-same letter_q _ _ (link_count net) (λ i l. unfold carried_link_row link_numbers in
        rw (capacity-at a.loaded.link-table i l, travel-time-at a.loaded.link-table i l, exit-rate-at a.loaded.link-table i l, signal-of-at a.loaded.link-table i l, phase-mask-at a.loaded.link-table i l, standing-at a.loaded.link-table i l, s.waiting-at i l) refl))

    movements-same : record_texts letter_m C.movements (λ j. movement_row (movement_at tables.movements.now j)) ≡ record_texts letter_m (movement_count net) (movement_numbers net plan b (step_count net))
    movements-same = rw a.loaded.counted.movements (records-same letter_m _ _ (movement_count net) (λ j l. unfold movement_numbers in
        rw (from-link-at a.loaded.movement-table j l, to-link-at a.loaded.movement-table j l, rate-at a.loaded.movement-table j l, share-at a.loaded.movement-table j l) refl))

    past_row : (k : ℕ) → k < past_count net → list (1 + 2 * link_count net) (entry net (timeline_line net 0 + k)) ≡ past_numbers net plan b (step_count net) k
    unfolding past_numbers timeline_length past_entries past_exits
    past_row k h =
        let e : timeline_line net 0 + k ≡ timeline_line net k = unfold timeline_line in omega arith in
        rw e
        (list-pairs (link_count net) (entry net (timeline_line net k))
        ∙ ap (λ (xs : List ℕ). entry net (timeline_line net k) 0 ∷ xs)
        (joined_same (link_count net) _ _ (λ i l. ap₂ (λ x y. x ∷ y ∷ []) (sym (past-inflow net plan k i h)) (sym (past-outflow net plan k i h)))))

    past_same : record_texts letter_h C.past (λ k. list (1 + 2 * C.links) (entry net (timeline_line net 0 + k))) ≡ record_texts letter_h (past_count net) (past_numbers net plan b (step_count net))
    past_same = simp (a.loaded.counted.past, a.loaded.counted.links) (records-same letter_h _ _ (past_count net) past_row)

    step-volumes : (n i : ℕ) → n < b → i < link_count net → volumes_in ledger (link_count net) n i ≡ timeline_inflow net plan (on_timeline net n) i ∷ timeline_outflow net plan (on_timeline net n) i ∷ []
    unfolding volumes_in
    step-volumes n i h l =
        let x : entered_at ledger (link_count net) (n + 1) i - entered_at ledger (link_count net) n i ≡ timeline_inflow net plan (on_timeline net n) i =
        rw (add-one n) (omega (arith, standing-entered plan s n i (omega arith) l, standing-entered plan s (suc n) i h l, entered-suc net plan n i, plan-inflow net plan n i)) in
        let y : left_at ledger (link_count net) (n + 1) i - left_at ledger (link_count net) n i ≡ timeline_outflow net plan (on_timeline net n) i =
        rw (add-one n) (omega (arith, standing-left plan s n i (omega arith) l, standing-left plan s (suc n) i h l, left-suc net plan n i, plan-outflow net plan n i)) in
        ap₂ (λ x y. x ∷ y ∷ []) x y

    step_row : (n : ℕ) → n < b → entry net (step_line net 0 + n) 0 ∷ joined (link_count net) (volumes_in ledger (link_count net) n) ≡ past_numbers net plan b (step_count net) (on_timeline net n)
    unfolding past_numbers timeline_length
    step_row n h =
        let e : step_line net 0 + n ≡ timeline_line net (on_timeline net n) = step-place n ∙ unfold step_line in refl in
        ap₂ (λ x (xs : List ℕ). x ∷ xs) (ap (λ x. entry net x 0) e) (joined_same (link_count net) _ _ (λ i l. step-volumes n i h l))

    steps-same : record_texts letter_h b (λ n. entry net (step_line net 0 + n) 0 ∷ joined C.links (volumes_in ledger C.links n)) ≡ record_texts letter_h b (λ n. past_numbers net plan b (step_count net) (past_count net + n))
    unfolding on_timeline
    steps-same = rw a.loaded.counted.links (records-same letter_h _ _ b step_row)

    rest-row : (k : ℕ) → list (1 + link_count net) (entry net (step_line net 0 + b + k)) ≡ step_numbers net plan b (step_count net) k
    unfolding step_numbers step_length timeline_length step_line demand
    rest-row k =
        let e : step_line net 0 + b + k ≡ step_line net (b + k) = unfold step_line timeline_line on_timeline in omega arith in
        rw e (list-first (link_count net) (entry net (step_line net (b + k))))

    rest-same : record_texts letter_s (C.steps - b) (λ k. list (1 + C.links) (entry net (step_line net 0 + b + k))) ≡ record_texts letter_s (step_count net - b) (step_numbers net plan b (step_count net))
    rest-same = simp (a.loaded.counted.steps, a.loaded.counted.links) (records-same letter_s _ _ (step_count net - b) (λ k l. rest-row k))

  -- ---- the tables' blocks, as they were put by a part of each table
  trams-all : length trams ≡ C.trams
  trams-all = held.size ∙ sym a.loaded.counted.trams

  pub trams-counted : {left : ℕ} → left ≡ length (all_left b trams (length trams)) → left ≡ length (all_left b trams C.trams)
  trams-counted e = rw trams-all at e

  pub trams-put : {old new : Output} → Put (length trams) (line_texts letter_t (all_left b trams (length trams))) old new → Put C.trams (line_texts letter_t (all_left b trams C.trams)) old new
  trams-put p = rw trams-all at p

  pub signals-put : {old new : Output} → Put (length (take C.signals signals)) (record_texts letter_g (length (take C.signals signals)) (λ r. signal_numbers (signal_in (take C.signals signals) r))) old new
      → Put C.signals (record_texts letter_g C.signals (λ r. signal_numbers (signal_in signals r))) old new
  signals-put p =
      let e = length-take-le C.signals signals (omega (arith, a.signals-size, few.signals)) in
      rw (e, records-same letter_g _ (λ r. signal_numbers (signal_in signals r)) C.signals (λ r l. ap signal_numbers (get_or-take C.signals signals r no_signal l))) at p

  pub links-put : {old new : Output} → Put (length tables.links.now) (line_texts letter_q (rows_to (length tables.links.now) (λ i. carried_link_row tables.links.now waiting i ∷ []))) old new
      → Put C.links (record_texts letter_q C.links (carried_link_row tables.links.now waiting)) old new
  links-put p = rw (tables.sized.link-size, each-one letter_q (carried_link_row tables.links.now waiting) C.links) at p

  pub movements-put : {old new : Output}
      → Put (length tables.movements.now) (line_texts letter_m (rows_to (length tables.movements.now) (λ j. movement_row (movement_at tables.movements.now j) ∷ []))) old new
      → Put C.movements (record_texts letter_m C.movements (λ j. movement_row (movement_at tables.movements.now j))) old new
  movements-put p = rw (movement-size, each-one letter_m (λ j. movement_row (movement_at tables.movements.now j)) C.movements) at p

  -- ---- all blocks, one behind another
  module _ (next : ℕ) {left width rest-width : ℕ} {o₀ o₁ o₂ o₃ o₄ o₅ o₆ o₇ o₈ : Output} (start : o₀.at ≡ 0)
      (counted : left ≡ length (all_left b trams C.trams))
      (p₁ : Put 1 (record_text letter_n (count_row C b left)) o₀ o₁)
      (p₂ : Put C.trams (line_texts letter_t (all_left b trams C.trams)) o₁ o₂)
      (p₃ : Put C.signals (record_texts letter_g C.signals (λ r. signal_numbers (signal_in signals r))) o₂ o₃)
      (p₄ : Put C.links (record_texts letter_q C.links (carried_link_row tables.links.now waiting)) o₃ o₄)
      (p₅ : Put C.movements (record_texts letter_m C.movements (λ j. movement_row (movement_at tables.movements.now j))) o₄ o₅)
      (e : width ≡ 1 + 2 * C.links) (p₆ : Copied tables.text.now (past width) o₅ o₆)
      (p₇ : StepsPut tables st o₆ next o₇)
      (d : rest-width ≡ 1 + C.links) (p₈ : Copied tables.text.now (rest next rest-width) o₇ o₈) where
    whole-text : (plan : List Line) → StandsAt net plan st
        → record_text letter_n (count_row C b left)
        ++ (line_texts letter_t (all_left b trams C.trams)
        ++ (record_texts letter_g C.signals (λ r. signal_numbers (signal_in signals r))
        ++ (record_texts letter_q C.links (carried_link_row tables.links.now waiting)
        ++ (record_texts letter_m C.movements (λ j. movement_row (movement_at tables.movements.now j))
        ++ ((record_texts letter_h C.past (λ k. list (1 + 2 * C.links) (entry net (timeline_line net 0 + k)))
        ++ record_texts letter_h b (λ n. entry net (step_line net 0 + n) 0 ∷ joined C.links (volumes_in ledger C.links n)))
        ++ record_texts letter_s (C.steps - b) (λ k. list (1 + C.links) (entry net (step_line net 0 + b + k))))))))
        ≡ carried_text net plan b
    unfolding carried_text network_text part on_timeline
    whole-text plan s =
        rw (
          counts_same plan s counted,
          left-clipped,
          texts-of-list letter_t (clipped b (step_count net) (tram_lines net)),
          signals-same plan s,
          links-same plan s,
          movements-same plan s,
          past_same plan s,
          steps-same plan s,
          rest-same plan s,
          ← texts-plus letter_h (past_count net) b (past_numbers net plan b (step_count net)),
        ) refl

    pub all-put : TextPut tables.text.now st o₀.out.now o₈.out.now o₈.at × (o₈.out.ghost_name ≡ o₀.out.ghost_name)
    all-put =
        let (q, starts) = steps-put next p₇ in
        let p = puts-more p₁ (puts-more p₂ (puts-more p₃ (puts-more p₄ (puts-more p₅ (puts-more (puts-more (past-put e p₆) q) (rest_put next d starts p₈)))))) in
        (λ plan s. let t = whole-text plan s in record { long = omega (arith, start, p.ends, ap length t); is = λ h. rw start at (p.is h) ∙ put_first _ o₀.out.now ∙ ap (λ (x : List ℕ). over x o₀.out.now) t }, p.buffer)
