-- The `N`, `T`, `G`, `Q` and `M` lines of a half, put by the program's tables.
use Rattle.base_laws.proofs.Kit.{ℕ, ◌+◌, ◌*◌, ◌-◌, ◌≤◌, ◌<◌, ◌≡◌, refl, ap, ◌∙◌, ◌≢◌, Bool, true, false, not, cond, List, [], ◌∷◌, arith, eq-eqb, ne_eqb, eqb, length, get_or, take, length-take, get_or-take}
use Rattle.std.proofs.lemmas.List.{get_or_default}
use Rattle.text_reader.specs.Lines.{Line}
use Rattle.text_writer.specs.Records.{record_text}
use Rattle.base_laws.specs.Indexed.{list}
use Rattle.model.specs.declared.Signal.{Signal}
use Rattle.model.specs.Signals.{signal_row}
use Rattle.model.specs.Network.{max_links, max_signals, max_movements, entry, signal_line, signal}
use Rattle.model.specs.Table.{letter_n, letter_t, letter_g, letter_q, letter_m}
use Rattle.network_tables.specs.declared.Counts.{Counts}
use Rattle.network_tables.specs.declared.Link.{Link}
use Rattle.network_tables.specs.declared.Movement.{Movement}
use Rattle.network_tables.specs.declared.Tram.{Tram}
use Rattle.network_tables.specs.declared.NetworkTables.{NetworkTables}
use Rattle.network_tables.specs.Fields as fields
use Rattle.network_tables.specs.Fields.{tram_by, tram_at, link_by, link_at}
use Rattle.network_writer.specs.declared.Output.{Output}
use Rattle.network_writer.specs.Put.{Put}
use Rattle.network_writer.specs.Texts.{line_texts, rows_to, RowIs}
use Rattle.network_writer.proofs.Reading.{numbers-are}
use Rattle.base_laws.proofs.Laws.{length-list}
use Rattle.base_laws.proofs.Sums.{list_at}
use Rattle.model_split.specs.Numbering.{rank, picked}
use Rattle.model_split.proofs.Numbering.{picked-length}
use Rattle.split_tables.specs.declared.Whole.{Whole}
use Rattle.split_tables.specs.declared.HalfTables.{HalfTables}
use Rattle.split_tables.specs.Whole.{whole_network}
use Rattle.split_tables.specs.Tables.{is_in, LinksNamed}
use Rattle.split_tables.proofs.Items.{counted-front}
use Rattle.split_text.specs.Rows.{signal_number_in, count_row, tram_kept, tram_in, half_tram_row, half_signal_row, link_kept, half_link_row, movement_kept, half_movement_row, TramsAsked, SignalsAsked, LinksAsked, MovementsAsked}
use Rattle.split_text.specs.Filling.{raised}
use Rattle.split_text.proofs.Border.{movement-here, border-ends}
use Rattle.split_text.proofs.Picked.{rows-are, picks-one, picks-other}
use Rattle.std.specs.Prelude.{Option, Some, None, option_to_list}

-- ---- `signal_number`
module _ (half : HalfTables) (signal : ℕ) where
  pub number-none : signal ≡ 0 → 0 ≡ signal_number_in half signal
  unfolding signal_number_in
  number-none e = rw (eq-eqb signal 0 e) refl

  pub number-some : signal ≢ 0 → get_or half.signals (signal - 1) 0 ≡ signal_number_in half signal
  unfolding signal_number_in
  number-some e = rw (ne_eqb signal 0 e) refl

-- ---- `put_counts`: each table is counted in front
module _ (counts : Counts) (trams : ℕ) (half : HalfTables) where
  counted : (numbers : List ℕ) (n : ℕ) → ℕ → Type 0
  counted numbers n found = found ≡ rank (is_in (take n numbers)) (length (take n numbers))

  pub counts-put : counts.links ≤ length half.links → counts.signals ≤ length half.signals → counts.movements ≤ length half.movements → {a b c : ℕ}
      → a ≡ rank (is_in (take counts.links half.links)) (length (take counts.links half.links))
      → b ≡ rank (is_in (take counts.signals half.signals)) (length (take counts.signals half.signals))
      → c ≡ rank (is_in (take counts.movements half.movements)) (length (take counts.movements half.movements)) → {old new : Output}
      → Put 1 (record_text letter_n (a ∷ b ∷ c ∷ counts.steps ∷ trams ∷ 0 ∷ [])) old new → Put 1 (record_text letter_n (count_row counts trams half)) old new
  unfolding count_row
  counts-put k l m e f g p =
      rw (e ∙ counted-front half.links counts.links k, f ∙ counted-front half.signals counts.signals l, g ∙ counted-front half.movements counts.movements m) at p

-- ---- an item that is kept has one row, and another none
row-of : {T : Type 0} (to_row : T → List ℕ) (left-out : Bool) (item : T) (row : List ℕ) → to_row item ≡ row
    → RowIs (λ t r. r ≡ to_row t) (cond left-out None (Some item)) (cond (not left-out) (row ∷ []) [])
row-of to_row true item row h = refl
row-of to_row false item row h = λ r e. ap (λ z. z ∷ []) (e ∙ h)

many-of : {T : Type 0} (left-out : Bool) (item : T) (row : List ℕ) → length (option_to_list (cond left-out None (Some item))) ≡ length (cond (not left-out) (row ∷ []) [])
many-of true item row = refl
many-of false item row = refl

-- ---- the `G` line of a signal
-- its row in the table is its line's
row-read : (network : List Line) (r : ℕ) → signal_row (signal network r) ≡ list 22 (entry network (signal_line network r))
unfolding signal_row signal list
row-read network r = refl

signal-front : (network : List Line) (r : ℕ) → (signal network r).phases ≤ 8 → take (6 + 2 * (signal network r).phases) (signal_row (signal network r)) ≡ half_signal_row network r
unfolding half_signal_row
signal-front network r few =
    rw row-read
    (numbers-are (6 + 2 * (signal network r).phases) (entry network (signal_line network r)) (list 22 (entry network (signal_line network r)))
    (omega (arith, few, length-list {A = ℕ} (entry network (signal_line network r)) 22)) (λ k l. list_at 22 (entry network (signal_line network r)) k (omega (arith, few))))

module _ {whole : Whole} {old : Output} (a : SignalsAsked whole old) (half : HalfTables) where
  abbrev many : ℕ
  many = whole.tables.reading.counts.signals

  abbrev front : List Signal
  front = take many whole.signals.now

  module _ {r : ℕ} (h : r < length front) {now : Output} (t : Put r (line_texts letter_g (picked r (is_in half.signals) (half_signal_row (whole_network whole)))) old now) where
    signal-here : (none : Signal) → get_or front r none ≡ signal (whole_network whole) r
    signal-here none =
        let u : r < many = omega (arith, h, length-take {A = Signal}) in
        get_or-take many whole.signals.now r none u ∙ get_or_default whole.signals.now r none _ (omega (arith, h, length-take {A = Signal})) ∙ a.holds r u

    pub signals-more : get_or half.signals r 0 ≢ 0 → (none : Signal) → {row : List ℕ} → row ≡ signal_row (get_or front r none) → {width : ℕ} → width ≡ 6 + 2 * (get_or front r none).phases → {new : Output}
        → Put 1 (record_text letter_g (take width row)) now new → Put (r + 1) (line_texts letter_g (picked (r + 1) (is_in half.signals) (half_signal_row (whole_network whole)))) old new
    unfolding is_in
    signals-more some none e w p =
        picks-one letter_g _ _ t (ap not (ne_eqb (get_or half.signals r 0) 0 some))
        (rw (e, w, signal-here none, signal-front (whole_network whole) r (a.few-phases r (omega (arith, h, length-take {A = Signal})))) at p)

    pub signals-same : get_or half.signals r 0 ≡ 0 → Put (r + 1) (line_texts letter_g (picked (r + 1) (is_in half.signals) (half_signal_row (whole_network whole)))) old now
    unfolding is_in
    signals-same none = picks-other letter_g _ _ t (ap not (eq-eqb (get_or half.signals r 0) 0 none))

-- ---- the `T` lines
module _ (trams : List Tram) (half : HalfTables) where
  abbrev pub tram-rows : ℕ → List (List ℕ)
  tram-rows k = cond (tram_in trams half k) (half_tram_row trams half k ∷ []) []

  module _ (k : ℕ) (none : Tram) (h : k < length trams) where
    at-k : get_or trams k none ≡ tram_at trams k
    at-k = get_or_default trams k none (tram_by (λ k. 0)) h

    pub tram-given : (changed : Option Tram) → changed ≡ tram_kept half (get_or trams k none) → RowIs (λ tram row. row ≡ fields.tram_row tram) changed (tram-rows k)
    unfolding tram_kept tram_in half_tram_row
    tram-given changed e = rw (e, at-k) (row-of fields.tram_row (eqb (signal_number_in half (tram_at trams k).signal) 0) _ _ refl)

    pub tram-many : (changed : Option Tram) → changed ≡ tram_kept half (get_or trams k none) → length (option_to_list changed) ≡ length (tram-rows k)
    unfolding tram_kept tram_in
    tram-many changed e = rw (e, at-k) (many-of (eqb (signal_number_in half (tram_at trams k).signal) 0) _ _)

  pub trams-put : {old new : Output} → Put (length trams) (line_texts letter_t (rows_to (length trams) tram-rows)) old new
      → Put (length trams) (line_texts letter_t (picked (length trams) (tram_in trams half) (half_tram_row trams half))) old new
  trams-put p = rw (rows-are (length trams) (tram_in trams half) (half_tram_row trams half)) at p

  pub trams-found : {found : ℕ} → found ≡ length (rows_to (length trams) tram-rows) → found ≡ rank (tram_in trams half) (length trams)
  trams-found e = e ∙ ap length (rows-are (length trams) (tram_in trams half) (half_tram_row trams half)) ∙ picked-length (tram_in trams half) (half_tram_row trams half) (length trams)

-- ---- the `Q` lines of a table's links
module _ (links : List Link) (rates : List ℕ) (half : HalfTables) where
  abbrev pub link-rows : ℕ → List (List ℕ)
  link-rows i = cond (is_in half.links i) (half_link_row links rates half i ∷ []) []

  module _ (i : ℕ) (none : Link) (h : i < length links) where
    pub link-here : get_or links i none ≡ link_at links i
    link-here = get_or_default links i none (link_by (λ k. 0)) h

    pub link-given : (changed : Option Link) → changed ≡ link_kept rates half i (get_or links i none) → RowIs (λ link row. row ≡ fields.link_row link) changed (link-rows i)
    unfolding link_kept half_link_row is_in raised
    link-given changed e = rw (e, link-here) (row-of fields.link_row (eqb (get_or half.links i 0) 0) _ _ refl)

  pub links-put : {n : ℕ} → length links ≡ n → {old new : Output} → Put (length links) (line_texts letter_q (rows_to (length links) link-rows)) old new
      → Put n (line_texts letter_q (picked n (is_in half.links) (half_link_row links rates half))) old new
  links-put {n} e p = rw (e, rows-are n (is_in half.links) (half_link_row links rates half)) at p

-- ---- the `M` lines of a table's movements
module _ (movements : List Movement) (half : HalfTables) where
  abbrev pub movement-rows : ℕ → List (List ℕ)
  movement-rows j = cond (is_in half.movements j) (half_movement_row movements half j ∷ []) []

  module _ (j : ℕ) (none : Movement) (h : j < length movements) where
    pub movement-given : (changed : Option Movement) → changed ≡ movement_kept half j (get_or movements j none) → RowIs (λ movement row. row ≡ fields.movement_row movement) changed (movement-rows j)
    unfolding movement_kept half_movement_row is_in
    movement-given changed e = rw (e, movement-here movements j none h) (row-of fields.movement_row (eqb (get_or half.movements j 0) 0) _ _ refl)

  pub movements-put : {n : ℕ} → length movements ≡ n → {old new : Output} → Put (length movements) (line_texts letter_m (rows_to (length movements) movement-rows)) old new
      → Put n (line_texts letter_m (picked n (is_in half.movements) (half_movement_row movements half))) old new
  movements-put {n} e p = rw (e, rows-are n (is_in half.movements) (half_movement_row movements half)) at p

-- ---- what is asked of each item
pub tram-signal : (trams : List Tram) → TramsAsked trams → (k : ℕ) (none : Tram) → k < length trams → (get_or trams k none).signal ≤ max_signals
tram-signal trams a k none h = rw (get_or_default trams k none (tram_by (λ k. 0)) h) (a.signals k h)

module _ {tables : NetworkTables} {output : Output} where
  pub link-signal : LinksAsked tables output → (i : ℕ) (none : Link) → i < length tables.links.now
      → (i < max_links) × ((get_or tables.links.now i none).signal ≤ max_signals)
  link-signal a i none h =
      let l : i < tables.reading.counts.links = omega (arith, h, tables.sized.link-size) in
      (omega (arith, l, tables.sized.few.links), rw (link-here tables.links.now [] (record { links = []; signals = []; movements = [] }) i none h) (a.signals i l))

  pub movement-ends : MovementsAsked tables output → (j : ℕ) (none : Movement) → j < length tables.movements.now
      → (j < max_movements) × LinksNamed (get_or tables.movements.now j none)
  movement-ends a j none h =
      (omega (arith, h, a.table-asked.size, a.table-asked.few), border-ends a.table-asked j none h)
