-- Lines that have passed, read again and put as they are.
use Rattle.base_laws.proofs.Kit.{ℕ, suc, ◌+◌, ◌*◌, ◌≤◌, ◌<◌, ◌≡◌, refl, ap, ◌∙◌, true, List, ◌∷◌, ◌++◌, arith, length, get_or, take, drop}
use Rattle.text_reader.specs.Lines.{lines}
use Rattle.text_reader.specs.Reading.{Starts}
use Rattle.base_laws.specs.Indexed.{over, list}
use Rattle.text_writer.specs.Records.{record_text, record_texts}
use Rattle.base_laws.specs.Sum.{joined}
use Rattle.model.specs.Network.{max_links, entry}
use Rattle.model.specs.Table.{is_form, letter_h, letter_s}
use Rattle.network_tables.specs.Fields.{past_size}
use Rattle.network_tables.specs.declared.NetworkTables.{NetworkTables}
use Rattle.network_writer.specs.declared.Output.{Output}
use Rattle.network_writer.specs.Put.{longest, Put}
use Rattle.network_tables.specs.Rows.{ReadAgain}
use Rattle.network_tables.proofs.Rows.{again_joined, line-fields}
use Rattle.network_writer.proofs.Put.{lines_none, lines_more}
use Rattle.network_writer.proofs.Filling.{front-is}
use Rattle.carry.specs.declared.PassedLines.{PassedLines}
use Rattle.carry.specs.declared.Standing.{Standing}
use Rattle.carry.specs.Rows.{volumes_in}
use Rattle.carry.proofs.Filling.{volumes-length}

-- ---- lines that have passed: k of them are put
abbrev Forms : List ℕ → ℕ → ℕ → ℕ → ℕ → Type 0
Forms text first letter width count = (k : ℕ) → k < count → is_form (lines text) (first + k) letter width ≡ true

-- line `first + k` starts at `line`
pub record CopiedTo (text : List ℕ) (passed : PassedLines) (old : Output) (row : List ℕ) (line : ℕ) (now : Output) (k : ℕ) : Type 0 where
  pub few : k ≤ passed.count
  pub sized-row : length row ≡ passed.width
  pub buffer : now.out.ghost_name ≡ old.out.ghost_name
  pub small : now.at ≤ old.at + longest * k
  pub when : (first : ℕ) → Starts text passed.at first → Forms text first passed.letter passed.width passed.count
      → Starts text line (first + k) × Put k (record_texts passed.letter k (λ j. list passed.width (entry (lines text) (first + j)))) old now

module _ {text : List ℕ} {passed : PassedLines} {old : Output} where
  pub copied_none : {row : List ℕ} → length row ≡ passed.width → CopiedTo text passed old row passed.at old 0
  copied_none l =
      record {
        few = omega arith;
        sized-row = l;
        buffer = refl;
        small = omega arith;
        when = λ first s f. let e : first + 0 ≡ first = omega arith in (rw e s, lines_none passed.letter (λ j. list passed.width (entry (lines text) (first + j))) old);
      }

  module _ {row : List ℕ} {line k : ℕ} {now : Output} (inv : CopiedTo text passed old row line now k) where
    module _ (h : k < passed.count) {next : ℕ} {row' : List ℕ} (r : ReadAgain passed.letter (length row) text line row next row') where
      copied-size : length row' ≡ passed.width
      copied-size = r.size ∙ inv.sized-row

      pub copied_next : {new : Output} → Put 1 (record_text passed.letter row') now new → CopiedTo text passed old row' next new (k + 1)
      copied_next {new} p =
          record {
            few = omega arith;
            sized-row = copied-size;
            buffer = p.buffer ∙ inv.buffer;
            small = omega (arith, p.ends, p.few, inv.small);
            when = λ first s f. go first (inv.when first s f) (f k h);
          }
        where
          go : (first : ℕ) → Starts text line (first + k) × Put k (record_texts passed.letter k (λ j. list passed.width (entry (lines text) (first + j)))) old now
              → is_form (lines text) (first + k) passed.letter passed.width ≡ true
              → Starts text next (first + (k + 1)) × Put (k + 1) (record_texts passed.letter (k + 1) (λ j. list passed.width (entry (lines text) (first + j)))) old new
          go first (s, q) form =
              let held = r.held (first + k) s (rw inv.sized-row form) in
              let same : row' ≡ list passed.width (entry (lines text) (first + k)) = line-fields (rw inv.sized-row at held) copied-size in
              let e : first + (k + 1) ≡ suc (first + k) = omega arith in
              (rw e held.starts, lines_more passed.letter (λ j. list passed.width (entry (lines text) (first + j))) q (rw same at p))

-- ---- `put_steps`: n steps are put
pub record StepsTo (tables : NetworkTables) (at : Standing) (old : Output) (row : List ℕ) (line : ℕ) (now : Output) (n : ℕ) : Type 0 where
  pub few : n ≤ at.boundary
  pub sized-row : length row ≡ past_size
  pub buffer : now.out.ghost_name ≡ old.out.ghost_name
  pub small : now.at ≤ old.at + longest * n
  pub when : (first : ℕ) → Starts tables.text.now tables.reading.steps_at first → Forms tables.text.now first letter_s (1 + tables.reading.counts.links) at.boundary
      → Put n (record_texts letter_h n (λ k. entry (lines tables.text.now) (first + k) 0 ∷ joined tables.reading.counts.links (volumes_in at.ledger.now tables.reading.counts.links k))) old now
      × Starts tables.text.now line (first + n)

abbrev step : NetworkTables → Standing → ℕ → ℕ → List ℕ
step tables at first n = entry (lines tables.text.now) (first + n) 0 ∷ joined tables.reading.counts.links (volumes_in at.ledger.now tables.reading.counts.links n)

module _ {tables : NetworkTables} {at : Standing} {old : Output} where
  pub steps-none : {row : List ℕ} → length row ≡ past_size → StepsTo tables at old row tables.reading.steps_at old 0
  steps-none l =
      record {
        few = omega arith;
        sized-row = l;
        buffer = refl;
        small = omega arith;
        when = λ first s f. let e : first + 0 ≡ first = omega arith in (lines_none letter_h (step tables at first) old, rw e s);
      }

  module _ {row : List ℕ} {line n : ℕ} {now : Output} (inv : StepsTo tables at old row line now n) (h : n < at.boundary) (few-links : tables.reading.counts.links ≤ max_links)
      {width : ℕ} (wide : width ≡ 1 + tables.reading.counts.links) {next : ℕ} {part : List ℕ} (read : ReadAgain letter_s (length (take width row)) tables.text.now line (take width row) next part) where
    -- the row, whose first numbers were read
    abbrev row' : List ℕ
    row' = part ++ drop width row

    r : ReadAgain letter_s (1 + tables.reading.counts.links) tables.text.now line row next row'
    r = rw (← wide) (again_joined (omega (arith, inv.sized-row, few-links)) read)

    module _ {row'' : List ℕ} (filled : row'' ≡ over (get_or row' 0 0 ∷ joined tables.reading.counts.links (volumes_in at.ledger.now tables.reading.counts.links n)) row') where
      same : take (1 + 2 * tables.reading.counts.links) row'' ≡ get_or row' 0 0 ∷ joined tables.reading.counts.links (volumes_in at.ledger.now tables.reading.counts.links n)
      same = front-is (get_or row' 0 0 ∷ joined tables.reading.counts.links (volumes_in at.ledger.now tables.reading.counts.links n)) row' row'' (1 + 2 * tables.reading.counts.links) filled (omega (arith, volumes-length at.ledger.now tables.reading.counts.links n tables.reading.counts.links))

      pub steps_next : length row'' ≡ length row' → {new : Output} → Put 1 (record_text letter_h (take (1 + 2 * tables.reading.counts.links) row'')) now new → StepsTo tables at old row'' next new (n + 1)
      steps_next l {new} p =
          record {
            few = omega arith;
            sized-row = l ∙ r.size ∙ inv.sized-row;
            buffer = p.buffer ∙ inv.buffer;
            small = omega (arith, p.ends, p.few, inv.small);
            when = λ first s f. go first (inv.when first s f) (f n h);
          }
        where
          go : (first : ℕ) → Put n (record_texts letter_h n (step tables at first)) old now × Starts tables.text.now line (first + n)
              → is_form (lines tables.text.now) (first + n) letter_s (1 + tables.reading.counts.links) ≡ true
              → Put (n + 1) (record_texts letter_h (n + 1) (step tables at first)) old new × Starts tables.text.now next (first + (n + 1))
          go first (q, s) form =
              let held = r.held (first + n) s form in
              let e : first + (n + 1) ≡ suc (first + n) = omega arith in
              let whole : take (1 + 2 * tables.reading.counts.links) row'' ≡ step tables at first n = same ∙ ap (λ x. x ∷ joined tables.reading.counts.links (volumes_in at.ledger.now tables.reading.counts.links n)) (held.numbers 0 (omega arith)) in
              (lines_more letter_h (step tables at first) q (rw whole at p), rw e held.starts)
