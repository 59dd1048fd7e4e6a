-- The lines of a block, read one after another: one law for each way through a turn of the loop.
use Rattle.base_laws.proofs.Kit.{ℕ, suc, ◌+◌, ◌≤◌, ◌<◌, ◌≡◌, sym, ap, ◌∙◌, Bool, true, false, ◌⊎◌, inl, inr, List, eq-or-lt_of_le, sub-zero, add-one, arith, length, get_or, set, length-set, get_or-set_same, get_or-set_other}
use Rattle.base_search.specs.declared.Refusal.{Refusal}
use Rattle.base_search.specs.Checks.{refusal, Checks, each, or_else, checked, verdict, Verdict}
use Rattle.base_search.proofs.Laws.{first-hit, first_next, first_done}
use Rattle.text_reader.specs.Lines.{Line, lines}
use Rattle.text_reader.specs.Reading.{Starts}
use Rattle.model.specs.Table.{record_checks}
use Rattle.network_tables.specs.Rows.{RowRead, LineHeld}
use Rattle.network_tables.proofs.Rows.{line-fields}
use Rattle.network_tables.specs.Blocks.{Block, block_checks, fields, PassedTo, ReadTo, Records, RowsTo, TableTo, RowsJudged, RowsHeld}
use Rattle.std.specs.Prelude.{Option, Some, None, Ok, Err}
use Rattle.std.specs.Borrow.{Bor}

-- ---- a line that is a record, by its read
module _ {letter width : ℕ} {text : List ℕ} {at : ℕ} {before : List ℕ} {r : (Option ℕ)} {after : List ℕ} (row : RowRead letter width text at before r after)
    (line number item : ℕ) (valid : Bool) (s : Starts text at line) where
  pub line-malformed : r ≡ None → verdict (record_checks (lines text) line letter width number item valid) ≡ Err (refusal 1 (suc line) 0)
  unfolding verdict or_else checked
  line-malformed e = rw (row.malformed e line s)

  module _ {next : ℕ} (e : r ≡ Some next) where
    pub line-invalid : valid ≡ false → verdict (record_checks (lines text) line letter width number item valid) ≡ Err (refusal number (suc line) item)
    unfolding verdict or_else checked
    line-invalid v = rw ((row.held next e line s).form, v)

    pub line-valid : valid ≡ true → verdict (record_checks (lines text) line letter width number item valid) ≡ Ok tt
    unfolding verdict or_else checked
    line-valid v = rw ((row.held next e line s).form, v)

-- ---- checks by rising index
module _ {n : ℕ} {checks : ℕ → Checks} where
  pub passed_none : PassedTo n checks 0
  unfolding verdict
  passed_none = record { within = omega arith; left = rw sub-zero }

  module _ {i : ℕ} (inv : PassedTo n checks i) where
    pub passed-all : n ≤ i → verdict (each n checks) ≡ Ok tt
    passed-all h = inv.left ∙ first_done (λ k. verdict (checks k)) n i h

    pub passed-stop : i < n → {r : Refusal} → verdict (checks i) ≡ Err r → verdict (each n checks) ≡ Err r
    passed-stop h {r} e = inv.left ∙ first-hit (λ k. verdict (checks k)) n i r h e

    pub passed-next : i < n → verdict (checks i) ≡ Ok tt → PassedTo n checks (i + 1)
    passed-next h e = record { within = omega arith; left = inv.left ∙ first_next (λ k. verdict (checks k)) n i h e }

-- ---- the lines of a block
module _ {text : List ℕ} {b : Block} {at : ℕ} where
  pub block-begin : Starts text at (b.place 0) → ReadTo text b at 0
  block-begin s = record { passed = passed_none; starts = s }

  module _ {i : ℕ} (inv : ReadTo text b at i) where
    pub block-end : b.count ≤ i → Starts text at (b.place b.count)
    block-end h = let e : i ≡ b.count = omega (arith, inv.passed.within) in rw e at inv.starts

    pub block-next : i < b.count → {next : ℕ} → verdict (b.checks i) ≡ Ok tt → Starts text next (b.place (suc i)) → ReadTo text b next (i + 1)
    block-next h e s = record { passed = passed-next inv.passed h e; starts = rw add-one s }

    -- of records
    module _ {letter width number : ℕ} {valid : ℕ → Bool} (records : Records (lines text) b letter width number valid) (h : i < b.count)
        {before : List ℕ} {r : (Option ℕ)} {after : List ℕ} (row : RowRead letter width text at before r after) where
      pub records-malformed : r ≡ None → verdict (block_checks b) ≡ Err (refusal 1 (suc (b.place i)) 0)
      records-malformed e =
          passed-stop inv.passed h (ap verdict (records.shape i) ∙ line-malformed row (b.place i) number (suc i) (valid i) inv.starts e)

      module _ {next : ℕ} (e : r ≡ Some next) where
        pub records-invalid : valid i ≡ false → verdict (block_checks b) ≡ Err (refusal number (suc (b.place i)) (suc i))
        records-invalid v =
            passed-stop inv.passed h (ap verdict (records.shape i) ∙ line-invalid row (b.place i) number (suc i) (valid i) inv.starts e v)

        pub records-next : valid i ≡ true → ReadTo text b next (i + 1)
        records-next v =
            block-next h (ap verdict (records.shape i) ∙ line-valid row (b.place i) number (suc i) (valid i) inv.starts e v)
            (rw (records.follow i) (row.held next e (b.place i) inv.starts).starts)

-- ---- the items of a table
module _ {T : Type 0} {Gives : List ℕ → T → Type 0} where
  pub table-begin : {text : List ℕ} {b : Block} {width size at : ℕ} {table : List T} → Starts text at (b.place 0) → length table ≡ size → TableTo Gives text b width size at 0 table
  table-begin s room = record { read = block-begin s; room = room; rows = record { given = λ j h. absurd (omega arith) } }

  -- one item more is made of its line, and those before it are kept
  module _ {text : List ℕ} {b : Block} {width size at i : ℕ} {table : List T} (inv : TableTo Gives text b width size at i table) (room : i < size)
      {item : T} (made : Gives (fields (lines text) (b.place i) width) item) where
    pub table-rows : RowsTo Gives (lines text) b width (i + 1) (set table i item)
    table-rows = record { given = λ j h none. by none (eq-or-lt_of_le {n = j} {m = i} (omega arith)) }
      where
        by : {j : ℕ} (none : T) → (j ≡ i) ⊎ (j < i) → Gives (fields (lines text) (b.place j) width) (get_or (set table i item) j none)
        by none (inl q) = rw (q, get_or-set_same table i item none (omega (arith, inv.room))) made
        by {j} none (inr q) = rw (get_or-set_other table i j item none (λ e. omega arith)) (inv.rows.given j q none)

    pub table-next : {next : ℕ} → ReadTo text b next (i + 1) → TableTo Gives text b width size next (i + 1) (set table i item)
    table-next read = record { read = read; room = length-set table i item ∙ inv.room; rows = table-rows }

  -- ---- items that are judged as they are read
  module _ {text : List ℕ} {b : Block} {letter width first count size : ℕ} {post : Bor (List T) → ℕ → Verdict → Type 0} (judged : RowsJudged Gives (lines text) b letter width first count size post)
      {at i : ℕ} {table : List T} (inv : TableTo Gives text b width size at i table) (h : i < count) {old : List ℕ} {r : Option ℕ} {after : List ℕ} (row : RowRead letter (length old) text at old r after) (fill : length old ≡ width) where
    below : i < b.count
    below = omega (arith, judged.counted)

    pub judged-malformed : r ≡ None → verdict (block_checks b) ≡ Err (refusal 1 (first + i) 0)
    judged-malformed e = passed-stop inv.read.passed below (judged.forms i (rw fill at (row.malformed e (b.place i) inv.read.starts)))

    module _ {next : ℕ} (e : r ≡ Some next) (room : i < size) {item : T} (gives : Gives after item)
        {shown : Bor (List T)} (shows : shown.now ≡ set table i item) {said : Verdict} (says : post shown i said) where
      line : LineHeld letter width text (b.place i) next after
      line = rw fill at (row.held next e (b.place i) inv.read.starts)

      made : Gives (fields (lines text) (b.place i) width) item
      made = rw (line-fields line (row.size ∙ fill)) at gives

      said-is : verdict (b.checks i) ≡ said
      said-is =
          judged.values i shown said h (ap length shows ∙ length-set table i item ∙ inv.room) (rw shows (table-rows inv room made)) line.form says

      pub judged-broken : {q : Refusal} → said ≡ Err q → verdict (block_checks b) ≡ Err q
      judged-broken s = passed-stop inv.read.passed below (said-is ∙ s)

      pub judged-next : said ≡ Ok tt → TableTo Gives text b width size next (i + 1) (set table i item)
      judged-next s =
          let follows : b.place (suc i) ≡ suc (b.place i) = omega (arith, judged.places i, judged.places (suc i)) in
          table-next inv room made (block-next inv.read below (said-is ∙ s) (rw follows line.starts))

  pub rows-refused : {text : List ℕ} {b : Block} {width size : ℕ} {table : List T} {r : Refusal} → verdict (block_checks b) ≡ Err r → RowsHeld Gives text b width size (Err r) table
  rows-refused {r} e =
      record {
        refused = λ q z. let same : r ≡ q = cc in rw same at e;
        held = λ next z. let z : ◌≡◌ {A = ℕ} 0 1 = cc in absurd (omega arith);
      }

-- records are judged by their values
module _ {T : Type 0} {Gives : List ℕ → T → Type 0} {text : List Line} {b : Block} {letter width first count size number : ℕ} {valid : ℕ → Bool} {item : ℕ → ℕ} {post : Bor (List T) → ℕ → Verdict → Type 0} where
  pub records-judged : ((i : ℕ) → b.checks i ≡ record_checks text (b.place i) letter width number (item i) (valid i)) → b.count ≡ count → ((i : ℕ) → suc (b.place i) ≡ first + i)
      → ((i : ℕ) (table : Bor (List T)) (said : Verdict) → i < count → RowsTo Gives text b width (i + 1) table.now → post table i said → said ≡ checked (valid i) number (first + i) (item i))
      → RowsJudged Gives text b letter width first count size post
  unfolding verdict or_else checked
  records-judged shape counted places values =
      record {
        counted = counted;
        places = places;
        forms = λ i f. ap verdict (shape i) ∙ rw (f, places i);
        values = λ i table said h long rows f says. ap verdict (shape i) ∙ rw (f, places i) (sym (values i table said h rows says));
      }
