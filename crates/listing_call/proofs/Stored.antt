-- The tables while lines come in: what is kept of the first i lines.
use Rattle.base_laws.proofs.Kit.{ℕ, zero, suc, ◌+◌, ◌-◌, ◌*◌, ◌/◌, ◌^◌, ◌≤◌, ◌<◌, ◌≡◌, ◌≢◌, inl, inr, refl, sym, ap, ◌∙◌, Bool, true, false, List, [], add-one, ℕ_discrete, zero-div, arith, leb-true, eqb, length, get_or, set, length-set, get_or-set_same, get_or-set_other}
use Rattle.std.specs.Prelude.{Some}
use Rattle.std.proofs.lemmas.Bool.Decides.{nat_tests}
use Rattle.text_reader.specs.Field.{largest}
use Rattle.base_laws.specs.Test.{◌and◌, ◌or◌, within}
use Rattle.base_laws.specs.Sum.{sum, only}
use Rattle.model.specs.Network.{max_steps, max_signals}
use Rattle.base_laws.proofs.Sums.{sum-ext, sum_bound}
use Rattle.base_laws.proofs.Tests.{and_right, or-neither, or_right}
use Rattle.network_tables.specs.Fields.{line_size}
use Rattle.listing_lines.specs.declared.Variable.{Variable}
use Rattle.listing_lines.specs.declared.Variable.TheVariants.{Shown, Admitted, LetOut, Moved}
use Rattle.listing_lines.specs.Entry.{Entry, setting}
use Rattle.listing_call.specs.Listing.{same, sets, millionths_of, step_of, one, volume, is_volume, listing_entry, set_before, value_before}
use Rattle.listing_call.specs.declared.Place.{Place}
use Rattle.listing_call.specs.Tables.{step_bits, step_bytes, RowsSized, bit_column, column, Placed, spot, bit_at, with_bit, mark_at, variable_number, number_in, bit, has_volume, mask_before, Stored, Empty}
use Rattle.listing_call.proofs.Bits.{bit-set, bit-other, bits_below, sum-change}
use Rattle.listing_call.proofs.Places.{same-is, same_self, same-or-not, step-inside, bit-inside, column-inside, bit-same, volume-same, mask-only, shown-at}

-- ---- one line more
or-false : (t : Bool) → t or false ≡ t
unfolding ◌or◌
or-false true = refl
or-false false = refl

pub same_not : (v w : Variable) → (v ≡ w → ⊥) → same v w ≡ false
same_not v w n = grind (arith, same-is)

module _ (listing : List Entry) (i : ℕ) (w : Variable) (m : ℕ) (e : listing_entry listing i ≡ Some (setting w m)) where
  set-now : set_before listing (i + 1) w ≡ true
  unfolding set_before sets
  set-now = rw (add-one, set_before, e, same_self w) (or_right (set_before listing i w) true refl)

  pub value-now : value_before listing (i + 1) w ≡ m
  unfolding value_before sets millionths_of
  value-now = rw (add-one, value_before, e, same_self w)

  module _ (v : Variable) (n : v ≡ w → ⊥) where
    set-kept : set_before listing (i + 1) v ≡ set_before listing i v
    unfolding set_before sets
    set-kept = rw (add-one, set_before, e, same_not v w n, or-false)

    value-kept : value_before listing (i + 1) v ≡ value_before listing i v
    unfolding value_before sets millionths_of
    value-kept = rw (add-one, value_before, e, same_not v w n)

-- what no line set is 0
pub value-unset : (listing : List Entry) (i : ℕ) (v : Variable) → set_before listing i v ≡ false → value_before listing i v ≡ 0
unfolding set_before value_before
value-unset listing zero v e = refl
value-unset listing (suc i) v e =
    let p = or-neither (set_before listing i v) (sets v (listing_entry listing i)) e in
    rw p.1 (value-unset listing i v p.0)

-- ---- what a line adds
pub volume-none : (s : ℕ) → volume 0 s ≡ 0
unfolding volume
volume-none s = let z : 0 * s ≡ 0 = omega arith in rw z

volume-fits : (m s : ℕ) → is_volume m s ≡ true → volume m s ≤ largest
unfolding is_volume
volume-fits m s e = leb-true (volume m s) largest (and_right _ _ e)

number-volume : (v : Variable) (m s x : ℕ) → has_volume v ≡ true → number_in v m s ≡ Some x → (x ≡ volume m s) × (x ≤ largest)
unfolding has_volume
number-volume v m s x h e = grind (arith, volume-fits)

number-phase : (r j n m s x : ℕ) → j < 8 → number_in (Shown r (suc j) n) m s ≡ Some x → x ≡ only (eqb m one) (2 ^ j)
unfolding within ◌and◌
number-phase r j n m s x h e = grind (arith, nat_tests)

bit-false : (t : Bool) → bit t ≡ 0 → t ≡ false
unfolding bit
bit-false t e = grind arith

bit-true : (t : Bool) → t ≡ true → bit t ≡ 1
unfolding bit
bit-true t e = rw e

phase-same : (r t j n : ℕ) → ◌≡◌ {A = Variable} (Shown r (suc t) n) (Shown r (suc j) n) → t ≡ j
phase-same r t j n c = grind arith

mask-few : (listing : List Entry) (i n r : ℕ) → mask_before listing i n r < 256
unfolding mask_before
mask-few listing i n r = bits_below (λ k. eqb (value_before listing i (Shown (suc r) (suc k) (suc n))) one) 8

mask-same : (listing : List Entry) (i : ℕ) (w : Variable) (m : ℕ) → listing_entry listing i ≡ Some (setting w m) → (n r : ℕ) → ((j : ℕ) → Shown (suc r) (suc j) (suc n) ≡ w → ⊥)
    → mask_before listing (i + 1) n r ≡ mask_before listing i n r
unfolding mask_before
mask-same listing i w m e n r d =
    sum-ext 8 _ _ (λ j l. ap (λ a. only (eqb a one) (2 ^ j)) (value-kept listing i w m e (Shown (suc r) (suc j) (suc n)) (d j)))

zero_bit : (seen : List ℕ) (k : ℕ) → get_or seen (k / 8) 0 ≡ 0 → bit_at seen k ≡ 0
zero_bit seen k h = rw (h, zero-div)

with-bit-length : (seen : List ℕ) (k : ℕ) → length (with_bit seen k) ≡ length seen
with-bit-length seen k = length-set seen (k / 8) _

-- a row that is set is of the same size
sized-set : (width n : ℕ) (rows : List (List ℕ)) (row : List ℕ) → RowsSized width rows → length row ≡ width → RowsSized width (set rows n row)
sized-set width n rows row s e =
    record {
      steps = length-set rows n row ∙ s.steps;
      row = λ m h. elim (ℕ_discrete m n) [
        | yes q ↦ rw (q, get_or-set_same rows n row [] (omega (arith, s.steps))) e
        | no q ↦ rw (get_or-set_other rows n m row [] q) (s.row m h)
      ];
    }

no_sum : (n : ℕ) (f : ℕ → ℕ) → ((k : ℕ) → k < n → f k ≡ 0) → sum n f ≡ 0
no_sum n f h = omega (arith, sum_bound n 0 f (λ k l. omega (arith, h k l)))

none-set : (listing : List Entry) (v : Variable) → 0 ≡ bit (set_before listing 0 v)
unfolding set_before bit
none-set listing v = refl

no-mask : (listing : List Entry) (n r : ℕ) → 0 ≡ mask_before listing 0 n r
unfolding mask_before value_before sum
no-mask listing n r = refl

no-volume : (listing : List Entry) (v : Variable) (s : ℕ) → 0 ≡ volume (value_before listing 0 v) s
unfolding value_before
no-volume listing v s = sym (volume-none s)

shown-parts : (w : Variable) → Placed w → has_volume w ≡ false
    → (n r j : ℕ) × (n < max_steps) × (r < max_signals) × (j < 8) × (w ≡ Shown (suc r) (suc j) (suc n))
unfolding has_volume
shown-parts (Shown r j n) p h = (n - 1, r - 1, j - 1, omega arith, omega arith, omega arith, grind arith)
shown-parts (Admitted i n) p h = cc
shown-parts (LetOut i n) p h = cc
shown-parts (Moved i n) p h = cc

-- ---- nothing, and one line more
-- the tables with so much added to a number, and a bit set
abbrev pub with_number : List (List ℕ) → Place → ℕ → List (List ℕ)
with_number numbers p x = set numbers p.step (set (get_or numbers p.step []) p.number (get_or (get_or numbers p.step []) p.number 0 + x))

abbrev pub with_mark : List (List ℕ) → Place → List (List ℕ)
with_mark seen p = set seen p.step (with_bit (get_or seen p.step []) p.bit)

-- one line more is kept, and its number fits a field
pub record Grown (seconds : ℕ → ℕ) (listing : List Entry) (i : ℕ) (numbers seen : List (List ℕ)) (p : Place) (x : ℕ) : Type 0 where
  pub kept : Stored seconds listing (i + 1) (with_number numbers p x) (with_mark seen p)
  pub fits : get_or (get_or numbers p.step []) p.number 0 + x ≤ largest

module _ (seconds : ℕ → ℕ) (listing : List Entry) where
  pub stored-none : (numbers seen : List (List ℕ)) → Empty numbers seen → Stored seconds listing 0 numbers seen
  stored-none numbers seen a =
      record {
        number-room = a.number-room;
        seen-room = a.seen-room;
        marks = λ v p. no-bit (step_of v - 1) (bit_column v) ∙ none-set listing v;
        masks = λ m r l k. a.no-numbers m r ∙ no-mask listing m r;
        volumes = λ v p h. a.no-numbers (step_of v - 1) (column v) ∙ no-volume listing v (seconds (step_of v - 1));
        counted = no_sum max_steps _ (λ n l. no_sum step_bits _ (λ k h. no-bit n k));
      }
    where
      no-bit : (n k : ℕ) → bit_at (get_or seen n []) k ≡ 0
      no-bit n k = zero_bit (get_or seen n []) k (a.no-marks n (k / 8))

  module _ (i : ℕ) (numbers seen : List (List ℕ)) (s : Stored seconds listing i numbers seen) (w : Variable) (m : ℕ) (e : listing_entry listing i ≡ Some (setting w m)) (p : Placed w)
      (x : ℕ) (free : mark_at seen w ≡ 0) (xq : number_in w m (seconds (step_of w - 1)) ≡ Some x) where
    -- the step of the line's variable, and the rows of that step
    abbrev here : ℕ
    here = step_of w - 1

    abbrev row : List ℕ
    row = get_or numbers here []

    abbrev bytes : List ℕ
    bytes = get_or seen here []

    abbrev numbers' : List (List ℕ)
    numbers' = with_number numbers (spot w) x

    abbrev seen' : List (List ℕ)
    seen' = with_mark seen (spot w)

    unset : set_before listing i w ≡ false
    unset = bit-false (set_before listing i w) (sym (s.marks w p) ∙ free)

    bit-room : bit_column w / 8 < length bytes
    bit-room = omega (arith, bit-inside w p, s.seen-room.row here (step-inside w p))

    number-room : column w < length row
    number-room = omega (arith, column-inside w p, s.number-room.row here (step-inside w p))

    number-row : get_or numbers' here [] ≡ set row (column w) (get_or row (column w) 0 + x)
    number-row = get_or-set_same numbers here _ [] (omega (arith, step-inside w p, s.number-room.steps))

    mark-row : get_or seen' here [] ≡ with_bit bytes (bit_column w)
    mark-row = get_or-set_same seen here _ [] (omega (arith, step-inside w p, s.seen-room.steps))

    -- what is changed, and that all else stays
    added : variable_number numbers' w ≡ variable_number numbers w + x
    added = rw number-row (get_or-set_same row (column w) (get_or row (column w) 0 + x) 0 number-room)

    marked : mark_at seen' w ≡ 1
    marked = rw mark-row (bit-set bytes (bit_column w) bit-room)

    number-stays : (n k : ℕ) → (n ≡ here → k ≢ column w) → get_or (get_or numbers' n []) k 0 ≡ get_or (get_or numbers n []) k 0
    number-stays n k d = elim (ℕ_discrete n here) [
      | yes q ↦ rw (q, number-row) (get_or-set_other row (column w) k (get_or row (column w) 0 + x) 0 (d q))
      | no q ↦ rw (get_or-set_other numbers here n (set row (column w) (get_or row (column w) 0 + x)) [] q)
    ]

    mark-stays : (n k : ℕ) → (n ≡ here → k ≢ bit_column w) → bit_at (get_or seen' n []) k ≡ bit_at (get_or seen n []) k
    mark-stays n k d = elim (ℕ_discrete n here) [
      | yes q ↦ rw (q, mark-row) (bit-other bytes (bit_column w) bit-room k (d q))
      | no q ↦ rw (get_or-set_other seen here n (with_bit bytes (bit_column w)) [] q)
    ]

    marks-more : (v : Variable) → Placed v → mark_at seen' v ≡ bit (set_before listing (i + 1) v)
    marks-more v q = elim (same-or-not v w) [
      | inl z ↦ rw z (marked ∙ sym (bit-true (set_before listing (i + 1) w) (set-now listing i w m e)))
      | inr d ↦
          mark-stays (step_of v - 1) (bit_column v) (λ t c. d (bit-same v w q p t c)) ∙ s.marks v q
          ∙ ap bit (sym (set-kept listing i w m e v d))
    ]

    -- the number of a volume was 0
    volume-old : has_volume w ≡ true → variable_number numbers w ≡ 0
    volume-old h = s.volumes w p h ∙ ap (λ y. volume y (seconds here)) (value-unset listing i w unset) ∙ volume-none (seconds here)

    volume-now : has_volume w ≡ true → variable_number numbers' w ≡ volume (value_before listing (i + 1) w) (seconds here)
    volume-now h =
        let y = (number-volume w m (seconds here) x h xq).0 in
        let z : variable_number numbers w + x ≡ volume m (seconds here) = omega (arith, volume-old h) in
        added ∙ z ∙ ap (λ t. volume t (seconds here)) (sym (value-now listing i w m e))

    volumes-more : (v : Variable) → Placed v → has_volume v ≡ true → variable_number numbers' v ≡ volume (value_before listing (i + 1) v) (seconds (step_of v - 1))
    volumes-more v q h = elim (same-or-not v w) [
      | inl z ↦ rw z (volume-now (ap has_volume (sym z) ∙ h))
      | inr d ↦
          number-stays (step_of v - 1) (column v) (λ t c. d (volume-same v w q p h t c)) ∙ s.volumes v q h
          ∙ ap (λ y. volume y (seconds (step_of v - 1))) (sym (value-kept listing i w m e v d))
    ]

    mask-grown : (n r j : ℕ) → j < 8 → w ≡ Shown (suc r) (suc j) (suc n) → mask_before listing (i + 1) n r ≡ mask_before listing i n r + x
    unfolding mask_before
    mask-grown n r j l q =
        let v = Shown (suc r) (suc j) (suc n) in
        let sec = seconds here in
        let now : value_before listing (i + 1) v ≡ m = ap (value_before listing (i + 1)) (sym q) ∙ value-now listing i w m e in
        let old : value_before listing i v ≡ 0 = ap (value_before listing i) (sym q) ∙ value-unset listing i w unset in
        let is : x ≡ only (eqb m one) (2 ^ j) = number-phase (suc r) j (suc n) m sec x l (ap (λ t. number_in t m sec) (sym q) ∙ xq) in
        let g : only (eqb (value_before listing (i + 1) v) one) (2 ^ j) ≡ x = ap (λ t. only (eqb t one) (2 ^ j)) now ∙ sym is in
        let f : only (eqb (value_before listing i v) one) (2 ^ j) ≡ 0 = ap (λ t. only (eqb t one) (2 ^ j)) old in
        sum-change 8 j x
        (λ t. only (eqb (value_before listing i (Shown (suc r) (suc t) (suc n))) one) (2 ^ t))
        (λ t. only (eqb (value_before listing (i + 1) (Shown (suc r) (suc t) (suc n))) one) (2 ^ t)) l
        (omega arith)
        (λ t h d. ap (λ a. only (eqb a one) (2 ^ t)) (value-kept listing i w m e (Shown (suc r) (suc t) (suc n)) (λ vw. d (phase-same (suc r) t j (suc n) (vw ∙ q)))))

    -- the number of the mask of a signal, where the line names one of its phases
    mask-old : (n r k : ℕ) → n < max_steps → r < max_signals → w ≡ Shown (suc r) (suc k) (suc n) → variable_number numbers w ≡ mask_before listing i n r
    mask-old n r k l h q = let z = shown-at w n r k q in rw (z.0, z.1) (s.masks n r l h)

    masks-more : (n r : ℕ) → n < max_steps → r < max_signals → get_or (get_or numbers' n []) r 0 ≡ mask_before listing (i + 1) n r
    masks-more n r l h = elim (ℕ_discrete n here) [ no d ↦ other (λ t. absurd (d t)) | yes t ↦ elim (ℕ_discrete r (column w)) [ no d ↦ other (λ t c. d c) | yes c ↦ named t c ] ]
      where
        other : (n ≡ here → r ≢ column w) → get_or (get_or numbers' n []) r 0 ≡ mask_before listing (i + 1) n r
        other d =
            number-stays n r d ∙ s.masks n r l h
            ∙ sym (mask-same listing i w m e n r (λ j q. let z = shown-at w n r j (sym q) in d (sym z.0) (sym z.1)))

        named : n ≡ here → r ≡ column w → get_or (get_or numbers' n []) r 0 ≡ mask_before listing (i + 1) n r
        named t c =
            let o = mask-only w n r p h t c in
            rw (t, c) added ∙ ap (λ y. y + x) (mask-old n r o.0 l h o.2) ∙ sym (mask-grown n r o.0 o.1 o.2)

    counted-more : sum max_steps (λ n. sum step_bits (bit_at (get_or seen' n []))) ≡ i + 1
    counted-more =
        sum-change max_steps here 1 _ _ (step-inside w p)
        (sum-change step_bits (bit_column w) 1 (bit_at bytes) (bit_at (get_or seen' here [])) (bit-inside w p) (marked ∙ sym (ap (λ t. t + 1) free)) (λ k l d. mark-stays here k (λ q. d)))
        (λ n l d. sum-ext step_bits _ _ (λ k h. mark-stays n k (λ q. absurd (d q))))
        ∙ ap (λ t. t + 1) s.counted

    kept-more : Stored seconds listing (i + 1) numbers' seen'
    kept-more =
        record {
          number-room = sized-set line_size here numbers _ s.number-room (length-set row (column w) (get_or row (column w) 0 + x) ∙ s.number-room.row here (step-inside w p));
          seen-room = sized-set step_bytes here seen _ s.seen-room (with-bit-length bytes (bit_column w) ∙ s.seen-room.row here (step-inside w p));
          marks = marks-more;
          masks = masks-more;
          volumes = volumes-more;
          counted = counted-more;
        }

    fits : (t : Bool) → has_volume w ≡ t → variable_number numbers w + x ≤ largest
    fits true h = omega (arith, volume-old h, (number-volume w m (seconds here) x h xq).1)
    fits false h =
        let (n, r, j, l, a, d, v) = shown-parts w p h in
        omega (arith, mask-grown n r j d v, mask-old n r j l a v, mask-few listing (i + 1) n r)

    pub grown : Grown seconds listing i numbers seen (spot w) x
    grown = record { kept = kept-more; fits = fits (has_volume w) refl }
