-- The way to one number of a line, byte by byte and block by block.
use Rattle.base_laws.proofs.Kit.{ℕ, zero, suc, ◌+◌, ◌-◌, ◌≤◌, ◌<◌, ◌≡◌, refl, sym, ap, ◌∙◌, ◌≢◌, Bool, true, false, List, [], ◌∷◌, add-one, add-zero, dec_le, ℕ_discrete, arith, eqb, eqb-false, eq-eqb, ne_eqb, length, drop, get_or, drop_of_length-le, drop-cons, drop-drop, get_or-drop, not, not-true, ◌&&◌}
use Rattle.base_laws.specs.Sum.{sum}
use Rattle.base_laws.proofs.Sums.{sum_bound}
use Rattle.base_laws.specs.Test.{every, ◌and◌}
use Rattle.base_laws.proofs.Tests.{every-at, every_of}
use Rattle.std.specs.Prelude.{Option, Some, None}
use Rattle.text_reader.specs.declared.FieldNumber.{FieldNumber}
use Rattle.text_reader.specs.declared.Passed.{Passed}
use Rattle.text_reader.specs.Lines.{split, number_of, number}
use Rattle.text_reader.specs.Reading.{line_at, next_line, leading, field_at, separator, tabbed_at}
use Rattle.text_reader.specs.Passing.{block_size, separator_weight, separators, Passing, FieldsPassed, stays_in_line, InLine, LineEnds}
use Rattle.text_reader.proofs.Bytes.{piece, piece-feed}
use Rattle.text_reader.proofs.Places.{end_of, next-piece, field_past, field-more, field-stop, past-field, past-tab, tab-within, past-none, found, absent-reads}

-- ---- what a byte counts
pub separator_weight-tab : (b : ℕ) → b ≡ 9 → separator_weight b ≡ 1
unfolding separator_weight
separator_weight-tab b e = rw (eq-eqb b 9 e)

pub separator_weight-feed : (b : ℕ) → b ≡ 10 → separator_weight b ≡ 15
unfolding separator_weight
separator_weight-feed b e = rw e

pub separator_weight-other : (b : ℕ) → b ≢ 9 → b ≢ 10 → separator_weight b ≡ 0
unfolding separator_weight
separator_weight-other b t f = rw (ne_eqb b 9 t, ne_eqb b 10 f)

separator_weight-most : (b : ℕ) → separator_weight b ≤ 15
separator_weight-most b = elim (ℕ_discrete b 9) [
  | yes t ↦ omega (arith, separator_weight-tab b t)
  | no t ↦ elim (ℕ_discrete b 10) [ yes f ↦ omega (arith, separator_weight-feed b f) | no f ↦ omega (arith, separator_weight-other b t f) ]
]

-- ---- the turns of `separators_in`
module _ (text : List ℕ) (at : ℕ) where
  pub separators-none : 0 ≡ separators text at 0
  unfolding sum
  separators-none = refl

  module _ {sum' w : ℕ} (k : ℕ) (e : sum' ≡ separators text at k) (u : w ≡ separator_weight (get_or text (at + k) 0)) where
    pub separators-more : sum' + w ≡ separators text at (k + 1)
    unfolding sum
    separators-more = rw add-one (omega (arith, e, u))

    -- they fit 8 bits
    pub separators-fit : k < block_size → sum' + w < 256
    separators-fit h =
        omega (arith, separators-more, sum_bound (k + 1) 15 (λ j. separator_weight (get_or text (at + j) 0)) (λ j l. separator_weight-most (get_or text (at + j) 0)))

-- ---- from one place to another in a line, past n fields
record Past (text : List ℕ) (at n there : ℕ) : Type 0 where
  fields : (line_at text there).fields ≡ drop n (line_at text at).fields
  next : next_line text there ≡ next_line text at

module _ {text : List ℕ} {at there : ℕ} where
  past-more : {m n beyond : ℕ} → Past text at m there → Past text there n beyond → Past text at (m + n) beyond
  past-more {m} {n} p q =
      record {
        fields = q.fields ∙ ap (drop n) p.fields ∙ drop-drop n m (line_at text at).fields;
        next = q.next ∙ p.next;
      }

-- past a byte
module _ (text : List ℕ) (at : ℕ) (h : at < length text) where
  byte-past : get_or text at 0 ≢ 10 → Past text at (separator_weight (get_or text at 0)) (at + 1)
  byte-past f = elim (ℕ_discrete (get_or text at 0) 9) [
    | yes t ↦
        let on = past-tab text at h t in
        rw (separator_weight-tab (get_or text at 0) t) (record { fields = rw on.fields; next = sym on.next })
    | no t ↦
        let more = field-more text at h t f in
        let end : end_of text (at + 1) ≡ end_of text at = omega (arith, ap length more) in
        let here = past-field text at in
        let there = rw end at (past-field text (at + 1)) in
        rw (separator_weight-other (get_or text at 0) t f) (record { fields = there.fields ∙ sym here.fields; next = there.next ∙ sym here.next })
  ]

-- past a block without a line feed
block-past : (text : List ℕ) (at n : ℕ) → at + n ≤ length text → separators text at n < 15 → Past text at (separators text at n) (at + n)
unfolding sum
block-past text at zero h l = rw (add-zero at) (record { fields = refl; next = refl })
block-past text at (suc n) h l =
    let e : at + suc n ≡ at + n + 1 = omega arith in
    let f : get_or text (at + n) 0 ≢ 10 = λ q. omega (arith, separator_weight-feed (get_or text (at + n) 0) q) in
    rw e (past-more (block-past text at n (omega arith) (omega arith)) (byte-past text (at + n) (omega arith) f))

-- nothing is left of no fields
drop-none : (n : ℕ) (fs : List (Option ℕ)) → fs ≡ [] → drop n fs ≡ []
drop-none n fs e = let few : length fs ≤ n = omega (arith, ap length e) in drop_of_length-le fs few

-- by the test that the code makes
separates : (b : ℕ) → separator b ≡ true → b ≢ 10 → b ≡ 9
unfolding separator
separates b e f = elim (ℕ_discrete b 9) [
  | yes t ↦ t
  | no t ↦ let z : ◌≡◌ {A = Bool} true false = sym (rw (ne_eqb b 9 t, ne_eqb b 10 f) at e) in cc
]

separates-not : (b : ℕ) → separator b ≡ false → (b ≢ 9) × (b ≢ 10)
unfolding separator
separates-not b e = (
  λ t. let z : ◌≡◌ {A = Bool} true false = rw (eq-eqb b 9 t) at e in cc,
  λ f. let z : ◌≡◌ {A = Bool} true false = rw f at e in cc,
)

-- ---- the turns of `past_blocks` and `past_fields`
abbrev passed_to : ℕ → ℕ → Passed
passed_to place left = record { place = place; left = left }

module _ {text : List ℕ} {at n : ℕ} where
  module _ {place left : ℕ} (inv : Passing text at n (passed_to place left)) where
    onward : {count there : ℕ} → count ≤ left → there ≤ length text → Past text place count there → Passing text at n (passed_to there (left - count))
    onward {count} {there} few within past =
        let e : n - left + count ≡ n - (left - count) = omega (arith, inv.few) in
        record {
          within = within;
          few = omega (arith, inv.few);
          fields = past.fields ∙ ap (drop count) inv.fields ∙ drop-drop count (n - left) (line_at text at).fields ∙ ap (λ k. drop k (line_at text at).fields) e;
          next = past.next ∙ inv.next;
        }

    pub pass-block : {sum : ℕ} → block_size ≤ length text - place → sum ≡ separators text place block_size → sum < 15 → sum ≤ left → Passing text at n (passed_to (place + block_size) (left - sum))
    pass-block {sum} h e l few =
        rw e
        (onward (omega (arith, e)) (omega (arith, inv.within)) (block-past text place block_size (omega (arith, inv.within)) (omega (arith, e))))

    -- a tab is passed, and what is no separator
    module _ (h : place < length text) where
      pub pass-tab : separator (get_or text place 0) ≡ true → get_or text place 0 ≢ 10 → left ≢ 0 → Passing text at n (passed_to (place + 1) (left - 1))
      pass-tab s f l =
          let t = separates (get_or text place 0) s f in
          onward (omega arith) (omega arith) (rw (separator_weight-tab (get_or text place 0) t) at (byte-past text place h f))

      pub pass-other : separator (get_or text place 0) ≡ false → Passing text at n (passed_to (place + 1) left)
      pass-other s =
          let no = separates-not (get_or text place 0) s in
          let z : left - 0 ≡ left = omega arith in
          rw z at (onward {count = 0} (omega arith) (omega arith) (rw (separator_weight-other (get_or text place 0) no.0 no.1) at (byte-past text place h no.1)))

    -- a field ends here, and all are passed or the line has no more
    pass-end : field_at text place ≡ [] → (get_or text place 0 ≡ 9 → left ≡ 0) → FieldsPassed text at n place
    pass-end s t =
        record {
          within = inv.within;
          stops = s;
          fields = elim (ℕ_discrete (get_or text place 0) 9) [
            | yes q ↦ let z : n - left ≡ n = omega (arith, t q) in rw z at inv.fields
            | no q ↦
                let none = past-none text place s q in
                let e : n - left + left ≡ n = omega (arith, inv.few) in
                none ∙ sym (drop-none left (line_at text place).fields none) ∙ ap (drop left) inv.fields ∙ drop-drop left (n - left) (line_at text at).fields ∙ ap (λ k. drop k (line_at text at).fields) e
          ];
          next = inv.next;
        }

    pub pass-stop : place < length text → separator (get_or text place 0) ≡ true → (get_or text place 0 ≡ 9 → left ≡ 0) → FieldsPassed text at n place
    pass-stop h s = pass-end (field-stop text place h s)

    pub pass-past : length text ≤ place → FieldsPassed text at n place
    pass-past h = pass-end (field_past text place h) (λ q. omega (arith, tab-within text place q))

-- ---- the turns of `stays_in_line`
module _ (text : List ℕ) (at : ℕ) where
  pub stays-none : true ≡ stays_in_line text at 0
  unfolding every
  stays-none = refl

  pub stays-more : {stays : Bool} (k : ℕ) → stays ≡ stays_in_line text at k → stays && not (eqb (get_or text (at + k) 0) 10) ≡ stays_in_line text at (k + 1)
  unfolding every ◌and◌
  stays-more k e = rw (add-one, e)

-- ---- the turns of `past_line_blocks` and `line_end`
module _ {text : List ℕ} {at place : ℕ} (inv : InLine text at place) where
  pub in-byte : place < length text → get_or text place 0 ≢ 10 → InLine text at (place + 1)
  in-byte h f = record { within = omega arith; next = (byte-past text place h f).next ∙ inv.next }

  pub line-ends : (place < length text → get_or text place 0 ≡ 10) → LineEnds text at place
  unfolding piece split
  line-ends f =
      let empty : length (piece (drop place text)) ≡ 0 = elim (dec_le (length text) place) [
        | yes h ↦ rw (drop_of_length-le text h) refl
        | no h ↦ let b : place < length text = omega arith in rw (drop-cons text place 0, f b) (ap length (piece-feed (drop (suc place) text)))
      ] in
      record { within = inv.within; next = omega (arith, empty, next-piece text place) ∙ inv.next }

pub in-block : {text : List ℕ} {at place : ℕ} (n : ℕ) → InLine text at place → place + n ≤ length text → stays_in_line text place n ≡ true → InLine text at (place + n)
in-block {text} {at} {place} zero inv h e = rw (add-zero place) inv
in-block {text} {at} {place} (suc n) inv h e =
    let z : place + suc n ≡ place + n + 1 = omega arith in
    let before : stays_in_line text place n ≡ true = every_of n (λ k. not (eqb (get_or text (place + k) 0) 10)) (λ k l. every-at (suc n) (λ k. not (eqb (get_or text (place + k) 0) 10)) e k (omega arith)) in
    let last = every-at (suc n) (λ k. not (eqb (get_or text (place + k) 0) 10)) e n (omega arith) in
    rw z (in-byte (in-block n inv (omega arith) before) (omega arith) (eqb-false (get_or text (place + n) 0) 10 (not-true _ last)))

-- ---- the number and the next line
module _ {text : List ℕ} {at k end : ℕ} (passed : FieldsPassed text at k end) where
  number-there : number (line_at text at) k ≡ number_of (get_or (line_at text end).fields 0 None)
  unfolding number
  number-there = sym (rw passed.fields (ap number_of (get_or-drop k (line_at text at).fields 0 None ∙ rw (add-zero k))))

  pub value-found : (found' : FieldNumber) → tabbed_at text end ≡ Some found' → found'.value ≡ number (line_at text at) k
  unfolding number_of
  value-found it e = sym (number-there ∙ rw (found text end it e).0.fields)

  pub value-none : tabbed_at text end ≡ None → 0 ≡ number (line_at text at) k
  unfolding leading number_of
  value-none e = sym (number-there ∙ none (line_at text end).fields (absent-reads text end passed.stops e 0).0)
    where
      none : (fs : List (Option ℕ)) → leading 1 fs ≡ [] → number_of (get_or fs 0 None) ≡ 0
      none [] q = refl
      none (None ∷ fs) q = refl
      none (Some v ∷ fs) q = cc
