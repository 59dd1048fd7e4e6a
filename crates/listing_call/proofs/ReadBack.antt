-- Reading the written plan gives just the listing's numbers.
use Rattle.base_laws.proofs.Kit.{ℕ, zero, suc, ◌+◌, ◌*◌, ◌-◌, ◌≤◌, ◌<◌, ◌≡◌, refl, sym, ap, ◌∙◌, Bool, true, false, cond, List, [], ◌∷◌, ◌++◌, arith, eqb, length, get_or, length-append, List·getD-append, get_or-append-add}
use Rattle.base_search.specs.Checks.{Hold}
use Rattle.text_reader.specs.Field.{largest}
use Rattle.text_reader.specs.Lines.{Line, lines, no_line, number}
use Rattle.text_writer.specs.Records.{record_lines}
use Rattle.text_writer.proofs.Records.{Small, text-back, entry-back, form-back, lines-count}
use Rattle.base_laws.specs.Test.{◌and◌}
use Rattle.base_laws.specs.Indexed.{list}
use Rattle.model.specs.Network.{entry, link_count, signal_count, movement_count, step_count, step_length}
use Rattle.model.specs.Flows.{shown_mask, admitted, let_out, moved}
use Rattle.model.specs.Table.{letter_p, is_form}
use Rattle.listing_lines.specs.declared.Variable.{Variable}
use Rattle.listing_lines.specs.Entry.{Entry}
use Rattle.std.specs.Prelude.{Some, None}
use Rattle.std.proofs.lemmas.Bool.Decides.{nat_tests}
use Rattle.listing_lines.specs.declared.Variable.TheVariants.{Shown, Admitted, LetOut, Moved}
use Rattle.listing_call.specs.Listing.{sets, millionths_of, step_of, is_volume, volume, fits, one, listing_entry, fits_by, entry_checks_by, listing_checks, value_before, value, mask_of, volume_of, plan_line_numbers, plan_text}
use Rattle.listing_call.specs.Tables.{has_volume}
use Rattle.listing_call.proofs.Bits.{bits_below}
use Rattle.base_laws.proofs.Sums.{list_length, list_at}
use Rattle.listing_call.proofs.Places.{same-is}
use Rattle.listing_call.proofs.Stored.{volume-none}

-- ---- lists of small numbers
small-both : (a b : List ℕ) → Small a → Small b → Small (a ++ b)
small-both [] b s t = t
small-both (x ∷ a) b s t = λ k. elim k as (λ k. get_or ((x ∷ a) ++ b) k 0 ≤ largest) [ zero ↦ s 0 | suc j ↦ small-both a b (λ i. s (suc i)) t j ]

small_one : (x : ℕ) → x ≤ largest → Small (x ∷ [])
small_one x h = λ k. elim k as (λ k. get_or (x ∷ []) k 0 ≤ largest) [ zero ↦ h | suc j ↦ omega arith ]

small-list : (n : ℕ) (f : ℕ → ℕ) → ((k : ℕ) → k < n → f k ≤ largest) → Small (list n f)
unfolding list
small-list zero f h = λ k. omega arith
small-list (suc n) f h = small-both (list n f) (f n ∷ []) (small-list n f (λ k l. h k (omega arith))) (small_one (f n) (h n (omega arith)))

-- what stands behind a list by index
past-list : (n : ℕ) (f : ℕ → ℕ) (b : List ℕ) (k : ℕ) → get_or (list n f ++ b) (n + k) 0 ≡ get_or b k 0
past-list n f b k = rw (list_length n f) at (get_or-append-add (list n f) b k 0)

in_list : (n : ℕ) (f : ℕ → ℕ) (b : List ℕ) (k : ℕ) → k < n → get_or (list n f ++ b) k 0 ≡ f k
in_list n f b k h = List·getD-append (list n f) b 0 k (omega (arith, list_length n f)) ∙ list_at n f k h

module _ (network : List Line) (listing : List Entry) (n : ℕ) where
  abbrev Admits : ℕ → ℕ
  Admits i = volume_of network listing n (Admitted (suc i) (suc n))

  abbrev LetsOut : ℕ → ℕ
  LetsOut i = volume_of network listing n (LetOut (suc i) (suc n))

  abbrev Moves : ℕ → ℕ
  Moves j = volume_of network listing n (Moved (suc j) (suc n))

  numbers-mask : (r : ℕ) → r < signal_count network → get_or (plan_line_numbers network listing n) r 0 ≡ mask_of network listing n r
  unfolding plan_line_numbers
  numbers-mask r l = in_list (signal_count network) (mask_of network listing n) _ r l

  numbers-admitted : (i : ℕ) → i < link_count network → get_or (plan_line_numbers network listing n) (signal_count network + i) 0 ≡ Admits i
  unfolding plan_line_numbers
  numbers-admitted i l = past-list (signal_count network) (mask_of network listing n) _ i ∙ in_list (link_count network) Admits _ i l

  numbers-let-out : (i : ℕ) → i < link_count network → get_or (plan_line_numbers network listing n) (signal_count network + (link_count network + i)) 0 ≡ LetsOut i
  unfolding plan_line_numbers
  numbers-let-out i l =
      past-list (signal_count network) (mask_of network listing n) _ (link_count network + i) ∙ past-list (link_count network) Admits _ i ∙ in_list (link_count network) LetsOut _ i l

  numbers-moved : (j : ℕ) → j < movement_count network → get_or (plan_line_numbers network listing n) (signal_count network + (2 * link_count network + j)) 0 ≡ Moves j
  unfolding plan_line_numbers
  numbers-moved j l =
      let e : signal_count network + (2 * link_count network + j) ≡ signal_count network + (link_count network + (link_count network + j)) = omega arith in
      rw e (past-list (signal_count network) (mask_of network listing n) _ (link_count network + (link_count network + j))
      ∙ past-list (link_count network) Admits _ (link_count network + j) ∙ past-list (link_count network) LetsOut _ j ∙ list_at (movement_count network) Moves j l)

  numbers-length : length (plan_line_numbers network listing n) ≡ signal_count network + (2 * link_count network + movement_count network)
  unfolding plan_line_numbers
  numbers-length =
      let a = mask_of network listing n in
      omega (
        arith,
        length-append (list (signal_count network) a) (list (link_count network) Admits ++ (list (link_count network) LetsOut ++ list (movement_count network) Moves)),
        length-append (list (link_count network) Admits) (list (link_count network) LetsOut ++ list (movement_count network) Moves),
        length-append (list (link_count network) LetsOut) (list (movement_count network) Moves),
        list_length (signal_count network) a,
        list_length (link_count network) Admits,
        list_length (link_count network) LetsOut,
        list_length (movement_count network) Moves,
      )

-- ---- volumes
fits-volume : (v : Variable) (m s : ℕ) → has_volume v ≡ true → fits v m s ≡ true → volume m s ≤ largest
unfolding has_volume fits is_volume ◌and◌
fits-volume v m s h e = grind (arith, nat_tests)

-- a line that sets a volume and fits has a volume that fits
line-fits : (seconds : ℕ → ℕ) (v : Variable) (n : ℕ) (e : Entry) → has_volume v ≡ true → step_of v ≡ suc n → sets v e ≡ true → fits_by seconds e ≡ true → volume (millionths_of e) (seconds n) ≤ largest
unfolding sets fits_by millionths_of
line-fits seconds v n (Some s) h t e f =
    let vw : v ≡ s.variable = same-is v s.variable e in
    let q : step_of s.variable - 1 ≡ n = omega (arith, ap step_of vw) in
    fits-volume s.variable s.millionths (seconds n) (ap has_volume (sym vw) ∙ h) (rw q at f)
line-fits seconds v n None h t e f = cc

module _ (network : List Line) (listing : List Entry) where
  abbrev Fit : Type 0
  Fit = (i : ℕ) → i < length listing → fits_by (step_length network) (listing_entry listing i) ≡ true

  pub listing-fits : Hold (listing_checks network listing) → Fit
  unfolding listing_checks entry_checks_by Hold
  listing-fits h i l = (h i l).1

  value-fits : Fit → (v : Variable) (n : ℕ) → has_volume v ≡ true → step_of v ≡ suc n → (i : ℕ) → i ≤ length listing → volume (value_before listing i v) (step_length network n) ≤ largest
  unfolding value_before
  value-fits f v n l s zero h = omega (arith, volume-none (step_length network n))
  value-fits f v n l s (suc i) h = go (sets v (listing_entry listing i)) refl (value-fits f v n l s i (omega arith))
    where
      go : (t : Bool) → sets v (listing_entry listing i) ≡ t → volume (value_before listing i v) (step_length network n) ≤ largest
          → volume (cond t (millionths_of (listing_entry listing i)) (value_before listing i v)) (step_length network n) ≤ largest
      go true e ih = line-fits (step_length network) v n (listing_entry listing i) l s e (f i (omega arith))
      go false e ih = ih

  pub mask-small : (n r : ℕ) → mask_of network listing n r < 256
  unfolding mask_of
  mask-small n r = bits_below (λ k. eqb (value listing (Shown (suc r) (suc k) (suc n))) one) 8

  module _ (fitting : Hold (listing_checks network listing)) where
    volume-small : (n : ℕ) (v : Variable) → has_volume v ≡ true → step_of v ≡ suc n → volume_of network listing n v ≤ largest
    unfolding volume_of value
    volume-small n v h s = value-fits (listing-fits fitting) v n h s (length listing) (omega arith)

    pub numbers-small : (n : ℕ) → Small (plan_line_numbers network listing n)
    unfolding plan_line_numbers has_volume step_of
    numbers-small n =
        let a = list (signal_count network) (mask_of network listing n) in
        let b = list (link_count network) (Admits network listing n) in
        let c = list (link_count network) (LetsOut network listing n) in
        let d = list (movement_count network) (Moves network listing n) in
        small-both a (b ++ (c ++ d)) (small-list (signal_count network) (mask_of network listing n) (λ r h. omega (arith, mask-small n r)))
        (small-both b (c ++ d) (small-list (link_count network) (Admits network listing n) (λ i h. volume-small n (Admitted (suc i) (suc n)) refl refl))
        (small-both c d (small-list (link_count network) (LetsOut network listing n) (λ i h. volume-small n (LetOut (suc i) (suc n)) refl refl))
        (small-list (movement_count network) (Moves network listing n) (λ j h. volume-small n (Moved (suc j) (suc n)) refl refl))))

    -- the lines of the written text are K records `P` with the listing's numbers
    plan-back : lines (plan_text network listing) ≡ record_lines letter_p (step_count network) (plan_line_numbers network listing)
    unfolding plan_text
    plan-back = text-back letter_p (λ e. omega arith) (λ e. omega arith) (step_count network) (plan_line_numbers network listing) (λ n h. numbers-small n)

    entry-is : (n k : ℕ) → n < step_count network → entry (lines (plan_text network listing)) n k ≡ get_or (plan_line_numbers network listing n) k 0
    unfolding entry
    entry-is n k h = ap (λ (p : List Line). number (get_or p n no_line) k) plan-back ∙ entry-back letter_p (step_count network) (plan_line_numbers network listing) n h k

    module _ (n : ℕ) (h : n < step_count network) where
      pub mask-back : (r : ℕ) → r < signal_count network → shown_mask network (lines (plan_text network listing)) n r ≡ mask_of network listing n r
      unfolding shown_mask
      mask-back r l = entry-is n r h ∙ numbers-mask network listing n r l

      pub admitted-back : (i : ℕ) → i < link_count network → admitted network (lines (plan_text network listing)) n i ≡ Admits network listing n i
      unfolding admitted
      admitted-back i l = entry-is n (signal_count network + i) h ∙ numbers-admitted network listing n i l

      pub let-out-back : (i : ℕ) → i < link_count network → let_out network (lines (plan_text network listing)) n i ≡ LetsOut network listing n i
      unfolding let_out
      let-out-back i l = entry-is n (signal_count network + (link_count network + i)) h ∙ numbers-let-out network listing n i l

      pub moved_back : (j : ℕ) → j < movement_count network → moved network (lines (plan_text network listing)) n j ≡ Moves network listing n j
      unfolding moved
      moved_back j l = entry-is n (signal_count network + (2 * link_count network + j)) h ∙ numbers-moved network listing n j l

      pub form-is : is_form (lines (plan_text network listing)) n letter_p (signal_count network + (2 * link_count network + movement_count network)) ≡ true
      unfolding is_form
      form-is = rw (plan-back, ← numbers-length network listing n) (form-back letter_p (step_count network) (plan_line_numbers network listing) n h)

    pub count-is : length (lines (plan_text network listing)) ≡ step_count network
    count-is = ap length plan-back ∙ lines-count letter_p (step_count network) (plan_line_numbers network listing)
