-- Reading the written plan gives just the listing's numbers.
use Rattle.base_laws.proofs.Kit.{ℕ, zero, suc, ◌*◌, ◌-◌, ◌%◌, ◌≤◌, ◌<◌, ◌≡◌, refl, sym, ap, ◌∙◌, ◌⊎◌, inl, inr, true, false, not, List, add-one, dec_le, eq-or-lt_of_le, div-add-mod', arith, eqb-true, leb-true, eqb, length}
use Rattle.base_search.specs.Checks.{Hold}
use Rattle.text_reader.specs.Lines.{Line, lines}
use Rattle.text_reader.proofs.Laws.{starts_first, starts-end, end-of-none}
use Rattle.base_laws.specs.Test.{◌and◌, ◌or◌, within}
use Rattle.model.specs.Network.{signal_count, step_count, signal, step_length}
use Rattle.model.specs.Flows.{shown_mask}
use Rattle.model.specs.Rules.{valid_phases}
use Rattle.model.specs.Table.{network_checks}
use Rattle.model.specs.Hold.{meant}
use Rattle.model.proofs.Accepted.{valid-network}
use Rattle.model.proofs.Hold.{meant-lines}
use Rattle.model.proofs.Limits.{counts}
use Rattle.base_laws.proofs.Tests.{and_left, and_right, or_left, or_right}
use Rattle.listing_lines.specs.declared.Variable.{Variable}
use Rattle.listing_lines.specs.declared.Variable.TheVariants.{Shown, Admitted, LetOut, Moved}
use Rattle.listing_lines.specs.Entry.{Entry, setting}
use Rattle.listing_call.specs.Listing.{sets, one, volume, is_volume, has_variable, valid_value, fits, step_of, listing_entry, set_before, value_before, value, formed_by, fits_by, entry_checks_by, listing_checks, mask_of, volume_of, plan_text}
use Rattle.listing_call.specs.ReadsBack.{bit_of, planned, in_millionths, stated, ReadsBack}
use Rattle.listing_call.specs.Tables.{bit}
use Rattle.listing_call.proofs.Tests.{or_is, tests}
use Rattle.listing_call.proofs.Bits.{bit_in, bit_past}
use Rattle.std.specs.Prelude.{Some, None}
use Rattle.std.proofs.lemmas.Bool.Decides.{nat_tests}
use Rattle.listing_call.proofs.Places.{same_self}
use Rattle.listing_call.proofs.Stored.{same_not, value-now, value-unset, volume-none}
use Rattle.listing_call.proofs.ReadBack.{listing-fits, mask-back, admitted-back, let-out-back, moved_back, form-is, count-is}

-- ---- what the lines that have passed say of a variable
few-phases : (network : List Line) → Hold (network_checks network) → (r : ℕ) → r < signal_count network → (signal network r).phases ≤ 8
unfolding valid_phases within
few-phases network valid r h = leb-true (signal network r).phases 8 (and_right _ _ ((valid-network network valid).phases r h))

sets-not : (listing : List Entry) (j : ℕ) (v : Variable) → ((m : ℕ) → listing_entry listing j ≡ Some (setting v m) → ⊥) → sets v (listing_entry listing j) ≡ false
unfolding sets
sets-not listing j v n = go (listing_entry listing j) refl
  where
    go : (e : Entry) → listing_entry listing j ≡ e → sets v e ≡ false
    go None q = refl
    go (Some s) q = same_not v s.variable (λ t. n s.millionths (q ∙ ap (λ u. Some (setting u s.millionths)) (sym t)))

-- a text that has a line has bytes
text-of-lines : (text : List ℕ) → 0 < length (lines text) → 1 ≤ length text
text-of-lines text h = elim (dec_le 1 (length text)) [
  | yes l ↦ l
  | no l ↦ absurd (let q = eqb-true (length (lines text)) 0 (sym (starts-end text 0 0 (starts_first text) (omega arith)) ∙ end-of-none text 0 (omega arith)) in omega (arith, q))
]

module _ (listing : List Entry) (v : Variable) where
  unset-of : (k : ℕ) → ((i : ℕ) → i < k → (m : ℕ) → listing_entry listing i ≡ Some (setting v m) → ⊥) → set_before listing k v ≡ false
  unfolding set_before
  unset-of zero n = refl
  unset-of (suc k) n =
      rw (unset-of k (λ i l. n i (omega arith)), sets-not listing k v (n k (omega arith)), or_is)

  -- what no line sets is 0
  unset-value : ((i : ℕ) → i < length listing → (m : ℕ) → listing_entry listing i ≡ Some (setting v m) → ⊥) → value listing v ≡ 0
  unfolding value
  unset-value n = value-unset listing (length listing) v (unset-of (length listing) n)

module _ (network : List Line) (listing : List Entry) (hold : Hold (listing_checks network listing)) where
  formed : (i : ℕ) → i < length listing → (v : Variable) (m : ℕ) → listing_entry listing i ≡ Some (setting v m)
      → (has_variable network v ≡ true) × (valid_value v m ≡ true) × (set_before listing i v ≡ false)
  unfolding listing_checks entry_checks_by Hold formed_by
  formed i l v m e =
      let f : has_variable network v and valid_value v m and not (set_before listing i v) ≡ true = rw e at (hold i l).0 in
      grind (arith, tests)

  module _ (i : ℕ) (v : Variable) (m : ℕ) (e : listing_entry listing i ≡ Some (setting v m)) where
    set-of : (k : ℕ) → i < k → set_before listing k v ≡ true
    unfolding set_before sets
    set-of zero l = absurd (omega arith)
    set-of (suc k) l = go (eq-or-lt_of_le l) (set-of k)
      where
        go : (suc i ≡ suc k) ⊎ (suc i < suc k) → (i < k → set_before listing k v ≡ true) → set_before listing k v or sets v (listing_entry listing k) ≡ true
        go (inl q) ih = let z : k ≡ i = omega arith in rw (z, e, same_self v) (or_right (set_before listing i v) true refl)
        go (inr q) ih = or_left (set_before listing k v) (sets v (listing_entry listing k)) (ih (omega arith))

    value_stays : (k : ℕ) → sets v (listing_entry listing k) ≡ false → value_before listing k v ≡ m → value_before listing (suc k) v ≡ m
    unfolding value_before
    value_stays k s h = rw s h

    value_of : (k : ℕ) → i < k → k ≤ length listing → value_before listing k v ≡ m
    unfolding value_before
    value_of zero l h = absurd (omega arith)
    value_of (suc k) l h = go (eq-or-lt_of_le l) (value_of k)
      where
        go : (suc i ≡ suc k) ⊎ (suc i < suc k) → (i < k → k ≤ length listing → value_before listing k v ≡ m) → value_before listing (suc k) v ≡ m
        go (inl q) ih = let z : k ≡ i = omega arith in rw z (rw add-one at (value-now listing i v m e))
        go (inr q) ih = value_stays k (sets-not listing k v (λ x f. let g = (formed k (omega arith) v x f).2 in let h = set-of k (omega arith) in cc)) (ih (omega arith) (omega arith))

  -- what a line names has its value
  named_value : (i : ℕ) → i < length listing → (v : Variable) (m : ℕ) → listing_entry listing i ≡ Some (setting v m) → value listing v ≡ m
  unfolding value
  named_value i l v m e = value_of i v m e (length listing) l (omega arith)

  -- ---- the number of a variable in the plan, by its value
  unfoldable given : Variable → ℕ → ℕ
  given (Shown r k n) x = bit (eqb x one)
  given (Admitted i n) x = volume x (step_length network (n - 1))
  given (LetOut i n) x = volume x (step_length network (n - 1))
  given (Moved j n) x = volume x (step_length network (n - 1))

  abbrev plan : List Line
  plan = lines (plan_text network listing)

  mask-bit : (n r k : ℕ) → k < 8 → n < step_count network → r < signal_count network → bit_of (shown_mask network plan n r) k ≡ bit (eqb (value listing (Shown (suc r) (suc k) (suc n))) one)
  unfolding mask_of
  mask-bit n r k l h a = ap (λ x. bit_of x k) (mask-back network listing hold n h r a) ∙ bit_in (λ t. eqb (value listing (Shown (suc r) (suc t) (suc n))) one) 8 k l

  back : (x : ℕ) → 1 ≤ x → suc (x - 1) ≡ x
  back x h = omega arith

  planned-is : (few : (r : ℕ) → r < signal_count network → (signal network r).phases ≤ 8) (v : Variable) → has_variable network v ≡ true → planned network plan v ≡ given v (value listing v)
  unfolding has_variable planned given volume_of
  planned-is few v h = grind (arith, tests, nat_tests, few, mask-bit, admitted-back network listing hold, let-out-back network listing hold, moved_back network listing hold)

  -- a volume that is whole, × 1000, is the rate over the step
  whole : (m s : ℕ) → is_volume m s ≡ true → volume m s * 1000 ≡ m * s
  unfolding volume is_volume
  whole m s e = let q = eqb-true (m * s % 1000) 0 (and_left _ _ e) in omega (arith, q, div-add-mod' (m * s) 1000)

  given-stated : (v : Variable) (m : ℕ) → valid_value v m ≡ true → fits v m (step_length network (step_of v - 1)) ≡ true
      → in_millionths v (given v m) ≡ stated network v m
  unfolding in_millionths given stated valid_value fits step_of bit
  given-stated v m e f = grind (arith, tests, nat_tests, whole)

  given-none : (v : Variable) → given v 0 ≡ 0
  unfolding given bit
  given-none v = grind (arith, volume-none)

  -- a phase that a signal has not is never named
  past_value : (n r k : ℕ) → (signal network r).phases ≤ k → value listing (Shown (suc r) (suc k) (suc n)) ≡ 0
  unfolding has_variable
  past_value n r k h = unset-value listing (Shown (suc r) (suc k) (suc n)) (λ i l m e. no-phase (formed i l (Shown (suc r) (suc k) (suc n)) m e).0)
    where
      no-phase : has_variable network (Shown (suc r) (suc k) (suc n)) ≡ true → ⊥
      no-phase q = grind (arith, tests, nat_tests)

  mask-past : (n r k : ℕ) → n < step_count network → r < signal_count network → (signal network r).phases ≤ k → bit_of (shown_mask network plan n r) k ≡ 0
  unfolding bit mask_of
  mask-past n r k h a p = elim (dec_le 8 k) [
    | yes l ↦ ap (λ x. bit_of x k) (mask-back network listing hold n h r a) ∙ mask_end n r k l
    | no l ↦ mask-bit n r k (omega arith) h a ∙ ap (λ x. bit (eqb x one)) (past_value n r k p)
  ]
    where
      mask_end : (n r k : ℕ) → 8 ≤ k → bit_of (mask_of network listing n r) k ≡ 0
      mask_end n r k l = bit_past (λ t. eqb (value listing (Shown (suc r) (suc t) (suc n))) one) 8 k l

  line-fits : (i : ℕ) → i < length listing → (v : Variable) (m : ℕ) → listing_entry listing i ≡ Some (setting v m) → fits v m (step_length network (step_of v - 1)) ≡ true
  unfolding fits_by
  line-fits i l v m e = rw e at (listing-fits network listing hold i l)

  module _ (valid : Hold (network_checks network)) where
    some-lines : 0 < length plan
    some-lines = omega (arith, count-is network listing hold, (counts network (valid-network network valid)).some-step)

    -- the text has bytes, and does not mean hold
    pub text-some : 1 ≤ length (plan_text network listing)
    text-some = text-of-lines (plan_text network listing) some-lines

    pub text-meant : meant network plan ≡ plan
    text-meant = meant-lines network plan some-lines

  pub reads-back : Hold (network_checks network) → ReadsBack network listing plan
  reads-back valid =
      record {
        count = count-is network listing hold;
        form = λ n h. form-is network listing hold n h;
        named = λ i l v m e.
            let f = formed i l v m e in
            ap (in_millionths v) (planned-is (few-phases network valid) v f.0 ∙ ap (given v) (named_value i l v m e)) ∙ given-stated v m f.1 (line-fits i l v m e);
        others = λ v h n. planned-is (few-phases network valid) v h ∙ ap (given v) (unset-value listing v n) ∙ given-none v;
        past = λ n r k h a p. mask-past n r k h a p;
      }
