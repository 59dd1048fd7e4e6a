-- No plan text that is written from a listing is longer than 151,920 bytes, and none written for a
-- sheet longer than 30,960: a mask has at most three digits, a volume ten, and a volume of 0 one.
use Rattle.base_laws.proofs.Kit.{ℕ, suc, ◌+◌, ◌*◌, ◌-◌, ◌^◌, ◌≤◌, ◌<◌, ◌≡◌, List, ◌++◌, pow-le-pow_right, dec_lt, arith, lt-ltb, le-ltb, ltb, length, get_or, length-append, List·getD-eq-default, get_or-append-add}
use Rattle.base_search.specs.Checks.{Hold}
use Rattle.text_reader.specs.Lines.{Line}
use Rattle.text_writer.specs.Records.{record_text}
use Rattle.text_writer.proofs.Laws.{record_is, records-most}
use Rattle.text_writer.proofs.Lengths.{fields-most, fields-both}
use Rattle.base_laws.specs.Sum.{only}
use Rattle.base_laws.specs.Indexed.{list}
use Rattle.model.specs.Network.{entry, link_count, signal_count, movement_count, step_count, signal, time}
use Rattle.model.specs.Table.{network_checks, letter_p}
use Rattle.base_laws.proofs.Sums.{list_length, list_at, list-plus}
use Rattle.model.proofs.Accepted.{valid-network}
use Rattle.model.proofs.Limits.{Counts, counts}
use Rattle.listing_lines.specs.declared.Variable.{Variable}
use Rattle.listing_lines.specs.declared.Variable.TheVariants.{Admitted, LetOut, Moved}
use Rattle.listing_lines.specs.Entry.{Entry}
use Rattle.listing_call.specs.Listing.{listing_checks, mask_of, volume_of, plan_line_numbers, plan_text}
use Rattle.listing_call.proofs.ReadBack.{mask-small, numbers-small}
use Rattle.sheet_lines.specs.Sheet.{phases_of}
use Rattle.model_sheet.specs.Cycle.{sheet_phase, phase_at, cycle_place, sheet_numbers, sheet_text}
use Rattle.model_sheet.proofs.Cycle.{phase-most}
use Rattle.model_sheet.proofs.Checks.{two-phases}
use Rattle.text_lengths.specs.Lengths.{written_plan_most, sheet_plan_most}

list-below : (n : ℕ) (f : ℕ → ℕ) (m : ℕ) → 0 < m → ((k : ℕ) → k < n → f k < m) → (k : ℕ) → get_or (list n f) k 0 < m
list-below n f m s h k = elim (dec_lt k n) [
  | yes l ↦ rw (list_at n f k l) (h k l)
  | no l ↦ let past : length (list n f) ≤ k = omega (arith, list_length n f) in rw (List·getD-eq-default (list n f) 0 past) s
]

-- a line of masks, which have at most three digits, and of numbers of at most d + 1
line-most : (d : ℕ) → d ≤ 19 → (masks rest : List ℕ) → ((k : ℕ) → get_or masks k 0 < 1000) → ((k : ℕ) → get_or rest k 0 < 10 ^ suc d)
    → length (record_text letter_p (masks ++ rest)) ≤ 2 + 4 * length masks + (2 + d) * length rest
line-most d l masks rest h k = omega (arith, record_is letter_p (masks ++ rest), fields-both masks rest, fields-most 2 (omega arith) masks h, fields-most d l rest k)

module _ (network : List Line) (holds : Hold (network_checks network)) where
  c : Counts network
  c = counts network (valid-network network holds)

  -- ---- from a listing
  module _ (listing : List Entry) (fitting : Hold (listing_checks network listing)) where
    listing-line : (n : ℕ) → length (record_text letter_p (plan_line_numbers network listing n)) ≤ 1266
    unfolding plan_line_numbers
    listing-line n =
        omega (
          arith,
          line-most 9 (omega arith) masks rest (list-below (signal_count network) (mask_of network listing n) 1000 (omega arith) (λ r l. omega (arith, mask-small network listing n r))) small,
          list_length (signal_count network) (mask_of network listing n),
          long,
          c,
        )
      where
        masks : List ℕ
        masks = list (signal_count network) (mask_of network listing n)

        volumes : (ℕ → Variable) → ℕ → ℕ
        volumes named i = volume_of network listing n (named i)

        admits : List ℕ
        admits = list (link_count network) (volumes (λ i. Admitted (suc i) (suc n)))

        lets_out : List ℕ
        lets_out = list (link_count network) (volumes (λ i. LetOut (suc i) (suc n)))

        moves : List ℕ
        moves = list (movement_count network) (volumes (λ j. Moved (suc j) (suc n)))

        rest : List ℕ
        rest = admits ++ (lets_out ++ moves)

        small : (k : ℕ) → get_or rest k 0 < 10 ^ suc 9
        small k = omega (arith, numbers-small network listing fitting n (length masks + k), get_or-append-add masks rest k 0)

        long : length rest ≡ 2 * link_count network + movement_count network
        long =
            omega (
              arith,
              length-append admits (lets_out ++ moves),
              length-append lets_out moves,
              list_length (link_count network) (volumes (λ i. Admitted (suc i) (suc n))),
              list_length (link_count network) (volumes (λ i. LetOut (suc i) (suc n))),
              list_length (movement_count network) (volumes (λ j. Moved (suc j) (suc n))),
            )

    pub listing-most : length (plan_text network listing) ≤ written_plan_most
    unfolding plan_text
    listing-most = omega (arith, records-most letter_p (plan_line_numbers network listing) 1266 (step_count network) listing-line, c)

  -- ---- for a sheet
  module _ (sheet : List Line) where
    sheet-line : (n : ℕ) → length (record_text letter_p (sheet_numbers network sheet n)) ≤ 258
    unfolding sheet_numbers phase_at
    sheet-line n =
        rw (list-plus (signal_count network) others number)
        (omega (
          arith,
          line-most 0 (omega arith) (list (signal_count network) number) (list others (λ k. number (signal_count network + k))) (list-below (signal_count network) number 1000 (omega arith) mask)
              (list-below others (λ k. number (signal_count network + k)) 10 (omega arith) zeros),
          list_length (signal_count network) number,
          list_length others (λ k. number (signal_count network + k)),
          c,
        ))
      where
        others : ℕ
        others = 2 * link_count network + movement_count network

        number : ℕ → ℕ
        number k = only (ltb k (signal_count network)) (2 ^ (sheet_phase network sheet n k - 1))

        mask : (r : ℕ) → r < signal_count network → number r < 1000
        mask r l =
            let q : sheet_phase network sheet n r ≤ 8 = omega (arith, phase-most (entry sheet r) (phases_of network r) (cycle_place network sheet r (time network n)), (two-phases (signal network r) ((valid-network network holds).phases r l)).1) in
            let b = pow-le-pow_right {n = 2} (omega arith) (let e : sheet_phase network sheet n r - 1 ≤ 7 = omega arith in e) in
            rw (lt-ltb r (signal_count network) l) (omega (arith, b))

        zeros : (k : ℕ) → k < others → number (signal_count network + k) < 10
        zeros k l = rw (le-ltb (signal_count network + k) (signal_count network) (omega arith)) (omega arith)

    pub sheet-most : length (sheet_text network sheet) ≤ sheet_plan_most
    unfolding sheet_text
    sheet-most = omega (arith, records-most letter_p (sheet_numbers network sheet) 258 (step_count network) sheet-line, c)
