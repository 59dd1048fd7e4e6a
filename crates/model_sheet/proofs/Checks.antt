-- What 33 and 35 say of a signal once they hold.
use Rattle.base_laws.proofs.Kit.{◌≡◌, true, List, ℕ, ◌≤◌, ◌<◌, arith, leb-true, ltb-true, leb, get_or}
use Rattle.base_search.specs.Checks.{Hold}
use Rattle.text_reader.specs.Lines.{Line}
use Rattle.model.specs.declared.Signal.{Signal}
use Rattle.base_laws.specs.Test.{◌and◌, within}
use Rattle.model.specs.Network.{entry, signal_count, step_count, signal}
use Rattle.model.specs.Rules.{valid_phases, valid_signal}
use Rattle.base_laws.proofs.Tests.{and_left, and_right, every-at}
use Rattle.model.proofs.Accepted.{ValidNetwork}
use Rattle.sheet_lines.specs.Sheet.{phases_of, end_of, valid_durations, valid_offset, valid_numbers, sheet_line_checks, signals_checks, sheet_checks}
use Rattle.model_sheet.specs.Cycle.{fits_at, fits, can_write, boundary_checks}
use Rattle.model_sheet.proofs.Masks.{Fits}

pub two-phases : (s : Signal) → valid_phases s ≡ true → (2 ≤ s.phases) × (s.phases ≤ 8)
unfolding valid_phases within
two-phases s h = (leb-true _ _ (and_left _ _ h), leb-true _ _ (and_right _ _ h))

least-cycle : (s : Signal) → valid_signal s ≡ true → 1 ≤ s.greatest_cycle
unfolding valid_signal within
least-cycle s h =
    let a : 1 ≤ s.least_cycle = leb-true _ _ (and_right _ _ (and_left _ _ (and_left _ _ (and_left _ _ (and_left _ _ h))))) in
    let b : s.least_cycle ≤ s.greatest_cycle = leb-true _ _ (and_left _ _ (and_right _ _ (and_left _ _ (and_left _ _ (and_left _ _ h))))) in
    omega arith

least-kept : (s : Signal) → valid_signal s ≡ true → (k : ℕ) → k < s.phases → 1 ≤ get_or s.least k 0
unfolding valid_signal
least-kept s h k l =
    leb-true _ _ (and_left _ _ (every-at s.phases (λ k. leb 1 (get_or s.least k 0) and within (get_or s.least k 0) (get_or s.greatest k 0) 3600)
    (and_right _ _ (and_left _ _ (and_left _ _ (and_left _ _ (and_left _ _ (and_left _ _ h)))))) k l))

within_first : (a x b : ℕ) → within a x b ≡ true → a ≤ x
unfolding within
within_first a x b h = leb-true a x (and_left _ _ h)

module _ (network sheet : List Line) (offsets : ℕ) (held : Hold (sheet_checks network sheet offsets)) where
  pub durations-valid : (r : ℕ) → r < signal_count network → valid_durations (signal network r) (entry sheet r) ≡ true
  unfolding Hold sheet_checks signals_checks sheet_line_checks valid_numbers
  durations-valid r l = and_left _ _ (held.0 r l).1

  offset-valid : (r : ℕ) → r < signal_count network → valid_offset offsets (signal network r) (entry sheet r) ≡ true
  unfolding Hold sheet_checks signals_checks sheet_line_checks valid_numbers
  offset-valid r l = and_right _ _ (held.0 r l).1

  pub duration-some : ValidNetwork network → (r : ℕ) → r < signal_count network → (k : ℕ) → k < phases_of network r → 1 ≤ entry sheet r k
  unfolding valid_durations
  duration-some v r l k u =
      let a = every-at (phases_of network r) (λ k. within (get_or (signal network r).least k 0) (entry sheet r k) (get_or (signal network r).greatest k 0)) (durations-valid r l) k u in
      omega (arith, within_first _ _ _ a, least-kept (signal network r) (v.signals r l) k u)

module _ (network sheet : List Line) (v : ValidNetwork network) (held : Hold (sheet_checks network sheet 1)) where
  pub offset-short : (r : ℕ) → r < signal_count network → entry sheet r (phases_of network r) < end_of sheet r (phases_of network r)
  offset-short r l = ltb-true _ _ (unfold valid_offset in offset-valid network sheet 1 held r l)

  pub fits-of-checks : Hold (boundary_checks network sheet) → (r : ℕ) → r < signal_count network → Fits network sheet r
  unfolding Hold boundary_checks can_write fits_at
  fits-of-checks free r l =
      record {
        many = (two-phases (signal network r) (v.phases r l)).0;
        some = duration-some network sheet 1 held v r l;
        no-tram = and_left _ _ (free r l);
        inside = λ n h. leb-true _ _ (every-at (step_count network) (λ n. fits network sheet n r) (and_right _ _ (free r l)) n h);
        some-cycle = least-cycle (signal network r) (v.signals r l);
      }
