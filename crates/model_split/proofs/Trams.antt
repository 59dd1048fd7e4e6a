-- The tram lines of a half ask of its signals what all lines ask.
use Rattle.base_laws.proofs.Kit.{◌≡◌, refl, sym, ap, ◌∙◌, true, false, cond, ◌⊎◌, inl, inr, List, [], ◌∷◌, ◌++◌, map, ℕ, zero, suc, ◌-◌, ◌≤◌, ◌<◌, arith, take, take-suc, take_all, leb-true, ne_eqb}
use Rattle.text_reader.specs.Lines.{Line, no_line, number, number_of}
use Rattle.text_writer.specs.Records.{record_line}
use Rattle.base_laws.specs.Test.{◌and◌, within}
use Rattle.model.specs.Network.{signal_count, tram_count, trams, covers, tram_phase}
use Rattle.model.specs.Rules.{tram, tram_exists, valid_tram}
use Rattle.model.specs.Table.{letter_t}
use Rattle.base_laws.proofs.Tests.{and_left, and_right, either_way, not-both}
use Rattle.model.proofs.Accepted.{ValidNetwork}
use Rattle.model.proofs.Trams.{tram-at}
use Rattle.model_text.proofs.Formed.{Formed, trams-length}
use Rattle.model_split.specs.Numbering.{rank, picked}
use Rattle.model_split.specs.Halves.{Half, signal_number, follows, half_tram_numbers}
use Rattle.model_split.proofs.Numbering.{renumbered}

-- the phase that the lines ask of signal r in step n, or a given one where none does
abbrev phase_or : List Line → ℕ → ℕ → ℕ → ℕ
phase_or [] r n d = d
phase_or (t ∷ ts) r n d = cond (covers t r n) (number t 1) (phase_or ts r n d)

phase-or-none : (ts : List Line) (r n : ℕ) → phase_or ts r n 0 ≡ tram_phase ts r n
unfolding tram_phase
phase-or-none [] r n = refl
phase-or-none (t ∷ ts) r n = ap (λ x. cond (covers t r n) (number t 1) x) (phase-or-none ts r n)

phase-append : (ts us : List Line) (r n d : ℕ) → phase_or (ts ++ us) r n d ≡ phase_or ts r n (phase_or us r n d)
phase-append [] us r n d = refl
phase-append (t ∷ ts) us r n d = ap (λ x. cond (covers t r n) (number t 1) x) (phase-append ts us r n d)

map-append : (xs ys : List (List ℕ)) → map (record_line letter_t) (xs ++ ys) ≡ map (record_line letter_t) xs ++ map (record_line letter_t) ys
map-append [] ys = refl
map-append (x ∷ xs) ys = ap (λ (zs : List Line). record_line letter_t x ∷ zs) (map-append xs ys)

module _ (network : List Line) (h : Half) (formed : Formed network) (valid : ValidNetwork network) where
  -- the signal of a `T` line exists
  pub signal-there : (k : ℕ) → k < tram_count network → (1 ≤ number (tram network k) 0) × (number (tram network k) 0 ≤ signal_count network)
  unfolding valid_tram tram_exists within
  signal-there k l = let v = and_left _ _ (valid.trams k l) in search (leb-true, and_left, and_right)

  -- its number in the half
  pub tram-signal : (k : ℕ) → k < tram_count network → signal_number h (number (tram network k) 0) ≡ suc (rank h.has-signal (number (tram network k) 0 - 1))
  unfolding signal_number
  tram-signal k l = rw (ne_eqb (number (tram network k) 0) 0 (λ e. omega (arith, (signal-there k l).0)))

  module _ (r n : ℕ) (s : h.has-signal r ≡ true) where
    abbrev new_signal : ℕ
    new_signal = rank h.has-signal r

    abbrev new : ℕ → Line
    new k = record_line letter_t (half_tram_numbers network h k)

    covers-same : (k : ℕ) → k < tram_count network → follows network h k ≡ true → covers (new k) new_signal n ≡ covers (tram network k) r n
    unfolding covers half_tram_numbers record_line number number_of follows
    covers-same k l f = rw (tram-signal k l, renumbered h.has-signal (number (tram network k) 0) r (signal-there k l).0 f s)

    covers-none : (k : ℕ) → k < tram_count network → follows network h k ≡ false → covers (tram network k) r n ≡ false
    unfolding covers follows
    covers-none k l f =
        let g : h.has-signal (number (tram network k) 0 - 1) ≡ false = f in
        rw (ne_eqb (number (tram network k) 0) (suc r) (λ z. not-both s (let w : number (tram network k) 0 - 1 ≡ r = omega arith in rw w at g))) (unfold ◌and◌ in refl)

    -- one line: of the half it is there or not
    line-phase : (k d : ℕ) → k < tram_count network
        → phase_or (map (record_line letter_t) (cond (follows network h k) (half_tram_numbers network h k ∷ []) [])) new_signal n d ≡ cond (covers (tram network k) r n) (number (tram network k) 1) d
    line-phase k d l = go (either_way (follows network h k))
      where
        phase : number (new k) 1 ≡ number (tram network k) 1
        phase = unfold half_tram_numbers record_line number number_of in refl

        go : (follows network h k ≡ true) ⊎ (follows network h k ≡ false)
            → phase_or (map (record_line letter_t) (cond (follows network h k) (half_tram_numbers network h k ∷ []) [])) new_signal n d ≡ cond (covers (tram network k) r n) (number (tram network k) 1) d
        go (inl f) = rw (f, covers-same k l f, phase)
        go (inr f) = rw (f, covers-none k l f)

    first-lines : (k d : ℕ) → k ≤ tram_count network
        → phase_or (map (record_line letter_t) (picked k (follows network h) (half_tram_numbers network h))) new_signal n d ≡ phase_or (take k (trams network)) r n d
    unfolding picked
    first-lines zero d l = refl
    first-lines (suc k) d l =
        ap (λ ts. phase_or ts new_signal n d) (map-append (picked k (follows network h) (half_tram_numbers network h)) _)
        ∙ phase-append (map (record_line letter_t) (picked k (follows network h) (half_tram_numbers network h))) _ new_signal n d
        ∙ ap (phase_or (map (record_line letter_t) (picked k (follows network h) (half_tram_numbers network h))) new_signal n) (line-phase k d l)
        ∙ first-lines k _ (omega arith)
        ∙ sym (phase-append (take k (trams network)) (tram network k ∷ []) r n d)
        ∙ ap (λ ts. phase_or ts r n d) (sym (take-suc (trams network) k no_line (omega (arith, trams-length network formed)) ∙ ap (λ t. take k (trams network) ++ (t ∷ [])) (tram-at network k l)))

    pub half-phase : tram_phase (map (record_line letter_t) (picked (tram_count network) (follows network h) (half_tram_numbers network h))) new_signal n ≡ tram_phase (trams network) r n
    half-phase =
        sym (phase-or-none _ new_signal n) ∙ first-lines (tram_count network) 0 (omega arith)
        ∙ ap (λ ts. phase_or ts r n 0) (take_all (tram_count network) (trams network) (omega (arith, trams-length network formed))) ∙ phase-or-none (trams network) r n
