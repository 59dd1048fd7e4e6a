-- Numbers that agree make one list, and networks whose numbers agree have one text.
use Rattle.base_laws.proofs.Kit.{◌≡◌, refl, ap₂, List, ◌++◌, ℕ, zero, suc, ◌<◌, arith}
use Rattle.text_writer.specs.Records.{record_text, record_texts}
use Rattle.model.specs.Table.{letter_g, letter_q, letter_m, letter_h, letter_s}
use Rattle.model_text.specs.NetworkText.{NetworkNumbers, count_numbers, network_text}

pub record SameNumbers (x y : NetworkNumbers) : Type 0 where
  pub links : x.links ≡ y.links
  pub signals : x.signals ≡ y.signals
  pub movements : x.movements ≡ y.movements
  pub steps : x.steps ≡ y.steps
  pub past : x.past ≡ y.past
  pub trams : x.trams ≡ y.trams
  pub signal : (r : ℕ) → r < y.signals → x.signal r ≡ y.signal r
  pub link : (i : ℕ) → i < y.links → x.link i ≡ y.link i
  pub movement : (j : ℕ) → j < y.movements → x.movement j ≡ y.movement j
  pub past-step : (m : ℕ) → m < y.past → x.past-step m ≡ y.past-step m
  pub step : (n : ℕ) → n < y.steps → x.step n ≡ y.step n

pub texts-same : (letter n : ℕ) (f g : ℕ → List ℕ) → ((k : ℕ) → k < n → f k ≡ g k) → record_texts letter n f ≡ record_texts letter n g
unfolding record_texts
texts-same letter zero f g h = refl
texts-same letter (suc n) f g h = ap₂ (λ xs ns. xs ++ record_text letter ns) (texts-same letter n f g (λ k l. h k (omega arith))) (h n (omega arith))

pub same_text : (x y : NetworkNumbers) → SameNumbers x y → network_text x ≡ network_text y
unfolding network_text count_numbers
same_text x y s =
    rw (
      s.links,
      s.signals,
      s.movements,
      s.steps,
      s.past,
      s.trams,
      texts-same letter_g y.signals x.signal y.signal s.signal,
      texts-same letter_q y.links x.link y.link s.link,
      texts-same letter_m y.movements x.movement y.movement s.movement,
      texts-same letter_h y.past x.past-step y.past-step s.past-step,
      texts-same letter_s y.steps x.step y.step s.step,
    )
