-- A byte that is looked up at a place, and the first bytes from a place on.
use Rattle.base_laws.proofs.Kit.{ℕ, ◌+◌, ◌-◌, ◌≤◌, ◌<◌, ◌≡◌, refl, sym, ◌∙◌, Bool, not, ◌&&◌, List, arith, le-leb, lt-leb, ne_eqb, eqb, leb, length, take, drop, get_or, ap, length-take, length-drop, List·getD-eq-default, get_or-take, get_or-drop}
use Rattle.std.specs.Prelude.{Option, Some, None, MatchOption, min}
use Rattle.std.specs.Borrow.{Bor}
use Rattle.std.specs.Iterator.{Yields}
use Rattle.std.specs.Iterator.Adapters.{enumerate_source, enumerate_count, enumerate_steps, take_source, take_count, take_steps}
use Rattle.std.specs.List.{HoldsAt, enumerate_from}
use Rattle.std.specs.Option.{option_eq}
use Rattle.std.specs.Slice.Iter.{iter_rest, iter_steps}
use Rattle.std.specs.declared.iter.Enumerate.{Enumerate}
use Rattle.std.specs.declared.iter.Take.{Take}
use Rattle.std.proofs.Common.{Iter}
use Rattle.std.proofs.lemmas.Iterator.{YieldsList, YieldsList-from_slice, YieldsList-from_take}
use Rattle.std.proofs.lemmas.Iterator.Consumers.{YieldsList-from_enumerate, YieldsList-turn, YieldsList-end}
use Rattle.std.proofs.lemmas.List.{get_or_default}
use Rattle.std.proofs.lemmas.List.FromFn.{length-enumerate_from, get_or-enumerate_from}

-- what a look at a place gives
abbrev pub Looked : List ℕ → ℕ → Option (Bor ℕ) → Type 0
Looked text at found = MatchOption found (length text ≤ at) (λ x. (at < length text) × HoldsAt (λ y. x.now ≡ y) text at)

abbrev pub same_byte : Bor ℕ → Bor ℕ → Bool
same_byte x y = eqb x.now y.now

-- whether it is this byte
pub looked : (text : List ℕ) (at : ℕ) (found : Option (Bor ℕ)) → Looked text at found → (byte : Bor ℕ)
    → option_eq same_byte found (Some byte) ≡ (not (leb (length text) at) && eqb (get_or text at 0) byte.now)
looked text at None h byte = rw (le-leb (length text) at h)
looked text at (Some x) h byte = rw (lt-leb (length text) at h.0, h.1 0)

-- a byte that is not 0, which stands past the end
pub looked-some : (text : List ℕ) (at : ℕ) (found : Option (Bor ℕ)) → Looked text at found → (byte : Bor ℕ) → 1 ≤ byte.now
    → option_eq same_byte found (Some byte) ≡ eqb (get_or text at 0) byte.now
looked-some text at None h byte some = rw (List·getD-eq-default text 0 h) (sym (ne_eqb 0 byte.now (λ e. omega arith)))
looked-some text at (Some x) h byte some = rw (h.1 0) refl

-- the last byte, at which a look finds nothing in an empty text alone
pub looked-last : (text : List ℕ) (found : Option (Bor ℕ)) → MatchOption found (length text ≤ 0) (λ x. (0 < length text) × HoldsAt (λ y. x.now ≡ y) text (length text - 1))
    → Looked text (length text - 1) found
looked-last text None h = omega arith
looked-last text (Some x) h = (omega (arith, h.0), h.1)

-- ---- the bytes from a place on
abbrev pub tail : List ℕ → ℕ → List ℕ
tail text from = take (length text - from) (drop from text)

-- n of them at most, each with its number
abbrev taken_from : ℕ → List ℕ → ℕ → List (ℕ × ℕ)
taken_from n text from = enumerate_from 0 (take n (tail text from))

-- what turn k over them reads: a number and a byte
pub record Turn (n : ℕ) (text : List ℕ) (from k i b : ℕ) : Type 0 where
  pub few : k < n
  pub within : from + k < length text
  pub index : i ≡ k
  pub byte : b ≡ get_or text (from + k) 0

module _ (n : ℕ) (text : List ℕ) (from : ℕ) (h : from ≤ length text) where
  taken-size : length (taken_from n text from) ≡ min n (length text - from)
  taken-size = length-enumerate_from 0 (take n (tail text from)) ∙ simp (length-take, length-drop) (omega arith)

  taken-read : (k i b : ℕ) → k < length (taken_from n text from) → ◌≡◌ {A = ℕ × ℕ} (i, b) (get_or (taken_from n text from) k (i, b)) → Turn n text from k i b
  taken-read k i b l e =
      let few : k < n = omega (arith, taken-size) in
      let within : from + k < length text = omega (arith, taken-size) in
      let both = e ∙ get_or-enumerate_from 0 (take n (tail text from)) k (i, b) (omega (arith, length-enumerate_from 0 (take n (tail text from)))) in
      record {
        few = few;
        within = within;
        index = ap (λ (p : ℕ × ℕ). p.0) both ∙ omega arith;
        byte =
            ap (λ (p : ℕ × ℕ). p.1) both
            ∙ get_or-take n (tail text from) k b few
            ∙ get_or-take (length text - from) (drop from text) k b (omega arith)
            ∙ get_or-drop from text k b
            ∙ get_or_default text (from + k) b 0 within;
      }

  module _ (s : Enumerate (Take (Iter ℕ))) (rest : iter_rest (take_source (enumerate_source s)) ≡ tail text from)
      (count : take_count (enumerate_source s) ≡ n) (zero : enumerate_count s ≡ 0) where
    road : YieldsList (enumerate_steps (take_steps iter_steps)) (λ (q : ℕ × Bor ℕ). (q.0, q.1.now)) s (taken_from n text from)
    road = YieldsList-from_enumerate (YieldsList-from_take n (YieldsList-from_slice (tail text from) rest) count) zero

    module _ (xs : List (ℕ × Bor ℕ)) (t : Enumerate (Take (Iter ℕ))) (y : Yields (enumerate_steps (take_steps iter_steps)) s xs t)
        (r : Option (ℕ × Bor ℕ)) (u : Enumerate (Take (Iter ℕ))) (p : enumerate_steps (take_steps iter_steps) t r u) where
      pub taken-turn : (x : ℕ × Bor ℕ) → r ≡ Some x → Turn n text from (length xs) x.0 x.1.now
      taken-turn x e = let turn = YieldsList-turn road xs t y r u x e p in taken-read (length xs) x.0 x.1.now turn.0 turn.1

      pub taken-end : r ≡ None → length xs ≡ min n (length text - from)
      taken-end e = (YieldsList-end road xs t y r u e p).1 ∙ taken-size
