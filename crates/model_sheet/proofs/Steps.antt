-- Times and ordinary seconds.
use Rattle.base_laws.proofs.Kit.{◌≡◌, refl, true, false, List, ℕ, zero, suc, ◌+◌, ◌-◌, ◌≤◌, arith}
use Rattle.text_reader.specs.Lines.{Line}
use Rattle.base_laws.specs.Sum.{sum}
use Rattle.model.specs.Network.{step_length, time, ordinary}
use Rattle.model.specs.Guarantees.{between, ordinary_length}
use Rattle.model.proofs.Times.{time-suc}

pub time-zero : (network : List Line) → time network 0 ≡ 0
unfolding time sum
time-zero network = refl

-- the seconds of the ordinary steps after boundary a, to boundary b
abbrev pub ordinary_seconds : List Line → ℕ → ℕ → ℕ → ℕ
ordinary_seconds network r a b = between a b (ordinary_length network r)

module _ (network : List Line) (r : ℕ) where
  pub seconds-none : (a : ℕ) → ordinary_seconds network r a a ≡ 0
  unfolding between sum
  seconds-none a = let e : a - a ≡ 0 = omega arith in rw e

  -- one step more
  pub seconds-suc : (a b : ℕ) → a ≤ b → ordinary_seconds network r a (suc b) ≡ ordinary_seconds network r a b + ordinary_length network r b
  unfolding between sum
  seconds-suc a b h =
      let e : suc b - a ≡ suc (b - a) = omega arith in
      let f : a + (b - a) ≡ b = omega arith in
      rw (e, f)

  pub length-ordinary : (n : ℕ) → ordinary network n r ≡ true → ordinary_length network r n ≡ step_length network n
  unfolding ordinary_length
  length-ordinary n h = rw h

  pub length-tram : (n : ℕ) → ordinary network n r ≡ false → ordinary_length network r n ≡ 0
  unfolding ordinary_length
  length-tram n h = rw h

  -- where every step is ordinary, time
  pub seconds-all : (a d : ℕ) → ((n : ℕ) → ordinary network n r ≡ true) → ordinary_seconds network r a (a + d) + time network a ≡ time network (a + d)
  seconds-all a zero h = let e : a + 0 ≡ a = omega arith in rw (e, seconds-none a) (omega arith)
  seconds-all a (suc d) h =
      let e : a + suc d ≡ suc (a + d) = omega arith in
      rw (e, seconds-suc a (a + d) (omega arith), length-ordinary (a + d) (h (a + d)), time-suc network (a + d)) (omega (arith, seconds-all a d h))
