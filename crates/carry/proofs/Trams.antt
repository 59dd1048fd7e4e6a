-- The trams that are left behind a boundary, one after another.
use Rattle.base_laws.proofs.Kit.{ℕ, zero, suc, ◌+◌, ◌-◌, ◌≤◌, ◌<◌, max, min, ◌≡◌, refl, sym, ap, ap₂, ◌∙◌, Bool, true, false, cond, List, [], ◌∷◌, ◌++◌, map, dec_le, arith, lt-ltb, le-ltb, le-leb, lt-leb, length, get_or, take, drop, length-take, length-drop, take-suc, take_all, get_or-take, get_or-drop}
use Rattle.text_reader.specs.Lines.{Line, no_line, number}
use Rattle.model.specs.Network.{entry, step_count, tram_count, tram_line, trams as tram_lines}
use Rattle.model.specs.Table.{is_form, letter_t}
use Rattle.network_tables.specs.declared.Tram.{Tram}
use Rattle.network_tables.specs.Fields.{tram_fields, tram_by, tram_at, tram_row}
use Rattle.network_tables.specs.Tables.{TramTable}
use Rattle.network_tables.proofs.Places.{record-within}
use Rattle.model_carry.specs.Part.{meets, clip, clipped}
use Rattle.network_writer.specs.Texts.{rows_to, RowIs}
use Rattle.carry.specs.Trams.{left_of, all_left}
use Rattle.std.specs.Prelude.{Option, Some, None, option_to_list}
use Rattle.std.proofs.lemmas.List.{get_or_default, length-map}

-- ---- one tram
module _ (b : ℕ) (tram : Tram) where
  pub none_left : tram.last_step ≤ b → [] ≡ left_of b tram
  unfolding left_of
  none_left h = rw (le-ltb b tram.last_step h) refl

  pub one_left : b < tram.last_step → {steps first : ℕ} → steps ≡ tram.first_step - b → first ≡ max steps 1 → tram_row (record tram { first_step = first; last_step = tram.last_step - b }) ∷ [] ≡ left_of b tram
  unfolding left_of
  one_left h {first = first} d e = let z : first ≡ max tram.first_step (suc b) - b = omega arith in rw (lt-ltb b tram.last_step h, z) refl

-- what is given for tram k is its row, and as many as it has
module _ (b : ℕ) (trams : List Tram) (k : ℕ) (none : Tram) (h : k < length trams) where
  at-k : left_of b (get_or trams k none) ≡ left_of b (tram_at trams k)
  at-k = ap (left_of b) (get_or_default trams k none (tram_by (λ k. 0)) h)

  pub row-left : (rest : Option Tram) → map tram_row (option_to_list rest) ≡ left_of b (get_or trams k none) → RowIs (λ t row. row ≡ tram_row t) rest (left_of b (tram_at trams k))
  row-left (Some t) e = λ row is. rw is (e ∙ at-k)
  row-left None e = e ∙ at-k

  pub many-left : (rest : Option Tram) → map tram_row (option_to_list rest) ≡ left_of b (get_or trams k none) → length (option_to_list rest) ≡ length (left_of b (tram_at trams k))
  many-left rest e = sym (length-map (option_to_list rest) tram_row) ∙ ap length (e ∙ at-k)

-- ---- what is left of them is what is clipped of their lines
module _ (b K : ℕ) (t : Line) (first : number t 2 ≤ number t 3) (last : number t 3 ≤ K) where
  clipped-one : clipped b K (t ∷ []) ≡ left_of b (tram_by (number t))
  unfolding clipped meets clip left_of
  clipped-one = elim (dec_le (number t 3) b) [
    | yes h ↦ rw (le-ltb b (number t 3) h, lt-leb (max (number t 2) (suc b)) (min (number t 3) K) (omega arith)) refl
    | no h ↦ let e : min (number t 3) K ≡ number t 3 = omega arith in
        rw (e, lt-ltb b (number t 3) (omega arith), le-leb (max (number t 2) (suc b)) (number t 3) (omega arith)) refl
  ]

clipped-more : (b K : ℕ) (ts : List Line) (t : Line) → clipped b K (ts ++ (t ∷ [])) ≡ clipped b K ts ++ clipped b K (t ∷ [])
unfolding clipped
clipped-more b K [] t = refl
clipped-more b K (u ∷ ts) t = go (meets b K u) (clipped-more b K ts t)
  where
    go : (m : Bool) → clipped b K (ts ++ (t ∷ [])) ≡ clipped b K ts ++ clipped b K (t ∷ [])
        → cond m (clip b K u ∷ clipped b K (ts ++ (t ∷ []))) (clipped b K (ts ++ (t ∷ []))) ≡ cond m (clip b K u ∷ clipped b K ts) (clipped b K ts) ++ clipped b K (t ∷ [])
    go true e = ap (λ (x : List (List ℕ)). clip b K u ∷ x) e
    go false e = e

module _ {network : List Line} (b : ℕ) {trams : List Tram} (table : TramTable network trams) (forms : (k : ℕ) → k < tram_count network → is_form network (tram_line network k) letter_t tram_fields ≡ true)
    (first : (k : ℕ) → k < tram_count network → entry network (tram_line network k) 2 ≤ entry network (tram_line network k) 3)
    (last : (k : ℕ) → k < tram_count network → entry network (tram_line network k) 3 ≤ step_count network) where
  few : (k : ℕ) → k < tram_count network → k < length (tram_lines network)
  unfolding tram_lines tram_line is_form
  few k h = let l = record-within letter_t tram_fields network (1 + k) (forms k h) in simp (length-take, length-drop) (omega arith)

  left-one : (k : ℕ) → k < tram_count network → left_of b (tram_at trams k) ≡ clipped b (step_count network) (get_or (tram_lines network) k no_line ∷ [])
  unfolding entry
  left-one k h =
      ap (left_of b) (table.holds k h)
      ∙ sym (ap (λ t. clipped b (step_count network) (t ∷ [])) line-is ∙ clipped-one b (step_count network) (get_or network (tram_line network k) no_line) (first k h) (last k h))
    where
      line-is : get_or (tram_lines network) k no_line ≡ get_or network (tram_line network k) no_line
      line-is = unfold tram_lines tram_line in get_or-take (tram_count network) (drop 1 network) k no_line h ∙ get_or-drop 1 network k no_line

  left-to : (k : ℕ) → k ≤ tram_count network → all_left b trams k ≡ clipped b (step_count network) (take k (tram_lines network))
  unfolding rows_to
  left-to zero h = unfold clipped in refl
  left-to (suc k) h =
      let K = step_count network in
      ap₂ (λ (x y : List (List ℕ)). x ++ y) (left-to k (omega arith)) (left-one k (omega arith))
      ∙ sym (ap (clipped b K) (take-suc (tram_lines network) k no_line (few k (omega arith))) ∙ clipped-more b K (take k (tram_lines network)) (get_or (tram_lines network) k no_line))

  pub left-is : all_left b trams (tram_count network) ≡ clipped b (step_count network) (tram_lines network)
  left-is = left-to (tram_count network) (omega arith) ∙ ap (clipped b (step_count network)) (unfold tram_lines in take_all (tram_count network) _ (simp length-take (omega arith)))
