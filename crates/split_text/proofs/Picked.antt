-- Lines of what is in the half, put one behind another.
use Rattle.base_laws.proofs.Kit.{ℕ, zero, suc, ◌+◌, ◌<◌, ◌≡◌, refl, ap, ap₂, ◌∙◌, Bool, true, false, cond, List, [], ◌∷◌, ◌++◌, append-nil, add-one, arith, get_or}
use Rattle.text_writer.specs.Records.{record_text, record_texts}
use Rattle.network_writer.specs.declared.Output.{Output}
use Rattle.network_writer.specs.Put.{Put}
use Rattle.network_writer.specs.Texts.{line_texts, rows_to}
use Rattle.network_writer.proofs.Put.{put-none, puts-more}
use Rattle.network_writer.proofs.Texts.{texts-more, texts-of-list}
use Rattle.model_split.specs.Numbering.{rank, picked}
use Rattle.model_split.proofs.Numbering.{picked-length}
use Rattle.base_laws.proofs.Tests.{not-both}

-- ---- of the first k lines of one letter those that are picked
module _ (letter : ℕ) (test : ℕ → Bool) (f : ℕ → List ℕ) where
  pub picks-none : (output : Output) → Put 0 (line_texts letter (picked 0 test f)) output output
  unfolding picked line_texts
  picks-none output = put-none output

  module _ {k : ℕ} {old mid : Output} (t : Put k (line_texts letter (picked k test f)) old mid) where
    pub picks-next : {new : Output} → Put 1 (line_texts letter (cond (test k) (f k ∷ []) [])) mid new → Put (k + 1) (line_texts letter (picked (k + 1) test f)) old new
    unfolding picked
    picks-next p =
        let e : k + 1 ≡ suc k = add-one k in
        let w = puts-more t p in
        rw (e, texts-more letter (picked k test f) (cond (test k) (f k ∷ []) [])) (rw e at w)

    pub picks-one : test k ≡ true → {new : Output} → Put 1 (record_text letter (f k)) mid new → Put (k + 1) (line_texts letter (picked (k + 1) test f)) old new
    unfolding line_texts
    picks-one e p = picks-next (rw (e, append-nil) p)

    pub picks-other : test k ≡ false → Put (k + 1) (line_texts letter (picked (k + 1) test f)) old mid
    unfolding line_texts
    picks-other e = let p = put-none mid in picks-next (rw e (record { buffer = refl; ends = p.ends; few = omega arith; size = refl; is = p.is }))

-- the rows of a table's items that are picked
pub rows-are : (n : ℕ) (test : ℕ → Bool) (f : ℕ → List ℕ) → rows_to n (λ k. cond (test k) (f k ∷ []) []) ≡ picked n test f
unfolding rows_to picked
rows-are zero test f = refl
rows-are (suc n) test f = ap (λ (xs : List (List ℕ)). xs ++ cond (test n) (f n ∷ []) []) (rows-are n test f)

-- ---- what is picked by two tests that agree
one_same : {A : Type 0} (b c : Bool) (x y : A) → b ≡ c → (c ≡ true → x ≡ y) → cond b (x ∷ []) [] ≡ cond c (y ∷ []) []
one_same true true x y e h = ap (λ z. z ∷ []) (h refl)
one_same true false x y e h = absurd (not-both refl e)
one_same false true x y e h = absurd (not-both e refl)
one_same false false x y e h = refl

pub picked_same : {A : Type 0} (n : ℕ) (test other : ℕ → Bool) (f g : ℕ → A) → ((i : ℕ) → i < n → test i ≡ other i) → ((i : ℕ) → i < n → other i ≡ true → f i ≡ g i)
    → picked n test f ≡ picked n other g
unfolding picked
picked_same zero test other f g t h = refl
picked_same {A} (suc n) test other f g t h =
    ap₂ (λ (xs ys : List A). xs ++ ys) (picked_same n test other f g (λ i l. t i (omega arith)) (λ i l. h i (omega arith))) (one_same (test n) (other n) (f n) (g n) (t n (omega arith)) (h n (omega arith)))

-- lines by a list of what is picked
pub picked-texts : (letter n : ℕ) (test : ℕ → Bool) (f : ℕ → List ℕ) → line_texts letter (picked n test f) ≡ record_texts letter (rank test n) (λ k. get_or (picked n test f) k [])
picked-texts letter n test f = texts-of-list letter (picked n test f) ∙ ap (λ c. record_texts letter c (λ k. get_or (picked n test f) k [])) (picked-length test f n)
