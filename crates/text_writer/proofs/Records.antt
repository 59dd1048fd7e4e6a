-- The `lines` of a written text are the records written.
use Rattle.std.specs.List.{All}
use Rattle.std.proofs.lemmas.List.{length-map}
use Rattle.std.proofs.lemmas.List.Elements.{All-nil, All-cons, All-head, All-tail, All-append}
use Rattle.base_laws.specs.Indexed.{list}
use Rattle.base_laws.proofs.Bools.{and_left, and_right}
use Rattle.base_laws.proofs.Laws.{length-list, get-list}
use Rattle.base_laws.proofs.Kit.{ℕ, zero, suc, ◌≤◌, ◌<◌, ◌≡◌, refl, sym, ap, ap₂, ◌∙◌, ◌≢◌, true, List, [], ◌∷◌, ◌++◌, map, append_assoc, append-nil, arith, eq-eqb, length, get_or}
use Rattle.text_reader.specs.Field.{digit, digits, largest, field_of}
use Rattle.text_reader.specs.Lines.{split, Line, line_of, lines_of, lines, letter_of, no_line, number_of, number, is_number, all_numbers, is_record}
use Rattle.text_reader.proofs.Bytes.{split-headed, split-here, split-on}
use Rattle.text_reader.proofs.Numerals.{digit-bounds}
use Rattle.text_writer.specs.Records.{numeral, field_text, field_texts, record_text, record_texts, record_line, record_lines}
use Rattle.text_writer.proofs.Numerals.{numeral-spells, field_back}
use Rattle.std.specs.Prelude.{Option, Some, None}

-- ---- pieces
-- digits hold no separator
digits-without : (c : ℕ) (bs : List ℕ) → c < 48 → digits bs ≡ true → All (λ b. b ≢ c) bs
unfolding digits
digits-without c [] h e = All-nil (λ b. b ≢ c)
digits-without c (b ∷ bs) h e =
    All-cons (λ b. b ≢ c) b bs (λ q. omega (arith, digit-bounds b (and_left (digit b) (digits bs) e))) (digits-without c bs h (and_right (digit b) (digits bs) e))

split-ends : (c : ℕ) (a b : List ℕ) → All (λ b. b ≢ c) a → split c (a ++ (c ∷ b)) ≡ a ∷ split c b
split-ends c [] b w = split-here c b
split-ends c (x ∷ a) b w =
    split-on c x (a ++ (c ∷ b)) (All-head (λ b. b ≢ c) x a w) ∙ rw (split-ends c a b (All-tail (λ b. b ≢ c) x a w))

split-all : (c : ℕ) (a : List ℕ) → All (λ b. b ≢ c) a → split c a ≡ a ∷ []
split-all c [] w = unfold split in refl
split-all c (x ∷ a) w = split-on c x a (All-head (λ b. b ≢ c) x a w) ∙ rw (split-all c a (All-tail (λ b. b ≢ c) x a w))

-- ---- the fields of a record
-- every number is one that a field may say
abbrev pub Small : List ℕ → Type 0
Small ns = (k : ℕ) → get_or ns k 0 ≤ largest

numeral-without : (c n : ℕ) → c < 48 → n ≤ largest → All (λ b. b ≢ c) (numeral 19 n)
numeral-without c n h l = digits-without c (numeral 19 n) h (numeral-spells 19 n (omega arith)).all

fields-without : (ns : List ℕ) → Small ns → All (λ b. b ≢ 10) (field_texts ns)
unfolding field_texts field_text
fields-without [] s = All-nil (λ b. b ≢ 10)
fields-without (n ∷ ns) s =
    All-cons (λ b. b ≢ 10) 9 _ (λ e. omega arith)
    (All-append (λ b. b ≢ 10) (numeral 19 n) (field_texts ns) (numeral-without 10 n (omega arith) (s 0)) (fields-without ns (λ k. s (suc k))))

split-fields : (w : List ℕ) (ns : List ℕ) → All (λ b. b ≢ 9) w → Small ns → split 9 (w ++ field_texts ns) ≡ w ∷ map (numeral 19) ns
unfolding field_texts field_text
split-fields w [] u s = ap (split 9) (append-nil w) ∙ split-all 9 w u
split-fields w (n ∷ ns) u s =
    split-ends 9 w (numeral 19 n ++ field_texts ns) u
    ∙ ap (λ (x : List (List ℕ)). w ∷ x) (split-fields (numeral 19 n) ns (numeral-without 9 n (omega arith) (s 0)) (λ k. s (suc k)))

fields_back : (ns : List ℕ) → Small ns → map field_of (map (numeral 19) ns) ≡ map Some ns
fields_back [] s = refl
fields_back (n ∷ ns) s = ap₂ (λ (x : Option ℕ) (xs : List (Option ℕ)). x ∷ xs) (field_back n (s 0)) (fields_back ns (λ k. s (suc k)))

-- ---- a record, whatever text stands behind it
module _ (letter : ℕ) (tab : letter ≢ 9) (feed : letter ≢ 10) where
  line-back : (ns : List ℕ) → Small ns → line_of true (letter ∷ field_texts ns) ≡ record_line letter ns
  unfolding line_of letter_of record_line
  line-back ns s = rw (split-fields (letter ∷ []) ns (All-cons (λ b. b ≢ 9) letter [] tab (All-nil (λ b. b ≢ 9))) s, fields_back ns s)

  -- its line comes first, and the text behind it is read as if it stood alone
  pub record-back : (ns rest : List ℕ) → Small ns → lines (record_text letter ns ++ rest) ≡ record_line letter ns ∷ lines rest
  unfolding record_text lines lines_of
  record-back ns rest s =
      let whole : (letter ∷ (field_texts ns ++ (10 ∷ []))) ++ rest ≡ (letter ∷ field_texts ns) ++ (10 ∷ rest) =
      ap (λ (x : List ℕ). letter ∷ x) (append_assoc (field_texts ns) (10 ∷ []) rest) in
      let parts = split-ends 10 (letter ∷ field_texts ns) rest (All-cons (λ b. b ≢ 10) letter (field_texts ns) feed (fields-without ns s)) in
      rw (whole, parts, split-headed 10 rest) (rw (line-back ns s))

  -- n records
  pub records-back : (n : ℕ) (f : ℕ → List ℕ) (rest : List ℕ) → ((i : ℕ) → i < n → Small (f i))
      → lines (record_texts letter n f ++ rest) ≡ record_lines letter n f ++ lines rest
  unfolding record_texts record_lines
  records-back zero f rest s = refl
  records-back (suc n) f rest s =
      ap lines (append_assoc (record_texts letter n f) (record_text letter (f n)) rest)
      ∙ records-back n f (record_text letter (f n) ++ rest) (λ i l. s i (omega arith))
      ∙ ap (λ (x : List Line). record_lines letter n f ++ x) (record-back (f n) rest (s n (omega arith)))
      ∙ sym (append_assoc (record_lines letter n f) (record_line letter (f n) ∷ []) (lines rest))

  pub text-back : (n : ℕ) (f : ℕ → List ℕ) → ((i : ℕ) → i < n → Small (f i)) → lines (record_texts letter n f) ≡ record_lines letter n f
  text-back n f s =
      ap lines (sym (append-nil (record_texts letter n f))) ∙ records-back n f [] s ∙ (unfold lines split lines_of in append-nil (record_lines letter n f))

-- ---- what the lines of written records say
module _ (letter : ℕ) where
  lines_list : (n : ℕ) (f : ℕ → List ℕ) → record_lines letter n f ≡ list n (λ i. record_line letter (f i))
  unfolding record_lines list
  lines_list zero f = refl
  lines_list (suc n) f = ap (λ (x : List Line). x ++ (record_line letter (f n) ∷ [])) (lines_list n f)

  pub lines-count : (n : ℕ) (f : ℕ → List ℕ) → length (record_lines letter n f) ≡ n
  lines-count n f = ap length (lines_list n f) ∙ length-list (λ i. record_line letter (f i)) n

  lines_at : (n : ℕ) (f : ℕ → List ℕ) (i : ℕ) → i < n → get_or (record_lines letter n f) i no_line ≡ record_line letter (f i)
  lines_at n f i h = rw lines_list (get-list (λ i. record_line letter (f i)) no_line n i h)

number-back : (ns : List ℕ) (k : ℕ) → number_of (get_or (map Some ns) k None) ≡ get_or ns k 0
unfolding number_of
number-back [] k = refl
number-back (n ∷ ns) zero = refl
number-back (n ∷ ns) (suc k) = number-back ns k

numbers-all : (ns : List ℕ) → all_numbers (map Some ns) ≡ true
unfolding all_numbers is_number
numbers-all [] = refl
numbers-all (n ∷ ns) = numbers-all ns

module _ (letter n : ℕ) (f : ℕ → List ℕ) (i : ℕ) (h : i < n) where
  -- number k of line i is number k that was written there
  pub entry-back : (k : ℕ) → number (get_or (record_lines letter n f) i no_line) k ≡ get_or (f i) k 0
  unfolding number record_line
  entry-back k = rw (lines_at letter n f i h) (number-back (f i) k)

  -- each is a record of the letter and as many numbers as were written
  pub form-back : is_record letter (length (f i)) (get_or (record_lines letter n f) i no_line) ≡ true
  unfolding is_record record_line
  form-back =
      rw (lines_at letter n f i h) (rw (eq-eqb letter letter refl, length-map (f i) Some, eq-eqb (length (f i)) (length (f i)) refl, numbers-all (f i)))
