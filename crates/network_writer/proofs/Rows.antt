-- The rows of a table's items, put or counted one after another.
use Rattle.base_laws.proofs.Kit.{ℕ, zero, suc, ◌+◌, ◌≤◌, ◌≡◌, refl, ap₂, ◌∙◌, List, [], ◌∷◌, ◌++◌, append-nil, add-one, arith, length, length-append}
use Rattle.text_writer.specs.Records.{record_text, record_texts}
use Rattle.network_writer.specs.declared.Output.{Output}
use Rattle.network_writer.specs.Put.{Put}
use Rattle.network_writer.specs.Texts.{line_texts, rows_to}
use Rattle.network_writer.proofs.Put.{put-none, puts-more}
use Rattle.network_writer.proofs.Texts.{texts-more}
use Rattle.std.specs.Prelude.{Bool, Option, Some, None, is_some, option_to_list}
use mir.Val.{bool_byte}

-- ---- one item: its row is put, or it has none
pub row-put : {rows : List (List ℕ)} (letter : ℕ) {row : List ℕ} → row ∷ [] ≡ rows → {old new : Output} → Put 1 (record_text letter row) old new → Put 1 (line_texts letter rows) old new
unfolding line_texts
row-put letter e p = rw (← e, append-nil) p

pub none-put : {rows : List (List ℕ)} (letter : ℕ) → [] ≡ rows → (output : Output) → Put 1 (line_texts letter rows) output output
unfolding line_texts
none-put letter e output = rw (← e) (let p = put-none output in record { buffer = refl; ends = p.ends; few = omega arith; size = refl; is = p.is })

-- ---- the first k items
pub items-none : (letter : ℕ) (f : ℕ → List (List ℕ)) (output : Output) → Put 0 (line_texts letter (rows_to 0 f)) output output
unfolding rows_to line_texts
items-none letter f output = put-none output

pub items-next : (letter : ℕ) (f : ℕ → List (List ℕ)) (k : ℕ) {old now new : Output} → Put k (line_texts letter (rows_to k f)) old now → Put 1 (line_texts letter (f k)) now new
    → Put (k + 1) (line_texts letter (rows_to (k + 1) f)) old new
unfolding rows_to
items-next letter f k p q = rw (add-one k, texts-more letter (rows_to k f) (f k)) (rw (add-one k) at (puts-more p q))

pub count-next : (f : ℕ → List (List ℕ)) (k : ℕ) {count more : ℕ} → count ≡ length (rows_to k f) → more ≡ length (f k) → count + more ≡ length (rows_to (k + 1) f)
unfolding rows_to
count-next f k e m = rw add-one (omega (arith, e, m, length-append (rows_to k f) (f k)))

pub items-all : (letter : ℕ) (f : ℕ → List (List ℕ)) {n k : ℕ} → k ≡ n → {old now : Output} → Put k (line_texts letter (rows_to k f)) old now → Put n (line_texts letter (rows_to n f)) old now
items-all letter f e p = rw e at p

-- what may be there is one item or none
pub one-many : {T : Type 0} (o : Option T) {some : Bool} {n : ℕ} → some ≡ is_some o → n ≡ bool_byte some → (n ≤ 1) × (n ≡ length (option_to_list o))
one-many (Some item) e m = rw (m, e) (omega arith, refl)
one-many None e m = rw (m, e) (omega arith, refl)

pub count-all : (f : ℕ → List (List ℕ)) {n k : ℕ} → k ≡ n → {count : ℕ} → count ≡ length (rows_to k f) → count ≡ length (rows_to n f)
count-all f e p = rw e at p

-- each item has one row
pub each-one : (letter : ℕ) (row : ℕ → List ℕ) (n : ℕ) → line_texts letter (rows_to n (λ k. row k ∷ [])) ≡ record_texts letter n row
unfolding line_texts rows_to record_texts
each-one letter row zero = refl
each-one letter row (suc n) =
    texts-more letter (rows_to n (λ k. row k ∷ [])) (row n ∷ [])
    ∙ ap₂ (λ (a b : List ℕ). a ++ b) (each-one letter row n) (append-nil (record_text letter (row n)))
