-- A half numbered by what it has, and both by the set of links in the first.
use Rattle.std.specs.List.{list_any, list_all, enumerate_from}
use Rattle.std.proofs.lemmas.List.{take_all}
use Rattle.std.proofs.lemmas.List.FromFn.{length-enumerate_from, get_or-enumerate_from}
use Rattle.base_laws.proofs.Kit.{ℕ, suc, ◌+◌, ◌<◌, ◌≡◌, refl, ap, ◌∙◌, Bool, true, false, not, ◌&&◌, ◌||◌, List, [], ◌∷◌, take, get_or, length, arith, eqb}
use Rattle.text_reader.specs.Lines.{Line}
use Rattle.base_laws.specs.Test.{◌or◌}
use Rattle.base_laws.specs.Sum.{only}
use Rattle.base_laws.proofs.Tests.{every-same}
use Rattle.model.specs.Network.{link_count, movement_count}
use Rattle.network_tables.specs.declared.Link.{Link}
use Rattle.network_tables.specs.declared.NetworkTables.{NetworkTables}
use Rattle.network_tables.specs.Fields.{movement_at, link_by}
use Rattle.network_tables.specs.Tables.{LinkTable}
use Rattle.network_tables.proofs.Tables.{signal-of-at, from-link-at, to-link-at}
use Rattle.network_tables.proofs.Every.{items-every}
use Rattle.model_split.specs.Numbering.{rank}
use Rattle.model_split.specs.Halves.{inside, in_second, first_half, second_half}
use Rattle.model_split.specs.Call.{in_set}
use Rattle.split_tables.specs.Tables.{is_inside, LinksNamed}
use Rattle.split_tables.specs.declared.HalfTables.{HalfTables}
use Rattle.split_tables.specs.Items.{Gives, Numbered}
use Rattle.split_tables.specs.Halves.{outside_has, HalvesAsked, HalfTold, HalvesNumbered}
use Rattle.split_tables.proofs.Tables.{inside-is}

-- ---- `number_half`
pub halves-named : {tables : NetworkTables} → HalvesAsked tables → (j : ℕ) → j < tables.reading.counts.movements → LinksNamed (movement_at tables.movements.now j)
halves-named {tables} a j l =
    let few = tables.sized.few.links in
    let from = a.ends j 0 l (omega arith) in
    let to = a.ends j 1 l (omega arith) in
    record { from-first = from.0; from-last = omega (arith, from.1, few); to-first = to.0; to-last = omega (arith, to.1, few) }

module _ {tables : NetworkTables} (a : HalvesAsked tables) {links_post signals_post inside_post : ℕ → Bool → Type 0} {links signals movements : List ℕ}
    (n₁ : (test : ℕ → Bool) → Gives links_post tables.reading.counts.links test → Numbered test tables.reading.counts.links links)
    (n₂ : (test : ℕ → Bool) → Gives signals_post tables.reading.counts.signals test → Numbered test tables.reading.counts.signals signals)
    (n₃ : (test : ℕ → Bool) → Gives inside_post tables.reading.counts.movements test → Numbered test tables.reading.counts.movements movements)
    (told : (j : ℕ) (b : Bool) → inside_post j b → b ≡ is_inside (movement_at tables.movements.now j) links) where
  pub half-told : HalfTold tables links_post signals_post (record { links = links; signals = signals; movements = movements })
  half-told network counted table h has-link has-signal =
      let links-are : (i : ℕ) → i < link_count network → get_or links i 0 ≡ only (h.has-link i) (suc (rank h.has-link i)) =
      λ i l. (n₁ h.has-link has-link).are i (omega (arith, counted.links)) in
      record {
        links = links-are;
        signals = λ r l. (n₂ h.has-signal has-signal).are r (omega (arith, counted.signals));
        movements = λ j l. (n₃ (inside network h) (λ k b u p.
            let v : k < movement_count network = omega (arith, counted.movements) in
            let f = a.ends k 0 u (omega arith) in
            let t = a.ends k 1 u (omega arith) in
            told k b p ∙ inside-is h links tables.movements.now links-are table k v (omega (arith, f, from-link-at table k v, counted.links)) (omega (arith, t, to-link-at table k v, counted.links)))).are j (omega (arith, counted.movements));
      }

-- ---- `outside_has`
any-all : {A : Type 0} (test : A → Bool) (xs : List A) → list_any test xs ≡ not (list_all (λ x. not (test x)) xs)
any-all test [] = refl
any-all test (x ∷ xs) = go (test x) (any-all test xs)
  where
    go : (b : Bool) → list_any test xs ≡ not (list_all (λ y. not (test y)) xs) → (b || list_any test xs) ≡ not (not b && list_all (λ y. not (test y)) xs)
    go true e = refl
    go false e = e

in-or-not : (a b : Bool) → not (not a && b) ≡ (a || not b)
in-or-not true b = refl
in-or-not false b = refl

-- a link, with its index, that is not in the set and has signal r
abbrev pub is_outside_with : ℕ → ℕ → ℕ × Link → Bool
is_outside_with set r item = not (in_set set item.0) && eqb item.1.signal (suc r)

pub outside-told : (set : ℕ) (links : List Link) (r : ℕ) → list_any (is_outside_with set r) (enumerate_from 0 links) ≡ outside_has set links r
unfolding outside_has ◌or◌
outside-told set links r =
    let n = length links in
    let items = enumerate_from 0 links in
    let none : ℕ × Link = (0, link_by (λ k. 0)) in
    let left-out = λ (item : ℕ × Link). not (is_outside_with set r item) in
    let size : length items ≡ n = length-enumerate_from 0 links in
    let all : take n items ≡ items = take_all n items (omega (arith, size)) in
    any-all (is_outside_with set r) items
    ∙ ap not (rw all at (items-every left-out items none n (omega (arith, size)))
    ∙ every-same n _ _ (λ i l.
    let here : 0 + i ≡ i = omega arith in
    ap left-out (rw here at (get_or-enumerate_from 0 links i none l)) ∙ in-or-not (in_set set i) _))

-- ---- `number_halves`
-- the signals with a link outside the first half are those of the second
pub outside-is : {network : List Line} (tables : NetworkTables) → LinkTable network tables.links.now → (set r : ℕ)
    → outside_has set tables.links.now r ≡ in_second network (in_set set) r
unfolding outside_has in_second
outside-is {network} tables table set r =
    rw table.size (ap not (every-same (link_count network) _ _ (λ i l. ap (λ s. in_set set i or not (eqb s (suc r))) (signal-of-at table i l))))

module _ (set : ℕ) (tables : NetworkTables) {links_post₁ signals_post₁ links_post₂ signals_post₂ : ℕ → Bool → Type 0} {first second : HalfTables}
    (one : HalfTold tables links_post₁ signals_post₁ first) (two : HalfTold tables links_post₂ signals_post₂ second)
    (in-first : (i : ℕ) (b : Bool) → links_post₁ i b → b ≡ in_set set i)
    (stays : (r : ℕ) (b : Bool) → signals_post₁ r b → b ≡ not (outside_has set tables.links.now r))
    (in-second : (i : ℕ) (b : Bool) → links_post₂ i b → b ≡ not (in_set set i))
    (leaves : (r : ℕ) (b : Bool) → signals_post₂ r b → b ≡ outside_has set tables.links.now r) {above : ℕ} where
  pub halves-numbered : HalvesNumbered set tables (record { first = first; second = second; above = above })
  unfolding first_half second_half
  halves-numbered network counted table moves =
      record {
        first = one network counted moves (first_half network (in_set set)) (λ i b l p. in-first i b p) (λ r b l p. stays r b p ∙ ap not (outside-is tables table set r));
        second = two network counted moves (second_half network (in_set set)) (λ i b l p. in-second i b p) (λ r b l p. leaves r b p ∙ outside-is tables table set r);
      }
