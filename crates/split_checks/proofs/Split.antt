-- 40 by the tables is that of the definitions, where the tables are a network's and its halves'.
use Rattle.base_laws.proofs.Kit.{◌≡◌, refl, sym, ap, ap₂, ◌∙◌, Bool, not, ◌&&◌, List, ℕ, zero, suc, ◌-◌, ◌^◌, ◌/◌, ◌<◌, length, dec_lt, div-lt_iff_lt-mul, div-eq_of_lt, arith, lt-ltb, le-ltb, eq-eqb, ne_eqb, leb, ltb, eqb}
use Rattle.base_search.specs.Checks.{Hold}
use Rattle.text_reader.specs.Lines.{Line}
use Rattle.base_laws.specs.Test.{◌and◌, ◌or◌, every}
use Rattle.model.specs.Network.{link_count, movement_count, step_count, past_count, exit_rate, signal_of, waiting_at_start, from_link, to_link, demand}
use Rattle.model.specs.Table.{network_checks}
use Rattle.base_laws.proofs.Tests.{every-same}
use Rattle.network_tables.specs.declared.Counts.{Counts}
use Rattle.network_tables.specs.declared.Link.{Link}
use Rattle.network_tables.specs.declared.Movement.{Movement}
use Rattle.network_tables.specs.Tables.{LinkTable, MovementTable}
use Rattle.network_tables.proofs.Tables.{exit-rate-at, signal-of-at, waiting-at-start-at, from-link-at, to-link-at}
use Rattle.model_split.specs.Numbering.{rank}
use Rattle.model_split.specs.Halves.{Half, crosses, first_half, second_half}
use Rattle.model_split.specs.Call.{in_set, right_kind, can_split}
use Rattle.split_tables.specs.declared.Whole.{Whole}
use Rattle.split_tables.specs.declared.HalfTables.{HalfTables}
use Rattle.split_tables.specs.declared.Halves.{Halves}
use Rattle.split_tables.specs.Whole.{whole_network}
use Rattle.split_tables.specs.Tables.{is_in, HalfNumbered}
use Rattle.split_tables.proofs.Tables.{border-is, half-has-link}
use Rattle.split_tables.proofs.Ends.{from-there, to-there}
use Rattle.split_tables.proofs.Items.{rank-ext}
use Rattle.split_checks.specs.Tables.{none_wait_in, crosses_in, stands_apart_in, right_kind_in, demand_free_in}
use Rattle.split_checks.specs.Network.{step_free, SplitAsked, SplitTold}
use Rattle.split_checks.proofs.Tests.{steps_apart, tests-both, some_is, regrouped, excused, grouped}

-- a number is less than a power of two exactly if nothing of it is left above
nothing_above : (set n : ℕ) → eqb (set / 2 ^ n) 0 ≡ ltb set (2 ^ n)
nothing_above set n = elim (dec_lt set (2 ^ n)) [
  | yes h ↦ eq-eqb (set / 2 ^ n) 0 (div-eq_of_lt h) ∙ sym (lt-ltb set (2 ^ n) h)
  | no h ↦ ne_eqb (set / 2 ^ n) 0 (λ e. h (omega (arith, (div-lt_iff_lt-mul {x = set} {y = 1} (pow_pos n)).0 (omega arith)))) ∙ sym (le-ltb set (2 ^ n) (omega arith))
]
  where
    pow_pos : (n : ℕ) → 0 < 2 ^ n
    pow_pos zero = omega arith
    pow_pos (suc n) = omega (arith, pow_pos n)

module _ {network : List Line} (holds : Hold (network_checks network)) {links : List Link} {movements : List Movement} (link-table : LinkTable network links)
    (movement-table : MovementTable network movements) (set : ℕ) {half : HalfTables} (numbered : HalfNumbered network (first_half network (in_set set)) half) where
  abbrev L : ℕ
  L = link_count network

  abbrev M : ℕ
  M = movement_count network

  abbrev leaves : ℕ → ℕ
  leaves j = from_link network j - 1

  crosses-is : (j : ℕ) → j < M → crosses_in movements half.links j ≡ crosses network (in_set set) j
  unfolding crosses first_half
  crosses-is j l =
      border-is (first_half network (in_set set)) half.links movements numbered.links movement-table j l (from-there network holds j l) (to-there network holds j l)

  -- no other movement from the link that j leaves, and no second border at the link that j enters
  abbrev alone : ℕ → ℕ → Bool
  alone j k = eqb k j or not (eqb (from_link network k) (from_link network j))

  abbrev one : ℕ → ℕ → Bool
  one j k = eqb k j or not (crosses network (in_set set) k and eqb (to_link network k) (to_link network j))

  apart-is : (j k : ℕ) → j < M → k < M → stands_apart_in movements half.links j k ≡ alone j k and one j k
  unfolding stands_apart_in
  apart-is j k l u =
      rw (from-link-at movement-table k u, from-link-at movement-table j l, to-link-at movement-table k u, to-link-at movement-table j l, crosses-is k u)
      (excused (eqb k j) (eqb (from_link network k) (from_link network j)) (crosses network (in_set set) k and eqb (to_link network k) (to_link network j)))

  -- the kind of a border movement but for the demand
  abbrev kind : ℕ → Bool
  kind j = eqb (signal_of network (leaves j)) 0 and eqb (exit_rate network (leaves j)) 0 and (every M (alone j) and every M (one j))

  kind-is : (j : ℕ) → j < M → right_kind_in links movements half.links M j ≡ not (crosses network (in_set set) j) or kind j
  unfolding right_kind_in
  kind-is j l =
      rw (
        crosses-is j l,
        from-link-at movement-table j l,
        signal-of-at link-table (leaves j) (from-there network holds j l),
        exit-rate-at link-table (leaves j) (from-there network holds j l),
        every-same M (stands_apart_in movements half.links j) (λ k. alone j k and one j k) (λ k u. apart-is j k l u),
        tests-both M (alone j) (one j),
      ) refl

  free-is : (n j : ℕ) → j < M → demand_free_in (demand network n) movements half.links j ≡ not (crosses network (in_set set) j) or eqb (demand network n (to_link network j - 1)) 0
  unfolding demand_free_in
  free-is n j l = rw (crosses-is j l, to-link-at movement-table j l) refl

  kinds-are : every M (right_kind_in links movements half.links M) and every (step_count network) (step_free network movements half.links) ≡ every M (λ j. not (crosses network (in_set set) j) or right_kind network (in_set set) j)
  unfolding right_kind
  kinds-are =
      ap₂ ◌and◌ (every-same M _ _ kind-is) (every-same (step_count network) _ _ (λ n u. every-same M _ _ (free-is n)))
      ∙ steps_apart M (step_count network) (crosses network (in_set set)) kind (λ n j. eqb (demand network n (to_link network j - 1)) 0)
      ∙ every-same M _ _
      (λ j l. ap (λ x. not (crosses network (in_set set) j) or x) (sym (regrouped (eqb (signal_of network (leaves j)) 0 and eqb (exit_rate network (leaves j)) 0) (every M (alone j)) (every (step_count network) (λ n. eqb (demand network n (to_link network j - 1)) 0)) (every M (one j)))))

  none-wait : every L (none_wait_in links) ≡ every L (λ i. eqb (waiting_at_start network i) 0)
  none-wait = every-same L _ _ (λ i l. ap (λ x. eqb x 0) (waiting-at-start-at link-table i l))

  -- how many links a half has
  some_in : (h : Half) {tables : HalfTables} → HalfNumbered network h tables → {found : ℕ} → found ≡ rank (is_in tables.links) L → not (eqb found 0) ≡ leb 1 (rank h.has-link L)
  some_in h {tables} t {found} e = some_is found ∙ ap (leb 1) (e ∙ rank-ext L (is_in tables.links) h.has-link (half-has-link t))

  pub can-told : {second : HalfTables} → HalfNumbered network (second_half network (in_set set)) second → {above past : ℕ} → above ≡ set / 2 ^ L → past ≡ past_count network
      → {none : Bool} → none ≡ every L (none_wait_in links) → {own other : ℕ} → own ≡ rank (is_in half.links) L → other ≡ rank (is_in second.links) L
      → {kinds free : Bool} → kinds ≡ every M (right_kind_in links movements half.links M) → free ≡ every (step_count network) (step_free network movements half.links)
      → (eqb above 0 && eqb past 0 && none && not (eqb own 0) && not (eqb other 0) && kinds && free) ≡ ltb set (2 ^ L) and can_split network (in_set set)
  unfolding can_split first_half second_half
  can-told {second} rest a p w f s k d =
      rw (a, p, w, k, d, nothing_above set L, none-wait, some_in (first_half network (in_set set)) numbered f, some_in (second_half network (in_set set)) rest s)
      (grouped _ _ _ _ _ _ _
      ∙ ap
      (λ x. ltb set (2 ^ L)
      and (eqb (past_count network) 0 and every L (λ i. eqb (waiting_at_start network i) 0) and leb 1 (rank (in_set set) L) and leb 1 (rank (λ i. not (in_set set i)) L) and x))
      kinds-are)

-- ---- `can_split`
-- the counts of the tables are those of the network
pub at_count : {n m : ℕ} → n ≡ m → {A : Type 0} (f : ℕ → A) {x : A} → x ≡ f n → x ≡ f m
at_count e f h = h ∙ ap f e

module _ {whole : Whole} (a : SplitAsked whole) (halves : Halves) where
  abbrev counts : Counts
  counts = whole.tables.reading.counts

  abbrev first : List ℕ
  first = halves.first.links

  pub split-told : {none : Bool} → none ≡ every (length whole.tables.links.now) (none_wait_in whole.tables.links.now)
      → {own other : Bool} → own ≡ not (eqb (rank (is_in first) counts.links) 0) → other ≡ not (eqb (rank (is_in halves.second.links) counts.links) 0)
      → {kinds free : Bool} → kinds ≡ every counts.movements (right_kind_in whole.tables.links.now whole.tables.movements.now first counts.movements)
      → free ≡ every (step_count (whole_network whole)) (step_free (whole_network whole) whole.tables.movements.now first)
      → SplitTold (whole_network whole) halves (eqb halves.above 0 && eqb counts.past 0 && none && own && other && kinds && free)
  split-told w f s k d set above by =
      let c = a.steps-asked.counted in
      rw (f, s)
      (can-told a.steps-asked.holds a.link-table a.steps-asked.movement-table set by.first by.second above c.past
      (at_count a.link-table.size (λ n. every n (none_wait_in whole.tables.links.now)) w)
      (at_count c.links (rank (is_in first)) refl) (at_count c.links (rank (is_in halves.second.links)) refl)
      (at_count c.movements (λ n. every n (right_kind_in whole.tables.links.now whole.tables.movements.now first n)) k) d)
