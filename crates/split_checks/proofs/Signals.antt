-- 41 by the tables is that of the definitions.
use Rattle.std.specs.List.{list_all, zip}
use Rattle.std.proofs.lemmas.List.{take_all, get_or_default}
use Rattle.std.proofs.lemmas.Slice.Zip.{get_or-zip, length-zip}
use Rattle.base_laws.proofs.Kit.{◌≡◌, refl, ap, ◌∙◌, Bool, true, false, not, ◌||◌, List, ℕ, ◌-◌, ◌≤◌, ◌<◌, dec_lt, arith, eq-eqb, eqb, get_or, length, take}
use Rattle.base_laws.specs.Test.{◌or◌, every}
use Rattle.model.specs.Network.{max_signals, link_count, signal_of}
use Rattle.base_laws.proofs.Tests.{every-same}
use Rattle.model.proofs.Accepted.{valid-network}
use Rattle.model.proofs.Limits.{link-limits}
use Rattle.network_tables.specs.declared.Link.{Link}
use Rattle.network_tables.specs.Fields.{link_by, signal_in}
use Rattle.network_tables.proofs.Every.{items-every}
use Rattle.network_tables.proofs.Tables.{signal-of-at}
use Rattle.model_split.specs.Halves.{in_second, first_half}
use Rattle.model_split.specs.Call.{in_set, parts_signals}
use Rattle.split_tables.specs.declared.HalfTables.{HalfTables}
use Rattle.split_tables.specs.Tables.{is_in}
use Rattle.split_tables.proofs.Tables.{half-has-link, half-has-signal}
use Rattle.split_checks.specs.Tables.{own_signal_by, own_signal_in}
use Rattle.split_checks.specs.Network.{PartsTold}

-- ---- the links beside their numbers in the half
module _ (links : List Link) (half : HalfTables) (room : length links ≤ length half.links) where
  abbrev numbered : List (Link × ℕ)
  numbered = zip links half.links

  numbered-size : length numbered ≡ length links
  numbered-size = omega (arith, length-zip links half.links)

  numbered-at : (i : ℕ) (none : Link × ℕ) → i < length links → get_or numbered i none ≡ (get_or links i none.0, get_or half.links i none.1)
  numbered-at i none l = get_or-zip links half.links i none l (omega (arith, l, room))

  -- their signals
  pub numbered-signal : ((i : ℕ) → i < length links → signal_in links i ≤ max_signals) → (i : ℕ) (item : Link × ℕ) → i < length numbered → item ≡ get_or numbered i item
      → item.0.signal ≤ max_signals
  numbered-signal asked i item l e =
      let u : i < length links = omega (arith, l, numbered-size) in
      let same : item.0.signal ≡ signal_in links i = ap (λ (x : Link × ℕ). x.0.signal) (e ∙ numbered-at i item u) ∙ ap (λ (x : Link). x.signal) (get_or_default links i item.0 _ u) in
      omega (arith, same, asked i u)

  pub numbered-own : list_all (λ item. own_signal_by half item.1 item.0.signal) numbered ≡ every (length links) (own_signal_in links half)
  numbered-own =
      let own = λ (item : Link × ℕ). own_signal_by half item.1 item.0.signal in
      let none : Link × ℕ = (link_by (λ k. 0), 0) in
      let all : take (length links) numbered ≡ numbered = take_all (length links) numbered (omega (arith, numbered-size)) in
      rw all at (items-every own numbered none (length links) (omega (arith, numbered-size))) ∙ every-same (length links) _ _ (λ i l. ap own (numbered-at i none l))

pub parts-told : (links : List Link) (half : HalfTables) {told : Bool} → told ≡ every (length links) (own_signal_in links half) → PartsTold links half told
unfolding parts_signals
parts-told links half e network holds table set h = e ∙ ap (λ n. every n (own_signal_in links half)) table.size ∙ every-same (link_count network) _ _ own_is
  where
    twice : (b : Bool) → b ≡ not (not b)
    twice true = refl
    twice false = refl

    outside-is : (i : ℕ) → i < link_count network → eqb (get_or half.links i 0) 0 ≡ not (in_set set i)
    outside-is i l = let e : not (eqb (get_or half.links i 0) 0) ≡ in_set set i = unfold is_in first_half in half-has-link h i l in twice (eqb (get_or half.links i 0) 0) ∙ ap not e

    own_is : (i : ℕ) → i < link_count network
        → own_signal_in links half i ≡ (not (in_set set i) or eqb (signal_of network i) 0 or not (in_second network (in_set set) (signal_of network i - 1)))
    own_is i l = elim (dec_lt 0 (signal_of network i)) [
      | yes u ↦ unfold own_signal_by in rw (outside-is i l, signal-of-at table i l, half-has-signal h (signal_of network i - 1) (omega (arith, (link-limits network (valid-network network holds) i l).signal-last))) (unfold first_half in refl)
      | no u ↦ unfold own_signal_by ◌or◌ in rw (outside-is i l, signal-of-at table i l, eq-eqb (signal_of network i) 0 (omega arith)) (go (not (in_set set i)) _ _)
    ]
      where
        go : (b c d : Bool) → (b || true || c) ≡ (b || true || d)
        go true c d = refl
        go false c d = refl
