-- 30 after all lines.
use Rattle.base_laws.proofs.Kit.{ℕ, ◌+◌, ◌*◌, ◌≤◌, ◌<◌, ◌≡◌, refl, sym, ap, ◌∙◌, Bool, true, false, List, [], arith, leb-true}
use Rattle.text_reader.specs.Lines.{Line, lines}
use Rattle.base_laws.specs.Sum.{sum}
use Rattle.base_laws.specs.Test.{◌and◌, every}
use Rattle.model.specs.Network.{link_count, past_count, step_count, on_timeline, timeline_length, past_entries}
use Rattle.model.specs.Flows.{timeline_entered, timeline_left, entered, left, has_arrived, offered}
use Rattle.model.specs.Rules.{valid_past_of, valid_past}
use Rattle.base_laws.proofs.Tests.{and_left, and_right, every-at, every-same}
use Rattle.model.proofs.Timeline.{entered-start}
use Rattle.model.proofs.Times.{arrival-step-le}
use Rattle.model.proofs.Flow.{arrived-entered}
use Rattle.network_tables.specs.declared.NetworkTables.{NetworkTables}
use Rattle.network_tables.specs.declared.Reading.{Reading}
use Rattle.network_tables.specs.Tables.{TimeTable}
use Rattle.network_tables.proofs.Tables.{travel-time-at}
use Rattle.step_arrivals.specs.Arrivals.{Rising}
use Rattle.step_arrivals.specs.Timed.{valid_lengths, TimedTo}
use Rattle.step_arrivals.proofs.Arrivals.{cursor-at}
use Rattle.step_arrivals.proofs.Timed.{timed-table, timed-rise}
use Rattle.step_past.specs.declared.Arrival.{Arrival}
use Rattle.step_past.specs.Curves.{past_entered, past_left, PastAsked, PastOverflows, PastLoaded}
use Rattle.network_past.specs.Past.{valid_past_in, valid_links_in, LinksAsked, EndAsked, PastHeld}
use Rattle.network_past.proofs.Links.{valid-is}
use Rattle.std.specs.Prelude.{Option, Some, None, is_some}

-- ---- whether row 0 fits
none-of : (fit : Option (Unit {0})) → is_some fit ≡ false → fit ≡ None
none-of None e = refl
none-of (Some tt) e = let z : ◌≡◌ {A = ℕ} 0 1 = cc in absurd (omega arith)

some-of : (fit : Option (Unit {0})) → is_some fit ≡ true → fit ≡ Some tt
some-of None e = let z : ◌≡◌ {A = ℕ} 0 1 = cc in absurd (omega arith)
some-of (Some tt) e = refl

-- ---- 30
module _ {tables : NetworkTables} {demands row₀ : List ℕ} {arrivals₀ : List Arrival} (asked : EndAsked tables demands row₀ arrivals₀) where
  abbrev net : List Line
  net = lines tables.text.now

  abbrev reading : Reading
  reading = tables.reading

  abbrev times : List ℕ
  times = tables.times.now

  past_is : valid_past net ≡ reading.timed and every (link_count net) (valid_past_of net)
  unfolding valid_past valid_lengths
  past_is = ap (λ b. b and every (link_count net) (valid_past_of net)) (sym asked.told)

  -- a length, or the number of steps, is bad
  pub untimed : reading.timed ≡ false → valid_past net ≡ false
  untimed b = past_is ∙ rw b (unfold ◌and◌ in refl)

  module _ (is-timed : reading.timed ≡ true) where
    all-timed : TimedTo net true (past_count net + step_count net) times
    all-timed = rw is-timed at asked.timed-all

    together : on_timeline net (step_count net) ≡ past_count net + step_count net
    together = unfold on_timeline in refl

    time-table : TimeTable net times
    time-table = timed-table all-timed (omega (arith, together))

    rising : Rising times (past_count net + step_count net)
    rising = timed-rise all-timed (all-timed.few refl)

    some : 1 ≤ step_count net
    some = omega (arith, asked.counted.some-steps, asked.counted.steps)

    first : 1 ≤ timeline_length net 0
    first = all-timed.lasts refl 0 (omega (arith, some))

    start : on_timeline net 0 ≡ past_count net
    unfolding on_timeline
    start = omega arith

    entered-end : (i : ℕ) → entered net [] 0 i ≡ past_entered net (past_count net) i
    unfolding entered
    entered-end i = ap (λ m. timeline_entered net [] m i) start

    left_end : (i : ℕ) → left net [] 0 i ≡ past_left net (past_count net) i
    unfolding left
    left_end i = ap (λ m. timeline_left net [] m i) start

    rising-to : (m : ℕ) → m ≤ past_count net + step_count net → Rising times m
    rising-to m h =
        record {
          room = omega (arith, rising.room);
          rises = λ k l. rising.rises k (omega arith);
          small = λ k l. rising.small k (omega arith);
        }

    pub past-asked : PastAsked tables row₀ arrivals₀
    past-asked =
        record {
          counted = asked.counted;
          starts = asked.past-start;
          forms = asked.forms;
          link-table = asked.link-table;
          time-table = time-table;
          cursors = λ i l. let l' : i < link_count net = omega (arith, asked.counted.links) in
              cursor-at rising (omega (arith, asked.counted.past)) (omega (arith, some)) (omega (arith, travel-time-at asked.link-table i l', (asked.limits i l').1.1)) (omega arith);
          row_room = omega (arith, asked.counted.few.links, asked.row-room);
          size = asked.arrival-room;
        }

    module _ {row : List ℕ} {arrivals : List Arrival} {fit : Option (Unit {0})} (loaded : PastLoaded tables row₀ fit row arrivals) where
      -- a number of row 0 is too large: then so is what entered, or more left than entered
      broken : PastOverflows net → every (link_count net) (valid_past_of net) ≡ true → ⊥
      unfolding valid_past_of
      broken o e =
          let i = o.link in
          let v : valid_past_of net i ≡ true = every-at (link_count net) (valid_past_of net) e i o.below in
          let few : sum (past_count net) (λ m. past_entries net m i) + offered net (step_count net) i ≤ 72_000_000 + 13_800_000 * past_count net = leb-true _ _ (and_right _ _ v) in
          let arrived : has_arrived net [] (left net [] 0 i) 0 i ≡ true = and_left _ _ (and_left _ _ v) in
          let lim = asked.limits i o.below in
          let small : past_entered net (past_count net) i < 4294967296 = omega (arith, entered-end i, entered-start net [] i, few, lim.0, lim.1.0, all-timed.few refl) in
          o.over small (omega (arith, left_end i, entered-end i, arrived-entered net [] (λ m h. all-timed.lasts refl m (omega (arith, together))) some 0 i (omega arith) lim.1.1 (left net [] 0 i) arrived))

      pub overflow : is_some fit ≡ false → valid_past net ≡ false
      unfolding ◌and◌
      overflow n = past_is ∙ by reading.timed (every (link_count net) (valid_past_of net)) refl
        where
          by : (s t : Bool) → every (link_count net) (valid_past_of net) ≡ t → s and t ≡ false
          by s true e = absurd (broken (loaded.overflows (none-of fit n)) e)
          by true false e = refl
          by false false e = refl

      module _ (n : is_some fit ≡ true) where
        pub past-held : PastHeld tables.text.now row arrivals
        past-held =
            record {
              row-size = loaded.size ∙ asked.row-room;
              row-held = loaded.row-held (some-of fit n);
              arrivals-at = loaded.arrivals-at;
              curves-at = loaded.curves-at (some-of fit n);
            }

        pub links-asked : LinksAsked tables demands row arrivals
        links-asked =
            record {
              demand-size = asked.demand-size;
              row-room = loaded.size ∙ asked.row-room;
              arrival-size = loaded.arrivals-at.size;
              rising = rising-to (reading.counts.past + 1) (omega (arith, asked.counted.past, some));
              early = λ i l. let l' : i < link_count net = omega (arith, asked.counted.links) in
                  omega (arith, loaded.arrivals-at.holds i l', arrival-step-le net 0 i, start, asked.counted.past);
            }

        pub past-valid : valid_links_in tables demands row arrivals reading.counts.links ≡ valid_past net
        unfolding valid_links_in ◌and◌
        past-valid =
            ap (λ n. every n (valid_past_in tables demands row arrivals)) asked.counted.links
            ∙ every-same (link_count net) _ _
            (λ i l. valid-is tables asked.counted demands asked.link-table time-table first past-held.row-held past-held.arrivals-at past-held.curves-at asked.demanded i l)
            ∙ sym (past_is ∙ rw is-timed refl)
