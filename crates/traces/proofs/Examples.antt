-- Worked steps, by computation.
use Rattle.base_laws.proofs.Kit.{ℕ, ◌≡◌, refl, false, List, [], ◌∷◌}
use lib.IntN.{pos}
use lib.Ieee.{Float, nan, inf, binary64, of_int, of_bits, neg, lt, le, add, sub}
use Rattle.base_search.specs.Checks.{refusal, verdict, checked, or_else, Verdict}
use Rattle.base_laws.specs.Indexed.{list}
use Rattle.traces.specs.Step.{nearer, cut_to, line_for, cut_to_lines, target_of, furthest, place_moved_to, leader_of, place_after}
use Rattle.traces.specs.Call.{million, valid_place, valid_distance, valid_counts, valid_values, step_checks, step_vehicles, places_by, places_after}
use Rattle.std.specs.Prelude.{Ok, Err}

-- all that a step's computation unfolds
unfoldable opened : Unit {0}
unfolding nearer cut_to line_for cut_to_lines target_of furthest place_moved_to leader_of place_after list million valid_place valid_distance valid_counts valid_values step_checks step_vehicles places_by places_after verdict checked or_else lt le add sub neg of_int of_bits
opened = tt

abbrev m : ℕ → Float
m n = of_int binary64 (pos n)

-- 0.1, 0.2 and 0.1 + 0.2, rounded once
abbrev tenth : Float
tenth = of_bits binary64 0x3fb9_9999_9999_999a

abbrev fifth : Float
fifth = of_bits binary64 0x3fc9_9999_9999_999a

abbrev tenth_and_fifth : Float
tenth_and_fifth = of_bits binary64 0x3fd3_3333_3333_3334

-- 1 - 0.2, rounded once; 0.1 + (1 - 0.1 - 0.2) is one unit less
abbrev four-fifths : Float
four-fifths = of_bits binary64 0x3fe9_9999_9999_999a

abbrev minus-zero : Float
minus-zero = neg (m 0)

-- the lists that steps give
given : List (List Float)
given =
    places_after (m 10 ∷ m 5 ∷ m 4 ∷ []) (m 3 ∷ m 10 ∷ m 1 ∷ []) (m 12 ∷ m 3 ∷ []) (m 2)
    ∷ places_after (tenth ∷ []) (fifth ∷ []) [] (m 0)
    ∷ places_after (m 7 ∷ m 9 ∷ []) (m 5 ∷ m 5 ∷ []) (m 7 ∷ []) (m 0)
    ∷ places_after (m 1 ∷ tenth ∷ []) (m 0 ∷ m 1 ∷ []) [] fifth
    ∷ places_after (neg (m 5) ∷ []) (m 6 ∷ []) (m 0 ∷ minus-zero ∷ []) (m 0)
    ∷ places_after (neg (m 5) ∷ []) (m 6 ∷ []) (minus-zero ∷ m 0 ∷ []) (m 0)
    ∷ places_after (neg (m 5) ∷ []) (m 5 ∷ []) (minus-zero ∷ []) (m 0)
    ∷ places_after (m 0 ∷ neg (m 5) ∷ []) (m 0 ∷ m 6 ∷ []) (minus-zero ∷ []) (m 0)
    ∷ places_after (minus-zero ∷ neg (m 5) ∷ []) (m 0 ∷ m 6 ∷ []) (m 0 ∷ []) (m 0)
    ∷ places_after (minus-zero ∷ []) (m 1 ∷ []) (m 0 ∷ []) (m 0)
    ∷ places_after (m 1_000_000 ∷ []) (m 1_000_000 ∷ []) [] minus-zero
    ∷ places_after (m 2_000_000 ∷ []) (m 1 ∷ []) [] (m 0)
    ∷ []

steps : given
    ≡ (m 12 ∷ m 8 ∷ m 4 ∷ [])  -- the leader stops at the line at 12, the second behind the leader's last place, and the third is nearer than one spacing
    ∷ (tenth_and_fifth ∷ [])
    ∷ (m 7 ∷ m 9 ∷ [])  -- one at a line stays, and so does one that has passed its leader
    ∷ (m 1 ∷ four-fifths ∷ [])
    ∷ (m 0 ∷ [])  -- of two lines at zero the first listed stays
    ∷ (minus-zero ∷ [])
    ∷ (m 0 ∷ [])  -- a line at the target is not nearer
    ∷ (m 0 ∷ m 0 ∷ [])  -- the leader comes before the lines
    ∷ (minus-zero ∷ minus-zero ∷ [])  -- one that does not move keeps its sign: -0.0 + 0.0 is 0.0, which is not greater
    ∷ (minus-zero ∷ [])  -- a line at 0.0 is at a vehicle at -0.0
    ∷ (m 2_000_000 ∷ [])  -- a place may pass a million metres
    ∷ (m 2_000_000 ∷ [])  -- and is refused in the next step
    ∷ []
unfolding opened given
steps = refl

answered : List Verdict
answered =
    step_vehicles [] [] [] (m 0)
    ∷ step_vehicles [] [] [] (neg (m 1))
    ∷ step_vehicles (m 1_000_000 ∷ []) (minus-zero ∷ []) (neg (m 1_000_000) ∷ []) minus-zero
    ∷ step_vehicles (m 1_000_001 ∷ []) (m 0 ∷ []) [] (m 0)
    ∷ step_vehicles (m 1_000_001 ∷ []) [] [] (m 0)
    ∷ step_vehicles (m 0 ∷ []) (m 0 ∷ []) (nan ∷ []) (m 0)
    ∷ step_vehicles (m 0 ∷ []) (inf false ∷ []) [] (m 0)
    ∷ step_vehicles (m 0 ∷ []) (neg (m 1) ∷ []) [] (m 0)
    ∷ step_vehicles (m 0 ∷ []) (m 0 ∷ m 0 ∷ []) [] (m 0)
    ∷ step_vehicles (list 64 m) (list 64 m) (list 64 m) (m 0)
    ∷ step_vehicles (list 65 m) (list 65 m) [] (m 0)
    ∷ step_vehicles [] [] (list 65 m) (m 0)
    ∷ []

answers : answered
    ≡ Ok tt
    ∷ Err (refusal 38 0 0)
    ∷ (Ok tt)
    ∷ Err (refusal 38 0 0)
    ∷ Err (refusal 39 0 0)
    ∷ Err (refusal 38 0 0)
    ∷ Err (refusal 38 0 0)
    ∷ Err (refusal 38 0 0)
    ∷ Err (refusal 39 0 0)
    ∷ (Ok tt)
    ∷ Err (refusal 39 0 0)
    ∷ Err (refusal 39 0 0)
    ∷ []
unfolding opened answered
answers = refl
