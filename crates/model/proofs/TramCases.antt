-- Texts with trams, by computation on the definitions.
use Rattle.base_laws.proofs.Kit.{◌≡◌, refl, List, [], ◌∷◌, map, replicate}
use Prim.Native.String.{String, ◌++◌}
use Rattle.text_reader.specs.Lines.{lines}
use Rattle.model.specs.Calls.{ledger_after}
use Rattle.model.specs.Report.{report}
use Rattle.model.proofs.Opened.{opened}
use Rattle.model.proofs.Texts.{bytes, plan_with}
use Rattle.model.proofs.MoreCases.{idle, idle_report, idle_steps}

-- the corridor with its count of `T` lines, these lines and its `G` line left open
abbrev with_trams : String → String → String
with_trams trams signal =
    "N\t2\t1\t1\t4\t" ++ trams ++ signal ++ "Q\t60000\t10\t0\t1\t1\t0\t0\nQ\t60000\t10\t500\t0\t0\t0\t0\nM\t1\t2\t500\t1000\nS\t10\t5000\t0\n" ++ idle_steps

-- two phases, of which 2 shows, and four, of which 1 shows; both for 10 seconds
abbrev two : String
two = "G\t20\t60\t2\t2\t10\t20\t10\t30\t10\t30\n"

abbrev four : String
four = "G\t40\t120\t4\t1\t10\t10\t10\t30\t10\t30\t10\t30\t10\t30\n"

-- networks that are printed alike of one plan
pub record TramGroup : Type 0 where
  pub networks : List String
  pub plan : String
  pub prints : String

-- two signals and one step
abbrev two_signals : String → String
two_signals text = "N\t1\t2\t0\t1\t1\t0\n" ++ text ++ "Q\t0\t10\t0\t0\t0\t0\t0\nS\t10\t0\n"

abbrev tram_groups : List TramGroup
tram_groups =
    -- ---- 1: a `T` line is missing, has three or five numbers, another letter; form before values
    record {
      networks =
          with_trams "1\t0\n" two ∷ with_trams "1\t0\nT\t9\t9\t9\n" two ∷ with_trams "1\t0\nT\t1\t1\t1\t1\t1\n" two ∷ with_trams "1\t0\nt\t1\t1\t1\t1\n" two
          ∷ with_trams "1\t0\nT\t1\t1\t1\t\n" two ∷ with_trams "0\t0\nT\t1\t1\t1\t1\n" two ∷ [];
      plan = "";
      prints = "R\t1\t2\t0\n";
    }
    ∷ record { networks = with_trams "2\t0\nT\t1\t1\t1\t1\n" two ∷ []; plan = ""; prints = "R\t1\t3\t0\n" }
    -- ---- 28 at once: signal, first step, last step, both, backwards; line 1 before the form of line 2; without signals
    ∷ record {
      networks =
          with_trams "1\t0\nT\t0\t1\t1\t1\n" two ∷ with_trams "1\t0\nT\t2\t1\t1\t1\n" two ∷ with_trams "1\t0\nT\t1\t1\t0\t1\n" two ∷ with_trams "1\t0\nT\t1\t1\t1\t5\n" two
          ∷ with_trams "1\t0\nT\t1\t1\t5\t5\n" two ∷ with_trams "1\t0\nT\t1\t1\t3\t2\n" two ∷ with_trams "2\t0\nT\t2\t1\t1\t1\nx\n" two
          ∷ "N\t1\t0\t0\t1\t1\t0\nT\t1\t1\t1\t1\nQ\t0\t10\t0\t0\t0\t0\t0\nS\t10\t0\n" ∷ [];
      plan = "";
      prints = "R\t28\t2\t0\n";
    }
    -- a step in common with an earlier line of the signal, whatever the phases; touching steps pass
    ∷ record {
      networks = with_trams "2\t0\nT\t1\t1\t1\t2\nT\t1\t1\t2\t3\n" two ∷ with_trams "2\t0\nT\t1\t1\t2\t3\nT\t1\t2\t1\t4\n" two ∷ [];
      plan = "";
      prints = "R\t28\t3\t0\n";
    }
    ∷ record { networks = with_trams "3\t0\nT\t1\t1\t1\t1\nT\t1\t1\t3\t3\nT\t1\t2\t1\t1\n" two ∷ []; plan = ""; prints = "R\t28\t4\t0\n" }
    ∷ record {
      networks = with_trams "2\t0\nT\t1\t1\t1\t2\nT\t1\t2\t3\t4\n" two ∷ with_trams "2\t0\nT\t1\t2\t3\t4\nT\t1\t1\t1\t2\n" two ∷ [];
      plan = idle "1" "1" "2" "2";
      prints = idle_report;
    }
    -- ---- 28 of the phase: after 1 and 3 of every `G` line, before the first `Q` line; the first of several
    ∷ record {
      networks = with_trams "1\t0\nT\t1\t0\t1\t1\n" two ∷ with_trams "1\t0\nT\t1\t3\t1\t1\n" two ∷ with_trams "2\t0\nT\t1\t5\t1\t1\nT\t1\t5\t2\t2\n" four
          ∷ with_trams "1\t0\nT\t1\t3\t1\t1\n" (two ++ "Q\n") ∷ [];
      plan = "";
      prints = "R\t28\t2\t0\n";
    }
    ∷ record { networks = with_trams "2\t0\nT\t1\t2\t1\t1\nT\t1\t3\t2\t2\n" two ∷ []; plan = ""; prints = "R\t28\t3\t0\n" }
    ∷ record { networks = with_trams "1\t0\nT\t1\t3\t1\t1\n" "x\n" ∷ []; plan = ""; prints = "R\t1\t3\t0\n" }
    ∷ record { networks = with_trams "1\t0\nT\t1\t3\t1\t1\n" "G\t20\t60\t2\t3\t10\t20\t10\t30\t10\t30\n" ∷ []; plan = ""; prints = "R\t3\t3\t1\n" }
    -- ---- 29: the tram's phase is not shown; 10 before it, and 29 of signal 2 before 11 of signal 1
    ∷ record { networks = with_trams "1\t0\nT\t1\t1\t2\t2\n" two ∷ with_trams "1\t0\nT\t1\t1\t1\t4\n" two ∷ []; plan = idle "1" "2" "1" "1"; prints = "R\t29\t2\t1\n" }
    -- an empty plan keeps the phase of the `G` line, 2, whatever a tram asks
    ∷ record { networks = with_trams "1\t0\nT\t1\t1\t2\t2\n" two ∷ []; plan = ""; prints = "R\t29\t2\t1\n" }
    ∷ record { networks = with_trams "1\t0\nT\t1\t1\t2\t2\n" two ∷ []; plan = idle "1" "3" "1" "2"; prints = "R\t10\t2\t1\n" }
    ∷ record {
      networks = two_signals "T\t2\t1\t1\t1\nG\t20\t60\t3\t1\t10\t10\t10\t30\t10\t30\t10\t30\nG\t20\t60\t2\t2\t10\t20\t10\t30\t10\t30\n" ∷ [];
      plan = "P\t4\t2\t0\t0\n";
      prints = "R\t29\t1\t2\n";
    }
    -- the other signal's rules are tested: both are above their greatest cycle
    ∷ record {
      networks = two_signals "T\t1\t2\t1\t1\nG\t20\t20\t2\t2\t10\t20\t10\t30\t10\t30\nG\t20\t20\t2\t2\t10\t20\t10\t30\t10\t30\n" ∷ [];
      plan = "P\t2\t2\t0\t0\n";
      prints = "R\t14\t1\t2\n";
    }
    -- ---- run and clock stand still: phase 1 shows for 30 ordinary seconds in a greatest cycle of 30; would print R 13 4 1 and R 14 4 1
    ∷ record { networks = with_trams "1\t0\nT\t1\t1\t4\t4\n" two ∷ []; plan = idle "1" "1" "1" "1"; prints = idle_report }
    ∷ record { networks = with_trams "1\t0\nT\t1\t2\t2\t2\n" "G\t20\t30\t2\t2\t10\t20\t10\t30\t10\t30\n" ∷ []; plan = idle "1" "2" "1" "1"; prints = idle_report }
    -- a tram that shows the running phase adds nothing to its least time; would print the report of
    -- an idle plan
    ∷ record { networks = with_trams "1\t0\nT\t1\t1\t1\t1\n" "G\t40\t120\t4\t1\t10\t10\t20\t30\t10\t30\t10\t30\t10\t30\n" ∷ []; plan = idle "1" "2" "2" "2"; prints = "R\t12\t2\t1\n" }
    -- ---- the step before is the last ordinary one: after a tram's phase 3 the signal goes on with 1 or 2, not with 3 or 4
    ∷ record { networks = with_trams "1\t0\nT\t1\t3\t1\t1\n" four ∷ []; plan = idle "4" "1" "1" "2"; prints = idle_report }
    ∷ record { networks = with_trams "1\t0\nT\t1\t3\t1\t1\n" four ∷ []; plan = idle "4" "2" "2" "2"; prints = idle_report }
    ∷ record { networks = with_trams "1\t0\nT\t1\t3\t1\t1\n" four ∷ []; plan = idle "4" "4" "1" "1"; prints = "R\t11\t2\t1\n" }
    ∷ record { networks = with_trams "1\t0\nT\t1\t3\t1\t1\n" four ∷ []; plan = idle "4" "8" "1" "1"; prints = "R\t11\t2\t1\n" }
    -- ---- volumes: a link is shut by the tram's phase, and every limit holds
    ∷ record { networks = with_trams "1\t0\nT\t1\t2\t2\t2\n" two ∷ []; plan = plan_with "1" "2" "2" "0" "3000"; prints = "R\t27\t2\t1\n" }
    ∷ record { networks = with_trams "1\t0\nT\t1\t1\t2\t2\n" two ∷ []; plan = plan_with "1" "1" "2" "0" "5001"; prints = "R\t26\t2\t1\n" }
    ∷ []

pub tram-cases : map (λ (g : TramGroup). map (λ (network : String). report (bytes network) (bytes g.plan)) g.networks) tram_groups
    ≡ map (λ (g : TramGroup). map (λ (network : String). bytes g.prints) g.networks) tram_groups
unfolding opened
tram-cases = refl

-- 28 is a network's refusal: no row is written, whatever its number and its line
pub nothing_written : ledger_after (lines (bytes (with_trams "1\t0\nT\t1\t3\t1\t1\n" two))) (lines (bytes (idle "1" "1" "1" "2"))) (replicate 22 7) ≡ replicate 22 7
unfolding opened
nothing_written = refl
