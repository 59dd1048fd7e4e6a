-- The past of a network that has passed.
use Rattle.base_laws.proofs.Kit.{ℕ, ◌+◌, ◌≤◌, ◌<◌, ◌≡◌, sym, ap, List, [], arith}
use Rattle.base_search.specs.Checks.{Hold}
use Rattle.text_reader.specs.Lines.{Line}
use Rattle.model.specs.Network.{link_count, past_count, on_timeline}
use Rattle.model.specs.Flows.{timeline_entered, timeline_left, entered, left}
use Rattle.model.specs.Table.{past_checks, network_checks}
use Rattle.model.proofs.Bounds.{entered-word}
use Rattle.model.proofs.Timeline.{timeline-entered-more}
use Rattle.step_past.specs.Curves.{past_entered, past_left, PastForms}

-- it has the form of an `H` line at each past step
pub past-form : (network : List Line) → Hold (network_checks network) → PastForms network
unfolding Hold network_checks past_checks
past-form network (counts, (trams, (signals, (phases, (links, (movements, (shares, (past, rest)))))))) m l = past m l

-- what had entered a link when the past ended
pub entered-at-start : (network plan : List Line) (i : ℕ) → entered network plan 0 i ≡ timeline_entered network plan (past_count network) i
unfolding entered on_timeline
entered-at-start network plan i = let z : past_count network + 0 ≡ past_count network = omega arith in ap (λ m. timeline_entered network plan m i) z

-- the volumes of the past fit 32 bits
pub past_fits : (network : List Line) → Hold (network_checks network) → (i : ℕ) → i < link_count network → (m : ℕ) → m ≤ past_count network → past_entered network m i < 4294967296
past_fits network holds i l m h =
    omega (arith, timeline-entered-more network [] m (past_count network) i h, entered-at-start network [] i, entered-word network [] holds 0 (omega arith) (λ k u. absurd (omega arith)) i l)

-- what had left a link when the past ended
pub left-at-start : (network : List Line) (i : ℕ) → past_left network (past_count network) i ≡ left network [] 0 i
unfolding left on_timeline
left-at-start network i = let z : past_count network + 0 ≡ past_count network = omega arith in ap (λ m. timeline_left network [] m i) (sym z)
