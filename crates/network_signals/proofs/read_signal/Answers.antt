-- `network_signals::read_signal` meets its contract.
use Rattle.std.proofs.Common.{refl, ap, rules}
use Rattle.model.specs.declared.Signal.{Signal}
use Rattle.network_signals.proofs.Lines.{stop-head, stop-phases, few-valid, whole-fits, whole-long, stop-form, few-phases, stop-values, pass-line}
use Rattle.network_signals.proofs.read_signal.Goals as goal

pub returns-then-not-read_head : goal.returns-then-not-read_head
returns-then-not-read_head c = search (stop-head, rules)

pub returns-then-not-valid_phases : goal.returns-then-not-valid_phases
returns-then-not-valid_phases c =
    let phases = ap (λ (s : Signal). s.phases) c.from-head.ensures in
    stop-phases c.requires refl c.read_head.ensures c.signal_line-line.ensures c.if-not-read_head.false phases c.valid_phases.ensures c.if-not-valid_phases.true
    c.refusal-then-not-valid_phases.ensures

pub width-width-requires : goal.width-width-requires
width-width-requires c =
    let phases = ap (λ (s : Signal). s.phases) c.from-head.ensures in
    few-valid c.requires refl c.read_head.ensures c.signal_line-line.ensures c.if-not-read_head.false phases c.valid_phases.ensures c.if-not-valid_phases.false

pub slice_bounds-fields-end-2 : goal.slice_bounds-fields-end-2
slice_bounds-fields-end-2 c =
    let phases = ap (λ (s : Signal). s.phases) c.from-head.ensures in
    whole-fits c.requires refl c.read_head.ensures c.signal_line-line.ensures c.if-not-read_head.false phases c.valid_phases.ensures c.if-not-valid_phases.false c.width-width.ensures

pub slice_bounds-read_row-end : goal.slice_bounds-read_row-end
slice_bounds-read_row-end c =
    let phases = ap (λ (s : Signal). s.phases) c.from-head.ensures in
    whole-long c.requires refl c.read_head.ensures c.signal_line-line.ensures c.if-not-read_head.false phases c.valid_phases.ensures c.if-not-valid_phases.false c.width-width.ensures

pub returns-in_default : goal.returns-in_default
returns-in_default c =
    let phases = ap (λ (s : Signal). s.phases) c.from-head.ensures in
    stop-form c.requires refl c.read_head.ensures c.signal_line-line.ensures c.if-not-read_head.false phases c.valid_phases.ensures c.if-not-valid_phases.false c.width-width.ensures
    c.read_row.ensures (search rules) c.refusal-in_default.ensures

pub valid_signal-requires : goal.valid_signal-requires
valid_signal-requires c =
    let phases = ap (λ (s : Signal). s.phases) c.from-head.ensures in
    few-phases c.requires refl c.read_head.ensures c.signal_line-line.ensures c.if-not-read_head.false phases c.valid_phases.ensures c.if-not-valid_phases.false c.width-width.ensures
    c.read_row.ensures c.in-Some.is c.from-signal.ensures

pub returns-then-not-valid_signal : goal.returns-then-not-valid_signal
returns-then-not-valid_signal c =
    let phases = ap (λ (s : Signal). s.phases) c.from-head.ensures in
    stop-values c.requires refl c.read_head.ensures c.signal_line-line.ensures c.if-not-read_head.false phases c.valid_phases.ensures c.if-not-valid_phases.false c.width-width.ensures
    c.read_row.ensures c.in-Some.is c.from-signal.ensures c.valid_signal.ensures c.if-not-valid_signal.true c.refusal-then-not-valid_signal.ensures

pub returns : goal.returns
returns c =
    let phases = ap (λ (s : Signal). s.phases) c.from-head.ensures in
    pass-line c.requires refl c.read_head.ensures c.signal_line-line.ensures c.if-not-read_head.false phases c.valid_phases.ensures c.if-not-valid_phases.false c.width-width.ensures
    c.read_row.ensures c.in-Some.is c.from-signal.ensures c.valid_signal.ensures c.if-not-valid_signal.false c.moved_to.ensures
