-- `split_text::tram_kept` meets its contract.
use Rattle.base_laws.proofs.Kit.{refl, eq-eqb, ne_eqb}
use Rattle.split_text.specs.Rows.{tram_kept}
use Rattle.split_text.proofs.tram_kept.Goals as goal

pub returns-then-signal-eq0 : goal.returns-then-signal-eq0
unfolding tram_kept
returns-then-signal-eq0 c = rw (← c.signal_number-signal.ensures, eq-eqb _ 0 c.if-signal-eq0.true) refl

pub returns : goal.returns
unfolding tram_kept
returns c = rw (← c.signal_number-signal.ensures, ne_eqb _ 0 c.if-signal-eq0.false) refl
