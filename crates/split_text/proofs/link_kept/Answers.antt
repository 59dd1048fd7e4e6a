-- `split_text::link_kept` meets its contract.
use Rattle.base_laws.proofs.Kit.{refl, eq-eqb, ne_eqb}
use Rattle.split_text.specs.Rows.{link_kept}
use Rattle.split_text.proofs.link_kept.Goals as goal

pub returns-then-half-i-eq0 : goal.returns-then-half-i-eq0
unfolding link_kept
returns-then-half-i-eq0 c = rw (eq-eqb _ 0 c.if-half-i-eq0.true) refl

pub returns : goal.returns
unfolding link_kept
returns c = rw (ne_eqb _ 0 c.if-half-i-eq0.false, ← c.raised.ensures, ← c.signal_number.ensures) refl
