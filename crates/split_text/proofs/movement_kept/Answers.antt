-- `split_text::movement_kept` meets its contract.
use Rattle.base_laws.proofs.Kit.{refl, eq-eqb, ne_eqb}
use Rattle.split_text.specs.Rows.{movement_kept}
use Rattle.split_text.proofs.movement_kept.Goals as goal

pub returns-then-half-j-eq0 : goal.returns-then-half-j-eq0
unfolding movement_kept
returns-then-half-j-eq0 c = rw (eq-eqb _ 0 c.if-half-j-eq0.true) refl

pub returns : goal.returns
unfolding movement_kept
returns c = rw (ne_eqb _ 0 c.if-half-j-eq0.false) refl
