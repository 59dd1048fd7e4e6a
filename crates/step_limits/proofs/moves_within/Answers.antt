-- A volume of 0 keeps both; another by its rate, and then by the link that it leaves.
use Rattle.base_laws.proofs.Kit.{◌∙◌, eq-eqb}
use Rattle.step_limits.proofs.Turns.{still-keeps, moving-keeps, too_many}
use Rattle.step_limits.proofs.moves_within.Goals as goal

pub returns-then-volume-eq0 : goal.returns-then-volume-eq0
returns-then-volume-eq0 c = eq-eqb _ _ c.if-volume-eq0.true ∙ still-keeps _ _ c.moved-volume.ensures c.if-volume-eq0.true

pub returns-then-within_rate : goal.returns-then-within_rate
returns-then-within_rate c =
    moving-keeps _ _ c.moved-volume.ensures c.if-volume-eq0.false c.within_rate.ensures c.if-within_rate.true c.from_link.result c.from_link.ensures.0 c.is_open.ensures

pub returns-else-within_rate : goal.returns-else-within_rate
returns-else-within_rate c = c.if-within_rate.false ∙ too_many _ _ c.moved-volume.ensures c.within_rate.ensures c.if-within_rate.false
