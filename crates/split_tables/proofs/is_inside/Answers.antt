-- `split_tables::is_inside` meets its contract.
use Rattle.base_laws.proofs.Kit.{refl, eq-eqb, ne_eqb}
use Rattle.base_laws.specs.Test.{◌and◌}
use Rattle.split_tables.specs.Tables.{is_in, is_inside}
use Rattle.split_tables.proofs.is_inside.Goals as goal

pub returns-then-numbers-from-ne0 : goal.returns-then-numbers-from-ne0
unfolding is_inside is_in ◌and◌
returns-then-numbers-from-ne0 c = rw (ne_eqb _ 0 c.if-numbers-from-ne0.true) refl

pub returns-else-numbers-from-ne0 : goal.returns-else-numbers-from-ne0
unfolding is_inside is_in ◌and◌
returns-else-numbers-from-ne0 c = rw (eq-eqb _ 0 c.if-numbers-from-ne0.false) refl
