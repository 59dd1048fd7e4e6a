-- The row that the line begins has room for the movements, and with them it is the next row.
use Rattle.step_rows.proofs.Next.{next-base, next-room, next-is}
use Rattle.step_rows.proofs.next_row.Goals as goal

pub base_row-requires : goal.base_row-requires
base_row-requires c = next-base c.requires

pub add_movements-requires : goal.add_movements-requires
add_movements-requires c = next-room c.requires c.base_row.ensures

pub returns : goal.returns
returns c = next-is c.requires c.base_row.ensures c.add_movements.ensures
