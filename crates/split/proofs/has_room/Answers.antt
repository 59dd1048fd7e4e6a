-- `split::has_room` meets its contract.
use Rattle.std.proofs.Common.{rules}
use Rattle.split.proofs.Writing.{room-is}
use Rattle.split.proofs.has_room.Goals as goal

pub returns : goal.returns
returns c = search (room-is, rules)
