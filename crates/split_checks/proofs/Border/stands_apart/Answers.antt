-- `split_checks::Border::stands_apart` meets its contract.
use Rattle.std.proofs.Common.{rules}
use Rattle.split_tables.proofs.Numbering.{halves-named}
use Rattle.split_checks.proofs.Tables.{apart-told}
use Rattle.split_checks.proofs.Border.stands_apart.Goals as goal

pub is_border-other-requires : goal.is_border-other-requires
is_border-other-requires c = halves-named c.args.self.now.ends _ c.requires.1

pub returns : goal.returns
returns c = search (apart-told, rules)
