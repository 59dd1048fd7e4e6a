use Rattle.std.proofs.Common.{rules}
use Rattle.split_text.proofs.Border.{border-none, border-ends, border-room, border-next, border-all}
use Rattle.split_text.proofs.add_border.Goals as goal

pub loop-j-init : goal.loop-j-init
loop-j-init g c = border-none c.requires.asked _ _ _

pub add_at-requires : goal.add_at-requires
add_at-requires g c = border-room c.requires.asked _ _ _ c.loop-j-test.true _ c.loop-j.invariant c.end_of-link.ensures

pub is_border-border-requires : goal.is_border-border-requires
is_border-border-requires g c = border-ends c.requires.asked _ _ c.loop-j-test.true

pub loop-j-preserved : goal.loop-j-preserved
loop-j-preserved g c = border-next c.requires.asked _ _ _ c.loop-j-test.true _ c.loop-j.invariant c.end_of-link.ensures c.is_border-border.ensures (search rules) c.number_of.ensures c.add_at.ensures

pub returns : goal.returns
returns g c = border-all c.requires.asked _ _ _ c.loop-j.invariant (search rules)
