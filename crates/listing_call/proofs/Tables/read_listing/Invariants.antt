use Rattle.std.proofs.Common.{◌-◌, length}
use Rattle.listing_call.proofs.Reading.{Reading}
use Rattle.listing_call.proofs.Tables.read_listing.Given as goal

abbrev pub invariant-loop-at : goal.invariant-loop-at
invariant-loop-at l = Reading l.self.counts l.self.signals.now l.self.times.now l.text l.numbers l.seen l.at l.line

abbrev pub decreases-loop-at : goal.decreases-loop-at
decreases-loop-at l = length l.text - l.at
