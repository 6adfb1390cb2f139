-- `tap::reader::fill_durations` meets its contract. The invariant: the durations left, put after those that are there, give them all.
use Prim.Native.Nat.{◌-◌}
use lib.ListN.{length}
use Rattle.tap.specs.private.Reader.{FilledTo}
use Rattle.tap.proofs.reader.fill_durations.Given as goal

abbrev pub invariant-loop-at : goal.invariant-loop-at
invariant-loop-at l = FilledTo l.bytes 0 l.initial.out 0 l.at.place l.out l.at.count

abbrev pub decreases-loop-at : goal.decreases-loop-at
decreases-loop-at l = length l.bytes - l.at.place
