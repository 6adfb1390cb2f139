-- `tap::reader::count_durations` meets its contract. The invariant: with those counted, the durations from the place on give the whole number.
use Prim.Native.Nat.{◌-◌}
use lib.ListN.{length}
use Rattle.tap.specs.private.Reader.{Counted}
use Rattle.tap.proofs.reader.count_durations.Given as goal

abbrev pub invariant-loop-at : goal.invariant-loop-at
invariant-loop-at l = Counted l.bytes l.at.place l.at.count

abbrev pub decreases-loop-at : goal.decreases-loop-at
decreases-loop-at l = length l.bytes - l.at.place
