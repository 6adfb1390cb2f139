-- `tap::reader::count_each` meets its contract. The invariant: with those counted, the durations from the place on give the whole number.
use Prim.Native.Nat.{◌-◌, ◌≤◌}
use lib.ListN.{length}
use Rattle.tap.specs.private.Reader.{Counted}
use Rattle.tap.proofs.reader.count_each.Given as goal

abbrev pub invariant-loop-i : goal.invariant-loop-i
invariant-loop-i l = (l.fn.start.place ≤ l.i) × Counted l.bytes l.i l.count

abbrev pub decreases-loop-i : goal.decreases-loop-i
decreases-loop-i l = length l.bytes - l.i
