-- `tap::reader::fill_each` meets its contract. The invariant: the durations left, put after those that are there, give the same.
use Prim.Native.Nat.{◌-◌, ◌≤◌}
use lib.ListN.{length}
use Rattle.tap.specs.private.Reader.{FilledTo}
use Rattle.tap.proofs.reader.fill_each.Given as goal

abbrev pub invariant-loop-i : goal.invariant-loop-i
invariant-loop-i l = (l.fn.start.place ≤ l.i) × FilledTo l.bytes l.fn.start.place l.initial.out l.fn.start.count l.i l.out l.k

abbrev pub decreases-loop-i : goal.decreases-loop-i
decreases-loop-i l = length l.bytes - l.i
