-- `wear::count::count_places` meets its contract. The invariant: what was counted, with the places of the walk that is left, is all.
use Prim.Native.Nat.{◌-◌}
use lib.ListN.{length}
use Rattle.pulse.specs.Pulse.{fixed, classes}
use Rattle.wear.proofs.Walking.{Walking}
use Rattle.wear.proofs.count.count_places.Given as goal

abbrev pub invariant-loop-b : goal.invariant-loop-b
invariant-loop-b l = Walking (classes fixed l.strip) l.sum l.at

abbrev pub decreases-loop-b : goal.decreases-loop-b
decreases-loop-b l = length l.strip - l.at.from
