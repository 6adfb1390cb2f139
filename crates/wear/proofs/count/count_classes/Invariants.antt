-- `wear::count::count_classes` meets its contract. The invariant: what was counted, with the classes of the pulses that are left, is all.
use Rattle.wear.proofs.ClassLaws.{Sorting}
use Rattle.wear.proofs.count.count_classes.Given as goal

abbrev pub invariant-loop-pulse : goal.invariant-loop-pulse
invariant-loop-pulse l = Sorting l.t l.strip l.shorts l.mediums l.longs l.pulse-index
