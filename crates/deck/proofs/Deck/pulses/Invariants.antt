use Rattle.deck.proofs.Going.{Running}
use Prim.Native.Nat.{◌-◌}
use lib.ListN.{length}
use Rattle.deck.proofs.Deck.pulses.Given as goal

abbrev pub invariant-loop-i : goal.invariant-loop-i
invariant-loop-i l = Running l.pulses l.initial.self l.initial.work l.initial.out l.self l.work l.out l.i

abbrev pub decreases-loop-i : goal.decreases-loop-i
decreases-loop-i l = length l.pulses - l.i
