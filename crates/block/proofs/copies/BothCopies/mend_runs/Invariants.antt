-- `block::copies::BothCopies::mend_runs` meets its contract. The invariant: the values left, put after those that are there, give the whole, and the
-- places left hold copy one's bits.
use Prim.Native.Nat.{◌-◌, ◌≤◌}
use Rattle.pulse.specs.Pulse.{classes}
use Rattle.block.specs.private.Values.{HoldsBits}
use Rattle.block.proofs.Filling.{ValuesPut}
use Rattle.block.proofs.copies.BothCopies.mend_runs.Given as goal

abbrev pub invariant-loop-i : goal.invariant-loop-i
invariant-loop-i l = (l.i ≤ l.self.n) × ValuesPut (classes l.self.t l.self.strip.now) l.self.one l.self.two l.self.n l.initial.out l.out l.i × HoldsBits l.self.t l.self.strip.now l.self.one l.self.n l.out l.i

abbrev pub decreases-loop-i : goal.decreases-loop-i
decreases-loop-i l = l.self.n - l.i
