-- `block::copies::BothCopies::count_places` meets its contract. The invariant: what is counted before place i, the sum with the values left, and the
-- refusal so far.
use Rattle.pulse.specs.Pulse.{classes}
use Rattle.block.proofs.CauseCounts.{Told}
use Rattle.block.proofs.Counting.{Counting}
use Rattle.block.proofs.copies.BothCopies.count_places.Given as goal

abbrev pub invariant-loop-i : goal.invariant-loop-i
invariant-loop-i l = Counting (classes l.self.t l.self.strip.now) l.self.one l.self.two l.self.n l.sum l.repaired l.lost l.check l.i × Told (classes l.self.t l.self.strip.now) l.self.one l.self.two l.bad l.i
