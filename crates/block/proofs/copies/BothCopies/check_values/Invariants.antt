-- `block::copies::BothCopies::check_values` meets its contract. The invariant: no place so far is lost, the sum so far, XORed with the values left,
-- is that of all, and the count and the flags are those of the places so far.
use Rattle.pulse.specs.Pulse.{classes}
use Rattle.block.proofs.Checking.{Checking}
use Rattle.block.proofs.copies.BothCopies.check_values.Given as goal

abbrev pub invariant-loop-i : goal.invariant-loop-i
invariant-loop-i l = Checking (classes l.self.t l.self.strip.now) l.self.one l.self.two l.self.n l.initial.row l.row l.sum l.repaired l.i
