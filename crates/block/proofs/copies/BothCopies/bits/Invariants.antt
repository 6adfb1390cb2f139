-- `block::copies::BothCopies::bits` meets its contract. The invariant: the value is the number with the bits so far.
use Rattle.block.proofs.ValueLaws.{BitsRead}
use Rattle.block.proofs.copies.BothCopies.bits.Given as goal

abbrev pub invariant-loop-bit : goal.invariant-loop-bit
invariant-loop-bit l = BitsRead l.self.t l.self.strip.now l.at l.value l.bit
