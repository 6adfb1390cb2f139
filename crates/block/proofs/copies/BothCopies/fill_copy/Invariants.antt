-- `block::copies::BothCopies::fill_copy` meets its contract. The invariant: the values left, put after those that are there, give the whole.
use Rattle.lists.specs.Places.{tabulate}
use Rattle.lists.proofs.LoopLaws.{Putting, table_left}
use Rattle.block.specs.private.Values.{bits_of}
use Rattle.block.proofs.copies.BothCopies.fill_copy.Given as goal

abbrev pub invariant-loop-i : goal.invariant-loop-i
invariant-loop-i l =
    Putting l.initial.out 0 (tabulate (bits_of l.self.t l.self.strip.now l.copy) l.self.n 0) l.out l.i (table_left (bits_of l.self.t l.self.strip.now l.copy) l.self.n l.i)
