-- `byte::write::Quarters::put_quarter` meets its contract. The invariant: the pulses left of the table's row, put after those that are there, give them all.
use Rattle.lists.proofs.LoopLaws.{Copied}
use Rattle.byte.specs.private.Quarters.{quarter}
use Rattle.byte.proofs.write.Quarters.put_quarter.Given as goal

abbrev pub invariant-loop-i : goal.invariant-loop-i
invariant-loop-i l = Copied l.initial.out l.at (quarter l.n) l.out l.i
