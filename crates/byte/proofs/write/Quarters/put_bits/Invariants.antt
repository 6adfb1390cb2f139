-- `byte::write::Quarters::put_bits` meets its contract. The invariant: the bits of what is left of the byte, put after those that are there, give all eight.
use Rattle.byte.proofs.QuarterLaws.{BitsPut}
use Rattle.byte.proofs.write.Quarters.put_bits.Given as goal

abbrev pub invariant-loop-i : goal.invariant-loop-i
invariant-loop-i l = BitsPut l.initial.out l.at l.b l.out l.rest l.i
