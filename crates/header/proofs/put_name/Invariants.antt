-- `header::put_name` meets its contract. The invariant: the bytes left, put after those that are there, give the whole filled name.
use Rattle.header.proofs.Packing.{NamePut}
use Rattle.header.proofs.put_name.Given as goal

abbrev pub invariant-loop-i : goal.invariant-loop-i
invariant-loop-i l = NamePut l.initial.out l.name l.out l.i
