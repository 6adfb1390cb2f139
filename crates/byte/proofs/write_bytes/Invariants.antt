-- `byte::write_bytes` meets its contract. The invariant: the bytes left, put after those that are there, give them all.
use Rattle.byte.proofs.Stores.{BytesPut}
use Rattle.byte.proofs.write_bytes.Given as goal

abbrev pub invariant-loop-i : goal.invariant-loop-i
invariant-loop-i l = BytesPut l.initial.out l.values l.out l.i
