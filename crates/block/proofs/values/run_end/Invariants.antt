-- `block::values::run_end` meets its contract. The invariant: the groups before the next have the flag of the first.
use Prim.Native.Nat.{◌*◌}
use Rattle.block.specs.private.Checks.{SameFlags}
use Rattle.block.proofs.values.run_end.Given as goal

abbrev pub invariant-loop-group : goal.invariant-loop-group
invariant-loop-group l = SameFlags l.row l.i (16 * l.group)
