-- `tap::groups::no_zeros` meets its contract. The invariant: what is said of the bytes before.
use mathlib.Core.Path.{◌≡◌}
use lib.ListN.{take}
use Rattle.tap.specs.private.Forms.{no_zeros}
use Rattle.tap.proofs.groups.no_zeros.Given as goal

abbrev pub invariant-loop-b : goal.invariant-loop-b
invariant-loop-b l = l.none ≡ no_zeros (take l.b-index l.bytes)
