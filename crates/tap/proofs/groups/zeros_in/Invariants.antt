-- `tap::groups::zeros_in` meets its contract. The invariant: where no zero byte was found in the three bytes after another, the forms up to the place are known.
use Prim.Native.Nat.{◌-◌, ◌≤◌}
use mathlib.Core.Path.{◌≡◌}
use mathlib.Core.Bool.{true}
use Rattle.tap.specs.private.Reader.{Apart}
use Rattle.tap.proofs.groups.zeros_in.Given as goal

abbrev pub invariant-loop-i : goal.invariant-loop-i
invariant-loop-i l = (l.count ≤ l.i - l.start) × (l.apart ≡ true → Apart l.bytes l.start l.i l.count)
