-- `pulse::cycles_of` meets its contract: the product, where it fits 32 bits.
use Prim.Native.Nat.{◌*◌, ◌^◌}
use native.Mathlib.Omega.{arith}
use mathlib.Core.Path.{refl}
use borrow.Author.Tests.{lt-ltb, le-ltb}
use Rattle.pulse.specs.Units.{cycles_of}
use Rattle.pulse.proofs.cycles_of.Goals as goal

pub returns-in_err-cycles : goal.returns-in_err-cycles
unfolding cycles_of
returns-in_err-cycles c = rw (c.from_residual.ensures, le-ltb (c.args.u.0 * 8) (2 ^ 32) (omega (arith, c.in_err-cycles.ensures))) refl

pub returns : goal.returns
unfolding cycles_of
returns c = rw (lt-ltb (c.args.u.0 * 8) (2 ^ 32) (omega (arith, c.in_ok-cycles.ensures)), c.in_ok-cycles.ensures.1) refl
