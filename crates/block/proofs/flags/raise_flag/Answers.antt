-- `block::flags::raise_flag` meets its contract: what is stored is the byte with the flag's bit, and past the row's end nothing is.
use Prim.Native.Nat.{◌%◌}
use native.Mathlib.Omega.{arith}
use mathlib.Core.Path.{sym}
use Rattle.block.specs.private.Flags.{raised}
use Rattle.block.proofs.FlagLaws.{weight, raised-past}
use Rattle.block.proofs.flags.raise_flag.Goals as goal

pub returns-then-row-at : goal.returns-then-row-at
returns-then-row-at c = sym (raised-past c.args.row.now c.args.i c.if-row-at.true)

pub returns : goal.returns
unfolding raised
returns c = rw (weight (c.args.i % 8) (omega arith))
