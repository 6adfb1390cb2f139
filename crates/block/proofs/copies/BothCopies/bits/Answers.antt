-- `block::copies::BothCopies::bits` meets its contract. The invariant: the value is the number with the bits so far.
use Rattle.std.proofs.Common.{◌+◌, ◌*◌, arith}
use lib.ListN.{get_or}
use Rattle.lists.proofs.BoolLaws.{le-cmp}
use Rattle.block.proofs.ValueLaws.{bits-begun, bits-next, bits-done}
use Rattle.block.proofs.copies.BothCopies.bits.Goals as goal

pub loop-bit-init : goal.loop-bit-init
loop-bit-init c = bits-begun c.args.self.now.t c.args.self.now.strip.now (c.args.copy + 20 * (9 + c.args.i))

pub loop-bit-preserved : goal.loop-bit-preserved
loop-bit-preserved c =
    rw (c.from.ensures, c.le.ensures, le-cmp c.args.self.now.t.medium.0 (get_or c.args.self.now.strip.now (c.args.copy + 20 * (9 + c.args.i) + 2 * (1 + c.loop-bit.bit)) 0))
    (bits-next c.args.self.now.t c.args.self.now.strip.now (c.args.copy + 20 * (9 + c.args.i)) (omega arith) c.loop-bit.invariant)

pub returns : goal.returns
returns c =
    bits-done c.args.self.now.t c.args.self.now.strip.now (c.args.copy + 20 * (9 + c.args.i)) (omega arith) c.loop-bit.invariant
