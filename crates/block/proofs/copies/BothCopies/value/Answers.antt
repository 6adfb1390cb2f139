-- `block::copies::BothCopies::value` meets its contract: the frame that is read is the byte there.
use Rattle.std.proofs.Common.{◌+◌, ◌*◌, arith}
use Rattle.byte.proofs.ByteLaws.{read_frame-part}
use Rattle.block.proofs.copies.BothCopies.value.Goals as goal

pub returns : goal.returns
returns c =
    rw (c.read_frame.ensures, c.frame.ensures)
    (read_frame-part c.args.self.now.t c.args.self.now.strip.now (c.args.copy + 20 * c.args.j) (omega (arith, c.args.self.now.within)))
