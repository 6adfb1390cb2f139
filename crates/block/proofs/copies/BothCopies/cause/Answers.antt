-- `block::copies::BothCopies::cause` meets its contract: the frame that is read is the byte there.
use Rattle.std.proofs.Common.{◌+◌, ◌*◌}
use Rattle.byte.proofs.CauseLaws.{wrong-there}
use Rattle.block.proofs.copies.BothCopies.cause.Goals as goal

pub returns : goal.returns
returns c = rw (c.first_wrong.ensures, c.frame.ensures) (wrong-there c.args.self.now.t c.args.self.now.strip.now (c.args.copy + 20 * c.args.j))
