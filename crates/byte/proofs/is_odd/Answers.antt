-- `byte::is_odd` meets its contract: oddness is a remainder of 1.
use Rattle.byte.proofs.Parity.{odd-mod}
use Rattle.byte.proofs.is_odd.Goals as goal

pub returns : goal.returns
returns c = odd-mod c.args.n
