-- `lists::from_low` meets its contract: its four bytes, those past the end 0, make the number.
use Rattle.std.proofs.Common.{arith}
use Rattle.lists.proofs.TextLaws.{from_low-four}
use Rattle.lists.proofs.from_low.Goals as goal

pub returns : goal.returns
returns c =
    rw (c.from_le_bytes.ensures, c.byte_or_zero-first.ensures, c.byte_or_zero-second.ensures, c.byte_or_zero.ensures, c.byte_or_zero-2.ensures, from_low-four c.args.bytes.now)
    (omega arith)
