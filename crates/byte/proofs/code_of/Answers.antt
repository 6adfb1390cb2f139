-- `byte::code_of` meets its contract.
use Rattle.byte.specs.private.Frame.{code_of}
use Rattle.byte.proofs.code_of.Goals as goal

pub returns : goal.returns
unfolding code_of
returns c = rw (c.from.ensures, c.from-2.ensures, c.parity_bit.ensures)
