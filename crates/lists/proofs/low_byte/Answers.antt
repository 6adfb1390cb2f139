-- `lists::low_byte` meets its contract: the four bytes of the library's method are those of the definition.
use Rattle.std.proofs.Common.{ap, ◌∙◌, get_or}
use Rattle.lists.proofs.TextLaws.{le_bytes-low}
use Rattle.lists.proofs.low_byte.Goals as goal

pub returns : goal.returns
returns c = c.byte_or_zero.ensures ∙ ap (λ xs. get_or xs c.args.i 0) (c.to_le_bytes.ensures ∙ le_bytes-low c.args.n)
