-- `tap::header::tap_header` meets its contract: the letters, and the version and the count stored after them.
use mathlib.Core.Path.{◌∙◌}
use Rattle.lists.specs.Text.{ascii, low_first}
use Rattle.lists.proofs.TextLaws.{le_bytes-low}
use Rattle.tap.specs.Tap.{tap_header}
use Rattle.tap.proofs.header.tap_header.Goals as goal

pub returns : goal.returns
unfolding tap_header ascii low_first
returns c = rw (c.copy_from_slice.ensures.after ∙ c.to_le_bytes.ensures ∙ le_bytes-low c.args.n)
