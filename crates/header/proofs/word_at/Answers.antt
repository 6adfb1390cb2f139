-- `header::word_at` meets its contract: two bytes make a 16-bit number.
use mathlib.Core.Path.{◌∙◌}
use Rattle.header.proofs.Unpacking.{word-bytes}
use Rattle.header.proofs.word_at.Goals as goal

pub returns : goal.returns
returns c = c.from_le_bytes.ensures ∙ word-bytes c.args.header.now c.args.at c.requires
