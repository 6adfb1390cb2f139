-- `header::put_word` meets its contract: the two bytes, low first.
use native.Mathlib.Omega.{arith}
use mathlib.Core.Path.{◌∙◌}
use Rattle.lists.specs.Text.{low_first}
use Rattle.header.proofs.Packing.{part-stored}
use Rattle.header.proofs.put_word.Goals as goal

pub returns : goal.returns
unfolding low_first
returns c = part-stored c.args.out.now (low_first 2 c.args.word) c.args.at (omega arith) (omega arith) (c.copy_from_slice.ensures.after ∙ c.to_le_bytes.ensures)
