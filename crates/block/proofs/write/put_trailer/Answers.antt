-- `block::write::put_trailer` meets its contract: the long pulse is stored, and the short ones after it.
use mathlib.Core.Path.{◌∙◌}
use Rattle.block.proofs.Writing.{trailer-put}
use Rattle.block.proofs.write.put_trailer.Goals as goal

pub returns : goal.returns
returns c =
    c.put_shorts.ensures ∙ trailer-put c.args.out.now c.args.at c.written_as-long.result.0 c.written_as-long.ensures
