-- `block::write::put_shorts` meets its contract: the part from `at` on is filled.
use Rattle.block.proofs.Writing.{shorts-put}
use Rattle.block.proofs.write.put_shorts.Goals as goal

pub returns : goal.returns
returns c = shorts-put c.args.out.now c.args.at c.args.count c.requires (c.fill.ensures.after (λ y e. e)) c.written_as-short.ensures
