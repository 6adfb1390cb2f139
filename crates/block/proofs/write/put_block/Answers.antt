-- `block::write::put_block` meets its contract: the leader, the copies and their trailers are stored one after the other.
use Rattle.block.proofs.Writing.{block-put}
use Rattle.block.proofs.write.put_block.Goals as goal

pub returns : goal.returns
returns c =
    block-put c.args.out.now c.args.leader c.args.payload.now c.put_shorts.ensures c.put_copy.ensures c.put_trailer.ensures
    c.put_copy-2.ensures c.put_trailer-2.ensures
