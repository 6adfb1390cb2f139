-- `block::write::put_bytes` meets its contract: the bytes are written into the part of the output from that place on.
use Rattle.block.proofs.Writing.{put-stored}
use Rattle.block.proofs.write.put_bytes.Goals as goal

pub returns : goal.returns
returns c =
    put-stored c.args.out.now c.args.at c.args.values.now c.requires c.write_bytes.ensures.1
