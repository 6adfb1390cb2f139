-- `block::write::put_copy` meets its contract: countdown, payload and checksum are stored one after the other.
use Rattle.block.proofs.Writing.{copy-put}
use Rattle.block.proofs.Countdowns.{row-countdown}
use Rattle.block.proofs.write.put_copy.Goals as goal

pub returns : goal.returns
returns c =
    copy-put c.args.out.now c.args.at c.args.copy c.args.payload.now (row-countdown c.args.copy c.requires.small.0) c.requires.summed
    c.put_bytes.ensures c.put_bytes-2.ensures c.put_bytes-3.ensures
