-- `byte::write::Quarters::put_byte` meets its contract: the marker, the eight bits and the parity bit are stored one after the other.
use Rattle.byte.proofs.Stores.{byte_put}
use Rattle.byte.proofs.write.Quarters.put_byte.Goals as goal

pub returns : goal.returns
returns c =
    byte_put c.args.out.now c.args.at c.args.b c.put_pair.ensures c.put_bits.ensures c.parity_bit.ensures
    c.put_bit.ensures
