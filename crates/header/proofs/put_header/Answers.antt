-- `header::put_header` meets its contract: the type, the two addresses and the name are stored one after the other.
use Rattle.header.proofs.Packing.{header-put}
use Rattle.header.proofs.put_header.Goals as goal

pub returns : goal.returns
returns c =
    header-put c.args.out.now c.args.fields c.args.name.now c.put_word.ensures c.put_word-2.ensures c.put_name.ensures
