-- `tap::writer::put_long` meets its contract: a byte is stored, and three are copied after it.
use Rattle.tap.proofs.WriterLaws.{sets-long_form}
use Rattle.tap.proofs.writer.put_long.Goals as goal

pub returns : goal.returns
returns c =
    sets-long_form c.args.out.now c.args.at c.args.duration.0 c.requires c.to_le_bytes.ensures c.copy_from_slice.ensures.after
