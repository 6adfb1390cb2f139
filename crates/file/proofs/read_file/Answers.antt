-- `file::read_file` meets its contract: a header that is refused, and else what follows the header that was read.
use Rattle.std.proofs.lemmas.Result.{err_from_is_err_and}
use Rattle.pulse.specs.Pulse.{fixed, classes}
use Rattle.file.proofs.ReaderLaws.{by-rules}
use Rattle.file.proofs.Loading.{read_file_by-refused, read_file_by-header}
use Rattle.file.proofs.read_file.Goals as goal

pub returns-in_err-read : goal.returns-in_err-read
returns-in_err-read c =
    let p = err_from_is_err_and c.from_residual.result c.from_residual.ensures.1 in
    rw (p.1, p.2) (read_file_by-refused (by-rules (classes fixed c.args.strip.now)) c.args.header.now c.args.bytes.now c.args.from c.read_block.ensures.0 c.in_err-read.was)

pub returns : goal.returns
returns c =
    read_file_by-header (by-rules (classes fixed c.args.strip.now)) c.args.header.now c.args.bytes.now c.args.from c.read_block.ensures.0 c.read_data.result c.in_ok-read.was
    c.read_block.ensures.1 c.read_data.ensures
