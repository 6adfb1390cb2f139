-- `tap::header::wrong_letters` meets its contract: too few bytes, or other letters in front.
use Rattle.lists.specs.Text.{ascii}
use Rattle.tap.proofs.HeaderLaws.{wrong_letters-same}
use Rattle.tap.proofs.header.wrong_letters.Goals as goal

pub returns : goal.returns
unfolding ascii
returns c =
    wrong_letters-same c.args.file.now c.if-file-lt-TAP_HEADER_BYTES.false c.same.ensures
