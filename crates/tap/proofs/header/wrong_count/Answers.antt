-- `tap::header::wrong_count` meets its contract: a reserved byte, or another number than that of the data bytes.
use native.Mathlib.Omega.{arith}
use Rattle.tap.proofs.HeaderLaws.{wrong_count-reserved, wrong_count-number}
use Rattle.tap.proofs.header.wrong_count.Goals as goal

pub returns-then-not-same : goal.returns-then-not-same
returns-then-not-same c =
    wrong_count-reserved c.args.file.now (omega arith) c.same.ensures c.if-not-same.true

pub returns : goal.returns
returns c =
    wrong_count-number c.args.file.now (omega arith) c.same.ensures c.if-not-same.false c.from_le_bytes-count.ensures
