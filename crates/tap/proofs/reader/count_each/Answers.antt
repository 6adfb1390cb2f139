-- `tap::reader::count_each` meets its contract. The invariant: with those counted, the durations from the place on give the whole number.
use native.Mathlib.Omega.{arith}
use Rattle.tap.proofs.DataLaws.{durations_from-byte, durations_from-long}
use Rattle.tap.proofs.ReaderLaws.{count-step, count_cut}
use Rattle.tap.proofs.reader.count_each.Goals as goal
use Rattle.tap.proofs.reader.count_each.Goals.{then-bytes-i-ne0, else-bytes-i-ne0+else-bytes-i-lt-LONG_BYTES}

pub loop-i-preserved : goal.loop-i-preserved
loop-i-preserved c =
    elim c.if-bytes-i-ne0.branch [
      | then-bytes-i-ne0 w ↦
          rw w.i-is (omega arith, count-step c.args.bytes.now c.loop-i.invariant.1 (durations_from-byte c.args.bytes.now c.loop-i.i (omega arith) w.if-bytes-i-ne0.true))
      | else-bytes-i-ne0+else-bytes-i-lt-LONG_BYTES w ↦
          rw w.i-is (omega arith, count-step c.args.bytes.now c.loop-i.invariant.1 (durations_from-long c.args.bytes.now c.loop-i.i w.if-bytes-i-ne0.false (omega (arith, w.if-bytes-i-lt-LONG_BYTES.false))))
    ]

pub returns-then-bytes-i-lt-LONG_BYTES : goal.returns-then-bytes-i-lt-LONG_BYTES
returns-then-bytes-i-lt-LONG_BYTES c =
    count_cut c.args.bytes.now c.loop-i.invariant.1 (omega arith) (record { zero = c.if-bytes-i-ne0.false; short = c.if-bytes-i-lt-LONG_BYTES.true }) c.at.ensures
