-- `byte::write_bytes` meets its contract. The invariant: the bytes left, put after those that are there, give them all.
use Rattle.std.proofs.Common.{arith}
use Rattle.byte.proofs.Stores.{BytesPut-next, write_bytes-whole, write_bytes-no_room}
use Rattle.byte.proofs.write_bytes.Goals as goal

pub returns-then-out-values : goal.returns-then-out-values
returns-then-out-values c =
    write_bytes-no_room c.args.out.now c.args.values.now (omega arith) c.at.ensures

pub loop-i-preserved : goal.loop-i-preserved
loop-i-preserved c =
    BytesPut-next c.args.out.now c.args.values.now c.loop-i.invariant c.loop-i-test.true c.put_byte.ensures

pub returns : goal.returns
returns c =
    write_bytes-whole c.args.out.now c.args.values.now c.loop-i.invariant c.loop-i-test.false (omega arith)
