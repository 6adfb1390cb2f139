-- `byte::write::Quarters::put_quarter` meets its contract. The invariant: the pulses left of the table's row, put after those that are there, give them all.
use Rattle.std.proofs.Common.{arith}
use Rattle.byte.proofs.QuarterLaws.{quarter-next, quarter-done}
use Rattle.byte.proofs.write.Quarters.put_quarter.Goals as goal

pub loop-i-preserved : goal.loop-i-preserved
loop-i-preserved c =
    rw c.from.ensures (quarter-next c.args.out.now c.args.at c.args.n c.loop-i.invariant c.args.self.now.known (omega arith) c.loop-i-test.true)

pub returns : goal.returns
returns c =
    quarter-done c.args.out.now c.args.at c.args.n c.loop-i.invariant c.loop-i-test.false
