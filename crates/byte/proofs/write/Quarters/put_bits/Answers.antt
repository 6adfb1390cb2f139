-- `byte::write::Quarters::put_bits` meets its contract. The invariant: the bits of what is left of the byte, put after those that are there, give all eight.
use Rattle.byte.proofs.QuarterLaws.{BitsPut-next, BitsPut-done}
use Rattle.byte.proofs.write.Quarters.put_bits.Goals as goal

pub loop-i-preserved : goal.loop-i-preserved
loop-i-preserved c =
    BitsPut-next c.args.out.now c.args.at c.args.b c.loop-i.rest c.loop-i.invariant c.loop-i-test.true c.put_quarter.ensures

pub returns : goal.returns
returns c =
    BitsPut-done c.args.out.now c.args.at c.args.b c.loop-i.rest c.loop-i.invariant c.loop-i-test.false
