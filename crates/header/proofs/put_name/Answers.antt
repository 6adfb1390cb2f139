-- `header::put_name` meets its contract. The invariant: the bytes left, put after those that are there, give the whole filled name.
use Rattle.header.proofs.Packing.{name-begun, name-next, name_done}
use Rattle.header.proofs.put_name.Goals as goal

pub loop-i-init : goal.loop-i-init
loop-i-init c = name-begun c.args.out.now c.args.name.now

pub loop-i-preserved : goal.loop-i-preserved
loop-i-preserved c =
    name-next c.args.out.now c.args.name.now c.loop-i.invariant c.loop-i-test.true c.name_byte.ensures

pub returns : goal.returns
returns c =
    name_done c.args.out.now c.args.name.now c.loop-i.invariant c.loop-i-test.false
