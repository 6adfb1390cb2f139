-- `block::look_at` meets its contract: refusals 1 and 4, and else what the copies come to.
use Rattle.pulse.specs.Pulse.{fixed}
use Rattle.block.proofs.Looks.{look-refused, look-there, look-accepted}
use Rattle.block.proofs.look_at.Goals as goal

pub new-requires : goal.new-requires
new-requires c = look-there fixed c.args.strip.now c.args.start c.args.n c.copies_at.ensures c.in-Ok.is

pub returns-in-Err : goal.returns-in-Err
returns-in-Err c =
    look-refused fixed c.args.strip.now c.args.start c.args.n c.copies_at.ensures c.refused.result c.in-Err.is c.refused.ensures

pub returns-in-Ok : goal.returns-in-Ok
returns-in-Ok c =
    let new = c.new.ensures in
    look-accepted fixed c.args.strip.now c.args.start c.args.n c.copies_at.ensures c.in-Ok.is
    c.look.result (rw (new.0, new.1, new.2, new.3, new.4, c.fixed.ensures) at c.look.ensures)
