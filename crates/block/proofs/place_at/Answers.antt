-- `block::place_at` meets its contract: refusals 1 and 4, and else the place of the copies.
use Rattle.std.proofs.Common.{sym}
use Rattle.std.proofs.lemmas.Result.{err_from_is_err_and}
use Rattle.pulse.specs.Pulse.{fixed, classes}
use Rattle.block.proofs.Looks.{place-above, place-refused, look-there, place-accepted}
use Rattle.block.proofs.place_at.Goals as goal

pub returns-then-n-i : goal.returns-then-n-i
returns-then-n-i c =
    rw c.into.ensures (sym (place-above (classes fixed c.args.strip.now) c.args.start c.args.n c.args.i c.if-n-i.true))

pub returns-in_err-copies : goal.returns-in_err-copies
returns-in_err-copies c =
    let p = err_from_is_err_and c.from_residual.result c.from_residual.ensures.1 in
    rw (p.1, p.2) (place-refused fixed c.args.strip.now c.args.start c.args.n c.copies_at.ensures c.args.i c.if-n-i.false c.in_err-copies.was)

pub new-requires : goal.new-requires
new-requires c = look-there fixed c.args.strip.now c.args.start c.args.n c.copies_at.ensures c.in_ok-copies.was

pub returns : goal.returns
returns c =
    let new = c.new.ensures in
    place-accepted fixed c.args.strip.now c.args.start c.args.n c.copies_at.ensures c.in_ok-copies.was c.args.i c.if-n-i.false
    (rw (new.0, new.1, new.2, new.3, c.fixed.ensures) at c.read_place.ensures)
