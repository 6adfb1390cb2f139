-- `byte::is_wrong` meets its contract: a pair that is not whole, the marker's, a bit's.
use Rattle.std.proofs.Common.{arith}
use lib.ListN.{length-map}
use Rattle.pulse.specs.Pulse.{class_of, classes}
use Rattle.byte.proofs.CauseLaws.{wrong-past, wrong-marker, wrong-bit}
use Rattle.byte.specs.Byte.{pair_of}
use Rattle.byte.proofs.is_wrong.Goals as goal

pub returns-then-frame-at : goal.returns-then-frame-at
returns-then-frame-at c =
    wrong-past (classes c.args.t c.args.frame.now) c.args.i (omega (arith, length-map c.args.frame.now (class_of c.args.t)))

pub returns-then-i-eq0 : goal.returns-then-i-eq0
unfolding pair_of
returns-then-i-eq0 c =
    rw c.is_marker.ensures (wrong-marker c.args.t c.args.frame.now c.args.i (omega arith) c.if-i-eq0.true)

pub returns : goal.returns
unfolding pair_of
returns c =
    rw (c.is_zero.ensures, c.is_one.ensures)
    (wrong-bit c.args.t c.args.frame.now c.args.i (omega arith) c.if-i-eq0.false)
