-- `pulse::is_short` meets its contract, whatever the four tests of `class_of` give.
use Rattle.lists.proofs.BoolLaws.{leb-not, le-cmp, lt-cmp}
use Rattle.pulse.proofs.PulseLaws.{class-tests}
use Rattle.pulse.proofs.is_short.Goals as goal

pub returns : goal.returns
returns c =
    rw (c.le.ensures, c.lt.ensures, le-cmp c.args.t.short.0 c.args.pulse.0, lt-cmp c.args.pulse.0 c.args.t.medium.0)
    (rw (leb-not c.args.t.short.0 c.args.pulse.0) (class-tests c.args.t c.args.pulse.0).short)
