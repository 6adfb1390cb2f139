-- `wear::count::count_classes` meets its contract. The invariant: what was counted, with the classes of the pulses that are left, is all.
use native.Mathlib.Omega.{arith}
use mathlib.Core.Path.{ap, ◌∙◌}
use Rattle.pulse.specs.Pulse.{classes}
use Rattle.wear.specs.private.Counts.{pulses_of}
use Rattle.wear.proofs.ClassLaws.{sorting-next, sorting-done}
use Rattle.wear.proofs.count.count_classes.Goals as goal

pub loop-pulse-preserved : goal.loop-pulse-preserved
loop-pulse-preserved c =
    rw (c.from-shorts.ensures, c.from-mediums.ensures, c.from-longs.ensures)
    (sorting-next _ _ _ c.loop-pulse-test.true c.loop-pulse.invariant c.is_short.ensures c.is_medium.ensures c.is_long.ensures)

pub returns : goal.returns
returns c =
    rw (c.from.ensures, c.from-2.ensures, c.from-3.ensures, c.from-4.ensures)
    (sorting-done c.loop-pulse.invariant (omega arith) ∙ ap (λ t. pulses_of (classes t c.args.strip.now)) c.fixed-t.ensures)
