-- `tap::writer::all_bytes` meets its contract. The invariant: what is said of the durations before.
use mathlib.Core.Path.{refl}
use Rattle.std.proofs.lemmas.List.{take_more}
use Rattle.tap.specs.private.Forms.{no_zeros}
use Rattle.tap.proofs.GroupLaws.{no_zeros-more}
use Rattle.tap.proofs.writer.all_bytes.Goals as goal

pub loop-duration-init : goal.loop-duration-init
unfolding no_zeros
loop-duration-init c = refl

pub loop-duration-preserved : goal.loop-duration-preserved
loop-duration-preserved c =
    rw (take_more c.args.durations.now c.loop-duration.duration-index 0 c.loop-duration-test.true, no_zeros-more, ← c.loop-duration.invariant, c.byte_units.ensures.value)
