-- `tap::groups::no_zeros` meets its contract. The invariant: what is said of the bytes before.
use mathlib.Core.Path.{refl}
use Rattle.std.proofs.lemmas.List.{take_more}
use Rattle.tap.specs.private.Forms.{no_zeros}
use Rattle.tap.proofs.GroupLaws.{no_zeros-push}
use Rattle.tap.proofs.groups.no_zeros.Goals as goal

pub loop-b-init : goal.loop-b-init
unfolding no_zeros
loop-b-init c = refl

pub loop-b-preserved : goal.loop-b-preserved
loop-b-preserved c = rw (take_more c.args.bytes.now c.loop-b.b-index 0 c.loop-b-test.true, no_zeros-push, ← c.loop-b.invariant)
