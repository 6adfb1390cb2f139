-- `bench::tally` meets its contract. The loop's invariant: the tally so far, with the frames that are left, gives the whole.
use mathlib.Core.Path.{sym, ◌∙◌}
use Prim.Native.Nat.{◌<◌}
use lib.ListN.{length}
use Rattle.std.specs.Slice.Iter.{chunks_exact_rest}
use Rattle.bench.proofs.TallyLaws.{Tallied-next, Tallied-over}
use Rattle.bench.proofs.tally.Goals as goal

pub loop-frame-preserved-in-Some-read_frame : goal.loop-frame-preserved-in-Some-read_frame
loop-frame-preserved-in-Some-read_frame c =
    let steps = c.in-Some.ensures.steps in (
      steps.0 ∙ c.loop-frame.invariant.0,
      Tallied-next c.args.t c.args.pulses.now c.loop-frame.invariant.1 c.in-Some.frame.now steps.1.0 (steps.1.1 ∙ c.loop-frame.invariant.0) (sym c.in-Some-read_frame.is ∙ c.read_frame.ensures),
    )

pub loop-frame-preserved : goal.loop-frame-preserved
loop-frame-preserved c =
    let steps = c.in-Some.ensures.steps in (
      steps.0 ∙ c.loop-frame.invariant.0,
      Tallied-next c.args.t c.args.pulses.now c.loop-frame.invariant.1 c.in-Some.frame.now steps.1.0 (steps.1.1 ∙ c.loop-frame.invariant.0) (sym c.in_default.is ∙ c.read_frame.ensures),
    )

pub returns : goal.returns
returns c =
    let over : length (chunks_exact_rest c.loop-frame.frame-iterator) < 20 = rw c.loop-frame.invariant.0 at c.in-None.ensures.steps.1.0 in
    sym (Tallied-over c.args.t c.args.pulses.now c.loop-frame.invariant.1 over)
