-- `start::has_other` meets its contract: what is left of the pulses is one less at each turn.
use native.Mathlib.Omega.{arith}
use mathlib.Core.Path.{sym, ap, ◌∙◌}
use mathlib.Core.Bool.{not, ◌||◌}
use lib.ListN.{length}
use Rattle.std.proofs.Common.{◌+◌}
use Rattle.std.specs.Option.{is_some}
use Rattle.lists.proofs.LoopLaws.{first_left}
use Rattle.pulse.specs.Pulse.{classes}
use Rattle.start.specs.private.Search.{not_short}
use Rattle.start.proofs.Searching.{other-next, other-done, not-short-at}
use Rattle.start.proofs.has_other.Goals as goal

pub loop-pulse-preserved : goal.loop-pulse-preserved
loop-pulse-preserved c =
    let e = not-short-at c.args.t c.args.pulses.now c.loop-pulse.pulse-index c.loop-pulse-test.true ∙ ap not (sym c.is_short.ensures) in
    ap (λ x. (c.loop-pulse.other || x) || is_some (first_left (not_short (classes c.args.t c.args.pulses.now)) (length c.args.pulses.now) (c.loop-pulse.pulse-index + 1))) (sym e)
    ∙ other-next (not_short (classes c.args.t c.args.pulses.now)) (length c.args.pulses.now) c.loop-pulse.other c.loop-pulse.pulse-index c.loop-pulse-test.true c.loop-pulse.invariant

pub returns : goal.returns
returns c =
    other-done (not_short (classes c.args.t c.args.pulses.now)) (length c.args.pulses.now) c.loop-pulse.other c.loop-pulse.pulse-index (omega arith) c.loop-pulse.invariant
