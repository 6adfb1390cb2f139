-- `start::last_not_short` meets its contract. The invariant: the first `count` of the sixteen pulses have the last one that is not short.
use Prim.Native.Nat.{◌+◌, ◌-◌}
use native.Mathlib.Omega.{arith}
use mathlib.Core.Path.{sym, ap, ◌∙◌}
use mathlib.Core.Bool.{not}
use Rattle.pulse.specs.Pulse.{classes}
use Rattle.start.specs.private.Search.{not_short}
use Rattle.start.proofs.Searching.{last-passed, last-here, last-over, not-short-at}
use Rattle.start.proofs.last_not_short.Goals as goal

pub returns-then-not-is_short : goal.returns-then-not-is_short
returns-then-not-is_short c =
    let e = not-short-at c.args.t c.args.strip.now (c.args.at + (c.loop-i.i - 1)) (omega arith) ∙ ap not (sym c.is_short.ensures) ∙ c.if-not-is_short.true-raw in
    sym (last-here (not_short (classes c.args.t c.args.strip.now)) c.args.at c.loop-i.i (omega arith) e) ∙ c.loop-i.invariant

pub loop-i-preserved : goal.loop-i-preserved
loop-i-preserved c =
    let e = not-short-at c.args.t c.args.strip.now (c.args.at + (c.loop-i.i - 1)) (omega arith) ∙ ap not (sym c.is_short.ensures) ∙ c.if-not-is_short.false-raw in
    last-passed (not_short (classes c.args.t c.args.strip.now)) c.args.at c.loop-i.i (omega arith) e ∙ c.loop-i.invariant

pub returns : goal.returns
returns c =
    sym (last-over (not_short (classes c.args.t c.args.strip.now)) c.args.at c.loop-i.i (omega arith)) ∙ c.loop-i.invariant
