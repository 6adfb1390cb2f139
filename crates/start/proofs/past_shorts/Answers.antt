-- `start::past_shorts` meets its contract: eight pulses without another are passed.
use mathlib.Core.Path.{refl, sym, ◌∙◌}
use native.Mathlib.Omega.{arith}
use Rattle.start.proofs.Searching.{part-passed}
use Rattle.start.proofs.past_shorts.Goals as goal

pub loop-t-preserved : goal.loop-t-preserved
loop-t-preserved c =
    part-passed c.args.t c.args.strip.now c.loop-t.i 8 (omega (arith, c.saturating_sub.ensures, c.loop-t-test.true)) refl (sym c.has_other.ensures ∙ c.if-has_other.false)
    ∙ c.loop-t.invariant
