-- `pulse::units_of` meets its contract: code and definition go by the same test.
use borrow.Author.Tests.{eq-eqb, ne_eqb}
use Rattle.pulse.specs.Units.{units_of}
use Rattle.pulse.proofs.units_of.Goals as goal

pub returns-then-cycles-eq0 : goal.returns-then-cycles-eq0
unfolding units_of
returns-then-cycles-eq0 c = simp (eq-eqb _ _ c.if-cycles-eq0.true)

pub returns-else-cycles-eq0 : goal.returns-else-cycles-eq0
unfolding units_of
returns-else-cycles-eq0 c = simp (ne_eqb _ _ c.if-cycles-eq0.false)
