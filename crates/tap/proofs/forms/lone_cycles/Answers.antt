-- `tap::forms::lone_cycles` meets its contract: code and definition go by the same test.
use mathlib.Core.Path.{sym, ◌∙◌}
use Rattle.tap.proofs.DataLaws.{lone_cycles-zero, lone_cycles-units}
use Rattle.tap.proofs.forms.lone_cycles.Goals as goal

pub returns-then-b-eq0 : goal.returns-then-b-eq0
returns-then-b-eq0 c = sym (lone_cycles-zero c.args.b c.if-b-eq0.true)

pub returns-else-b-eq0 : goal.returns-else-b-eq0
returns-else-b-eq0 c = c.byte_cycles.ensures ∙ sym (lone_cycles-units c.args.b c.if-b-eq0.false)
