-- `tap::forms::form_of` meets its contract: code and definition go by the same tests.
use native.Mathlib.Omega.{arith}
use mathlib.Core.Path.{sym, ◌∙◌}
use Rattle.lists.proofs.BoolLaws.{le-cmp}
use Rattle.tap.proofs.FormLaws.{form-units, form-old, form-new}
use Rattle.tap.proofs.forms.form_of.Goals as goal

pub returns-then-units-ne0 : goal.returns-then-units-ne0
returns-then-units-ne0 c = form-units c.args.duration c.args.version c.byte_units-units.ensures.value (omega arith)

pub returns-then-version-eq0 : goal.returns-then-version-eq0
returns-then-version-eq0 c =
    form-old c.args.duration c.args.version (sym c.if-units-ne0.false ∙ c.byte_units-units.ensures.value) c.if-version-eq0.true (rw c.eq.ensures at c.then_some.ensures)

pub returns : goal.returns
returns c =
    form-new c.args.duration c.args.version (sym c.if-units-ne0.false ∙ c.byte_units-units.ensures.value) c.if-version-eq0.false (rw (c.le.ensures, le-cmp c.args.duration.0 16777215) at c.then_some-2.ensures)
