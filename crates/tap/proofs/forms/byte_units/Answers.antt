-- `tap::forms::byte_units` meets its contract: between two units there is none, and a whole number counts where one byte holds it.
use native.Mathlib.Omega.{arith}
use mathlib.Core.Path.{sym, ◌∙◌}
use borrow.Author.Tests.{leb-true, leb-false}
use Rattle.lists.proofs.BoolLaws.{le-cmp}
use Rattle.tap.proofs.UnitLaws.{units_of-none, units_of-few, units_of-many}
use Rattle.tap.proofs.forms.byte_units.Goals as goal

pub returns-in_default : goal.returns-in_default
returns-in_default c = record { value = units_of-none c.args.duration c.units_of.ensures c.in_default.is; fits = omega arith }

pub returns-then-le : goal.returns-then-le
returns-then-le c =
    let few = leb-true c.in-Some.units.0 255 (sym (le-cmp c.in-Some.units.0 255) ∙ sym c.le.ensures ∙ c.if-le.true) in
    record { value = units_of-few c.args.duration c.units_of.ensures c.in-Some.is few; fits = omega (arith, few) }

pub returns : goal.returns
returns c =
    let many = leb-false c.in-Some.units.0 255 (sym (le-cmp c.in-Some.units.0 255) ∙ sym c.le.ensures ∙ c.if-le.false) in
    record { value = units_of-many c.args.duration c.units_of.ensures c.in-Some.is many; fits = omega arith }
