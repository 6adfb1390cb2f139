-- `tap::writer::sum_widths` meets its contract. The invariant: with the forms of the durations before, those of the rest give all data bytes, and whether one is missing.
use native.Mathlib.Omega.{arith}
use mathlib.Core.Path.{ap, ◌∙◌}
use lib.ListN.{length, get_or}
use Rattle.std.proofs.Common.{rules}
use Rattle.tap.proofs.FormLaws.{width-answered, none-answered, width-form_of}
use Rattle.tap.proofs.WriterLaws.{measure-next, measure-done}
use Rattle.tap.proofs.writer.sum_widths.Goals as goal

pub overflow_add-bytes : goal.overflow_add-bytes
overflow_add-bytes c =
    let width = width-answered c.form_of-form.result c.map_or-bytes.ensures (λ form w. search rules) in
    omega (arith, width, ap length c.form_of-form.ensures, width-form_of (get_or c.args.durations.now c.loop-duration.duration-index 0) c.args.version, c.loop-duration.invariant.few)

pub loop-duration-preserved : goal.loop-duration-preserved
loop-duration-preserved c =
    let width = width-answered c.form_of-form.result c.map_or-bytes.ensures (λ form w. search rules) in
    let none = none-answered c.form_of-form.result c.is_none-missing.result c.is_none-missing.ensures in
    let next = measure-next c.args.version c.args.durations.now c.loop-duration.invariant c.loop-duration-test.true (width ∙ ap length c.form_of-form.ensures) in
    rw (none, ← width) next

pub returns : goal.returns
returns c =
    measure-done c.args.version c.args.durations.now c.loop-duration.invariant c.loop-duration-test.false c.then_some.ensures
