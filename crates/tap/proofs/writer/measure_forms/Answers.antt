-- `tap::writer::measure_forms` meets its contract: the first duration without a form, where one is missing, and else the sum.
use mathlib.Core.Path.{sym, ◌∙◌}
use Rattle.tap.proofs.WriterLaws.{sum-some, data_of-no_tap_form, data_of-accepted}
use Rattle.tap.proofs.writer.measure_forms.Goals as goal

pub returns-in_default : goal.returns-in_default
returns-in_default c =
    data_of-no_tap_form c.args.version c.args.durations.now (sym c.first_without.ensures ∙ c.unwrap-i.ensures) c.at.ensures

pub returns : goal.returns
returns c =
    let sum = sum-some c.args.version c.args.durations.now c.sum_widths.ensures c.in-Some.is in
    data_of-accepted c.args.version c.args.durations.now sum.0 sum.1
