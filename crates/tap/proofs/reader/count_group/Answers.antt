-- `tap::reader::count_group` meets its contract: as many durations as bytes where none of them is 0; else by the number of zero bytes, where each
-- begins a long form, or form by form.
use native.Mathlib.Omega.{arith}
use mathlib.Core.Path.{sym, ◌∙◌}
use Rattle.tap.proofs.ApartLaws.{apart-counted}
use Rattle.tap.proofs.ReaderLaws.{count-run}
use Rattle.tap.proofs.reader.count_group.Goals as goal

pub returns-then-no_zeros : goal.returns-then-no_zeros
returns-then-no_zeros c =
    (omega arith, count-run c.args.bytes.now c.requires.counted c.group_end-end.result (omega arith) c.group_end-end.ensures.1 (sym c.no_zeros.ensures ∙ c.if-no_zeros.true))

pub returns-in-Some : goal.returns-in-Some
returns-in-Some c =
    let whole = c.group_end-end.ensures.3 (omega arith) in
    let counted = apart-counted c.args.bytes.now c.args.start.place c.in-Some.ensures (omega arith) c.requires.counted c.form_end-place.ensures in
    rw c.from.ensures (counted.0, counted.2)
