-- `tap::reader::count_durations` meets its contract: as many as bytes in version 0, and else those of version 1. The invariant: with those counted,
-- the durations from the place on give the whole number.
use mathlib.Core.Path.{sym, ap, ◌∙◌}
use lib.ListN.{length, length-map}
use Rattle.refusal.specs.Outcome.{mapped}
use Rattle.std.proofs.lemmas.Result.{err_from_is_err_and}
use Rattle.tap.proofs.DataLaws.{durations_in-version0, durations_in-version1}
use Rattle.tap.proofs.ReaderLaws.{count-done}
use Rattle.tap.proofs.reader.count_durations.Goals as goal

pub returns-then-version-eq0 : goal.returns-then-version-eq0
returns-then-version-eq0 c = rw (c.if-version-eq0.true, durations_in-version0 0 c.args.bytes.now, length-map)

pub returns-in_err-at : goal.returns-in_err-at
returns-in_err-at c =
    let p = err_from_is_err_and c.from_residual.result c.from_residual.ensures.1 in
    rw (p.1, p.2) (c.in_err-at.ensures ∙ ap (mapped length) (sym (durations_in-version1 c.args.version c.if-version-eq0.false 0 c.args.bytes.now)))

pub returns : goal.returns
returns c =
    count-done c.args.bytes.now c.loop-at.invariant c.loop-at-test.false
    ∙ ap (mapped length) (sym (durations_in-version1 c.args.version c.if-version-eq0.false 0 c.args.bytes.now))
