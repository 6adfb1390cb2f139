-- `wear::report` meets its contract: refusal 1, and else the totals with the strip added.
use Rattle.pulse.specs.Pulse.{fixed}
use Rattle.wear.proofs.Adding.{report-refused, sums-fit, report-added}
use Rattle.wear.proofs.report.Goals as goal

pub returns-then-is_full-strip : goal.returns-then-is_full-strip
returns-then-is_full-strip c =
    rw c.into.ensures (report-refused fixed c.args.totals c.args.strip.now (rw c.is_full.ensures at c.if-is_full-strip.true))

pub plus-requires : goal.plus-requires
plus-requires c =
    sums-fit fixed c.args.totals c.args.strip.now (rw c.is_full.ensures at c.if-is_full-strip.false) c.count_classes-pulses.ensures c.count_places-places.ensures

pub returns : goal.returns
returns c =
    report-added fixed c.args.totals c.args.strip.now (rw c.is_full.ensures at c.if-is_full-strip.false) c.count_classes-pulses.ensures c.count_places-places.ensures
    c.plus.ensures
