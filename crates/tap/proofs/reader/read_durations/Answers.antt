-- `tap::reader::read_durations` meets its contract: refusals 12 and 2, and else the durations, put in front.
use Rattle.std.proofs.lemmas.Result.{err_from_is_err_and}
use Rattle.tap.proofs.ReaderLaws.{read_durations-cut_long_form, read_durations-no_room, read_durations-accepted}
use Rattle.tap.proofs.reader.read_durations.Goals as goal

pub returns-in_err-count : goal.returns-in_err-count
returns-in_err-count c =
    let p = err_from_is_err_and c.from_residual.result c.from_residual.ensures.1 in
    rw (p.1, p.2) (read_durations-cut_long_form c.args.version c.args.bytes.now c.args.out.now c.count_durations.ensures c.in_err-count.was)

pub returns-then-out-count : goal.returns-then-out-count
returns-then-out-count c =
    read_durations-no_room c.args.version c.args.bytes.now c.args.out.now c.count_durations.ensures c.in_ok-count.was c.if-out-count.true c.into.ensures

pub returns : goal.returns
returns c =
    read_durations-accepted c.args.version c.args.bytes.now c.args.out.now c.count_durations.ensures c.in_ok-count.was c.if-out-count.false c.fill_durations.ensures
