-- `tap::read_tap` meets its contract: what the header comes to, and then the data.
use Rattle.std.proofs.lemmas.Result.{err_from_is_err_and}
use Rattle.tap.proofs.ReaderLaws.{read_tap-wrong_header, tap_version-long, read_tap-sound_header}
use Rattle.tap.proofs.read_tap.Goals as goal

pub slice_bounds-read_durations-count : goal.slice_bounds-read_durations-count
slice_bounds-read_durations-count c =
    tap_version-long c.args.file.now c.args.out.now c.tap_version.ensures c.in_ok-version.was

pub slice_bounds-read_durations-start : goal.slice_bounds-read_durations-start
slice_bounds-read_durations-start c = tap_version-long c.args.file.now c.args.out.now c.tap_version.ensures c.in_ok-version.was

pub returns-in_err-version : goal.returns-in_err-version
returns-in_err-version c =
    let p = err_from_is_err_and c.from_residual.result c.from_residual.ensures.1 in
    rw (p.1, p.2) (read_tap-wrong_header c.args.file.now c.args.out.now c.tap_version.ensures c.in_err-version.was)

pub returns : goal.returns
returns c =
    read_tap-sound_header c.args.file.now c.args.out.now c.tap_version.ensures c.in_ok-version.was c.read_durations.result c.read_durations.ensures
