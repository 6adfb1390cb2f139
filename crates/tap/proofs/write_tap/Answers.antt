-- `tap::write_tap` meets its contract: refusals 1, 11 and 13, and then what is written.
use native.Mathlib.Omega.{arith}
use Rattle.std.proofs.lemmas.Result.{err_from_is_err_and}
use Rattle.tap.proofs.FormLaws.{width-tap_data}
use Rattle.tap.proofs.WriterLaws.{write_tap-wrong_size, write_tap-wrong_tap_version, write_tap-no_tap_form, length-data_of, write_tap-put_file}
use Rattle.tap.proofs.write_tap.Goals as goal

pub returns-then-durations-gt-MOST_DURATIONS : goal.returns-then-durations-gt-MOST_DURATIONS
returns-then-durations-gt-MOST_DURATIONS c =
    write_tap-wrong_size c.args.out.now c.args.version c.args.durations.now c.if-durations-gt-MOST_DURATIONS.true c.into.ensures

pub returns-then-version-gt-LAST_VERSION : goal.returns-then-version-gt-LAST_VERSION
returns-then-version-gt-LAST_VERSION c =
    write_tap-wrong_tap_version c.args.out.now c.args.version c.args.durations.now c.if-durations-gt-MOST_DURATIONS.false c.if-version-gt-LAST_VERSION.true c.into-then-version-gt-LAST_VERSION.ensures

pub put_file-requires : goal.put_file-requires
put_file-requires c =
    let count = length-data_of c.args.out.now c.args.version c.args.durations.now c.if-durations-gt-MOST_DURATIONS.false c.if-version-gt-LAST_VERSION.false c.measure_forms.ensures c.in_ok-n.was in
    let width = width-tap_data c.args.version c.args.durations.now in
    record { count = count; fits = omega arith }

pub returns-in_err-n : goal.returns-in_err-n
returns-in_err-n c =
    let p = err_from_is_err_and c.from_residual.result c.from_residual.ensures.1 in
    rw (p.1, p.2) (write_tap-no_tap_form c.args.out.now c.args.version c.args.durations.now c.if-durations-gt-MOST_DURATIONS.false c.if-version-gt-LAST_VERSION.false c.measure_forms.ensures c.in_err-n.was)

pub returns : goal.returns
returns c =
    write_tap-put_file c.args.out.now c.args.version c.args.durations.now c.if-durations-gt-MOST_DURATIONS.false c.if-version-gt-LAST_VERSION.false c.measure_forms.ensures c.in_ok-n.was c.put_file.result
    c.put_file.ensures
