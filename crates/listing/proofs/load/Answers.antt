-- `listing::load` meets its contract: refusal 1, what the TAP reader refuses, and then what the file reader comes to.
use Prim.Native.Nat.{ℕ}
use mathlib.Core.Path.{sym}
use lib.ListN.{replicate, length-replicate}
use lib.Seq.{length-take-le}
use Rattle.std.proofs.lemmas.Result.{err_from_is_err_and}
use Rattle.listing.proofs.Listed.{file_in-wrong_size, file_in-no_tape, count-within, file_in-read}
use Rattle.listing.proofs.load.Goals as goal

pub returns-then-file-gt-MOST_INPUT : goal.returns-then-file-gt-MOST_INPUT
returns-then-file-gt-MOST_INPUT c =
    let k = file_in-wrong_size c.args.file.now c.args.header.now c.if-file-gt-MOST_INPUT.true c.into.ensures in
    record { answer = k.0; header = k.1 }

pub returns-in_err-t : goal.returns-in_err-t
returns-in_err-t c =
    let p = err_from_is_err_and c.from_residual.result c.from_residual.ensures.1 in
    let k = file_in-no_tape c.args.file.now c.args.header.now c.if-file-gt-MOST_INPUT.false c.read_tap.ensures c.in_err-t.was in
    record { answer = rw (p.1, p.2) k.0; header = k.1 }

pub slice_bounds-strip-end : goal.slice_bounds-strip-end
slice_bounds-strip-end c =
    count-within c.args.file.now c.args.header.now c.if-file-gt-MOST_INPUT.false c.read_tap.ensures c.in_ok-t.was

pub slice_bounds-read_file-end : goal.slice_bounds-read_file-end
slice_bounds-read_file-end c =
    sym (length-take-le c.in_ok-t.t.count c.read_tap.new.out (count-within c.args.file.now c.args.header.now c.if-file-gt-MOST_INPUT.false c.read_tap.ensures c.in_ok-t.was))

pub returns : goal.returns
returns c =
    let k = file_in-read c.args.file.now c.args.header.now c.if-file-gt-MOST_INPUT.false c.read_tap.ensures c.in_ok-t.was c.read_file.result (replicate 8192 0) c.told-header (length-replicate {A = ℕ} 8192 0) c.read_file.ensures in
    record { answer = k.0; header = k.1 }
