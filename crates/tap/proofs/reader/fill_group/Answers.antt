-- `tap::reader::fill_group` meets its contract: all bytes at once where none of them is 0, and else form by form.
use Prim.Native.Nat.{◌+◌}
use native.Mathlib.Omega.{arith}
use mathlib.Core.Path.{sym, ◌∙◌, ap}
use lib.ListN.{length-map}
use Rattle.std.proofs.Common.{rules}
use Rattle.tap.specs.private.Forms.{lone_cycles}
use Rattle.tap.proofs.DataLaws.{length_run, durations_from-run}
use Rattle.tap.proofs.ReaderLaws.{fillable-room, fill-begun, fill_step}
use Rattle.tap.proofs.reader.fill_group.Goals as goal

pub put_mapped-requires-clause-room : goal.put_mapped-requires-clause-room
put_mapped-requires-clause-room c =
    let run = durations_from-run c.args.bytes.now c.args.start.place c.group_end-end.result (omega arith) (omega arith) (sym c.no_zeros.ensures ∙ c.if-no_zeros.true) in
    let room = fillable-room c.args.bytes.now c.requires.fillable run in
    rw length-map at room

pub returns-then-no_zeros : goal.returns-then-no_zeros
returns-then-no_zeros c =
    let run = durations_from-run c.args.bytes.now c.args.start.place c.group_end-end.result (omega arith) (omega arith) (sym c.no_zeros.ensures ∙ c.if-no_zeros.true) in
    let width = length_run c.args.bytes.now c.args.start.place c.group_end-end.result (omega arith) (omega arith) in
    record { further = omega arith; filled = fill_step c.args.bytes.now (fill-begun c.args.bytes.now c.requires.fillable) run (c.put_mapped.ensures lone_cycles (λ b d q. search rules)) (ap (λ m. c.args.start.count + m) (sym width)) }
