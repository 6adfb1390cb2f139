-- `tap::reader::fill_each` meets its contract. The invariant: the durations left, put after those that are there, give the same.
use native.Mathlib.Omega.{arith}
use mathlib.Core.Path.{refl, ap, ◌∙◌}
use mathlib.Core.List.{[], ◌∷◌}
use lib.Seq.{sets}
use Rattle.tap.proofs.DataLaws.{durations_from-byte, durations_from-long}
use Rattle.tap.proofs.ReaderLaws.{sound-long, fillable-more, fill_step, fill-length}
use Rattle.tap.proofs.reader.fill_each.Goals as goal
use Rattle.tap.proofs.reader.fill_each.Goals.{then-first-ne0, else-first-ne0}

pub bounds-out-k : goal.bounds-out-k
bounds-out-k c =
    let room = fillable-more c.args.bytes.now c.loop-i.invariant.1.fillable (omega arith) in
    omega (arith, fill-length c.args.bytes.now c.loop-i.invariant.1)

pub long_cycles-requires : goal.long_cycles-requires
long_cycles-requires c =
    sound-long c.args.bytes.now c.loop-i.i (omega arith) c.loop-i.invariant.1.fillable.sound c.if-first-ne0.false

pub bounds-out-k-else-first-ne0 : goal.bounds-out-k-else-first-ne0
bounds-out-k-else-first-ne0 c =
    let room = fillable-more c.args.bytes.now c.loop-i.invariant.1.fillable (omega arith) in
    omega (arith, fill-length c.args.bytes.now c.loop-i.invariant.1)

pub loop-i-preserved : goal.loop-i-preserved
loop-i-preserved c =
    elim c.if-first-ne0.branch [
      | then-first-ne0 w ↦
          let put = w.out-is ∙ ap (λ d. sets c.loop-i.out c.loop-i.k (d ∷ [])) w.byte_cycles.ensures in
          rw w.i-is
          (omega arith, fill_step c.args.bytes.now c.loop-i.invariant.1 (durations_from-byte c.args.bytes.now c.loop-i.i (omega arith) w.if-first-ne0.true) put refl)
      | else-first-ne0 w ↦
          let long = sound-long c.args.bytes.now c.loop-i.i (omega arith) c.loop-i.invariant.1.fillable.sound w.if-first-ne0.false in
          let put = w.out-is ∙ ap (λ d. sets c.loop-i.out c.loop-i.k (d ∷ [])) w.long_cycles.ensures in
          rw w.i-is
          (omega arith, fill_step c.args.bytes.now c.loop-i.invariant.1 (durations_from-long c.args.bytes.now c.loop-i.i w.if-first-ne0.false long) put refl)
    ]
