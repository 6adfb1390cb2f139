-- `tap::groups::zeros_in` meets its contract. The invariant: where no zero byte was found in the three bytes after another, the forms up to the place are known.
use native.Mathlib.Omega.{arith}
use lib.Dec.{eqb}
use lib.ListN.{get_or}
use Rattle.lists.proofs.BoolLaws.{and-true}
use Rattle.tap.proofs.ApartLaws.{flag-le, apart_next}
use Rattle.tap.proofs.groups.zeros_in.Goals as goal

pub loop-i-preserved : goal.loop-i-preserved
loop-i-preserved c =
    let flag = flag-le (eqb (get_or c.args.bytes.now c.loop-i.i 0) 0) in
    rw c.from-count.ensures (
      omega arith,
      λ t.
          let both = and-true c.loop-i.apart _ t in
          apart_next c.args.bytes.now c.args.start (c.loop-i.invariant.1 both.0) (omega arith) (omega arith) both.1,
    )
