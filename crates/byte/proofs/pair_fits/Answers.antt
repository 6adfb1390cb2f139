-- `byte::pair_fits` meets its contract, case by case: past the pairs, the marker, a 0, a 1.
use Rattle.std.proofs.Common.{arith}
use Rattle.byte.proofs.Matching.{pair_fits-past, pair_fits-marker, pair_fits-zero, pair_fits-one}
use Rattle.byte.specs.Byte.{pair_of}
use Rattle.byte.proofs.pair_fits.Goals as goal

pub returns-then-i-ge-PAIRS : goal.returns-then-i-ge-PAIRS
returns-then-i-ge-PAIRS c = pair_fits-past _ _ _ _ (omega arith)

pub returns-then-i-eq0 : goal.returns-then-i-eq0
unfolding pair_of
returns-then-i-eq0 c =
    rw c.is_marker.ensures (pair_fits-marker c.args.value _ _ c.args.i c.if-i-eq0.true)

pub returns-then-code_of-i-eq0 : goal.returns-then-code_of-i-eq0
unfolding pair_of
returns-then-code_of-i-eq0 c =
    rw c.is_zero.ensures
    (pair_fits-zero c.args.value _ _ (omega arith) c.args.i c.if-i-eq0.false (omega arith) (rw c.code_of.ensures at c.if-code_of-i-eq0.true))

pub returns : goal.returns
unfolding pair_of
returns c =
    rw c.is_one.ensures
    (pair_fits-one c.args.value _ _ (omega arith) c.args.i c.if-i-eq0.false (omega arith) (rw c.code_of.ensures at c.if-code_of-i-eq0.false))
