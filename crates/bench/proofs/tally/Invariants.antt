-- `bench::tally` meets its contract. The loop's invariant: the tally so far, with the frames that are left, gives the whole.
use mathlib.Core.Path.{◌≡◌}
use Rattle.std.specs.Slice.Iter.{chunks_exact_rest, chunks_exact_size}
use Rattle.bench.proofs.TallyLaws.{Tallied}
use Rattle.bench.proofs.tally.Given as goal

abbrev pub invariant-loop-frame : goal.invariant-loop-frame
invariant-loop-frame l =
    (chunks_exact_size l.frame-iterator ≡ 20) × Tallied l.t l.pulses (chunks_exact_rest l.frame-iterator) (record { good = l.good; xor = l.xor })
