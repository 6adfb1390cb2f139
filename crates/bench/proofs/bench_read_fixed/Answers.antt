-- `bench::bench_read_fixed` meets its contract: the thresholds that `tally` is lent are the fixed ones.
use Rattle.bench.proofs.bench_read_fixed.Goals as goal

pub returns : goal.returns
returns c = rw (← c.fixed.ensures) c.tally.ensures
