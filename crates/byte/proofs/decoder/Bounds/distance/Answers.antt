-- `byte::decoder::Bounds::distance` meets its contract: the wrapped difference is the only number below 2 ^ 32 that comes round to the pulse.
use Rattle.std.proofs.Common.{arith}
use Rattle.byte.specs.private.Frame.{distance_of}
use Rattle.byte.proofs.decoder.Bounds.distance.Goals as goal

pub returns : goal.returns
unfolding distance_of
returns c = omega arith
