-- `byte::decoder::Bounds::new` meets its contract.
use Rattle.byte.proofs.FrameLaws.{bounds-are}
use Rattle.byte.proofs.decoder.Bounds.new.Goals as goal

pub returns : goal.returns
returns c = bounds-are c.args.t c.saturating_sub-medium.ensures c.saturating_sub-long.ensures c.max.ensures c.saturating_sub-noise.ensures
