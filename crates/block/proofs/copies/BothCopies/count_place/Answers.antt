-- `block::copies::BothCopies::count_place` meets its contract: both bytes are counted, and they decide which place it is.
use Rattle.block.specs.Reading.{place_at}
use Rattle.block.proofs.copies.BothCopies.count_place.Goals as goal

pub returns-clause-place : goal.returns-clause-place
unfolding place_at
returns-clause-place c = rw (← c.count_byte-first.ensures.byte, ← c.count_byte-second.ensures.byte) c.of.ensures
