-- `block::copies::BothCopies::look` meets its contract: the answer and the counts, by what its parts found.
use Rattle.std.proofs.Common.{refl}
use Rattle.pulse.specs.Pulse.{classes}
use Rattle.block.proofs.Looks.{look-copied}
use Rattle.block.proofs.copies.BothCopies.look.Goals as goal

pub returns : goal.returns
returns c =
    rw (c.and-2.ensures, c.and.ensures, c.extent-extent.ensures)
    (look-copied (classes c.args.self.now.t c.args.self.now.strip.now) c.args.self.now.one c.args.self.now.n c.args.self.now.two _ _ _
    c.args.self.now.within.0 refl c.check_countdown-countdown.ensures c.count_places-counted.ensures.check c.count_places-counted.ensures.tally)
