-- `block::copies::BothCopies::check_countdown` meets its contract. The invariant: the search from place i on finds what the whole search finds.
use Rattle.std.proofs.Common.{◌≡◌}
use Rattle.lists.specs.Places.{first_from}
use Rattle.lists.proofs.LoopLaws.{first_left}
use Rattle.pulse.specs.Pulse.{classes}
use Rattle.block.specs.Reading.{is_miscounted}
use Rattle.block.proofs.copies.BothCopies.check_countdown.Given as goal

abbrev pub invariant-loop-i : goal.invariant-loop-i
invariant-loop-i l =
    first_left (is_miscounted (classes l.self.t l.self.strip.now) l.self.one l.self.two) 9 l.i ≡ first_from (is_miscounted (classes l.self.t l.self.strip.now) l.self.one l.self.two) 9 0
