-- `start::has_other` meets its contract. The invariant: of the pulses before there is another, or of the rest, exactly where there is one at all.
use mathlib.Core.Path.{◌≡◌}
use mathlib.Core.Bool.{◌||◌}
use lib.ListN.{length}
use Rattle.std.specs.Option.{is_some}
use Rattle.lists.specs.Places.{first_from}
use Rattle.lists.proofs.LoopLaws.{first_left}
use Rattle.pulse.specs.Pulse.{classes}
use Rattle.start.specs.private.Search.{not_short}
use Rattle.start.proofs.has_other.Given as goal

abbrev pub invariant-loop-pulse : goal.invariant-loop-pulse
invariant-loop-pulse l =
    (l.other || is_some (first_left (not_short (classes l.t l.pulses)) (length l.pulses) l.pulse-index)) ≡ is_some (first_from (not_short (classes l.t l.pulses)) (length l.pulses) 0)
