-- `start::past_shorts` meets its contract. The invariant: the search from i on finds what the whole search finds.
use Prim.Native.Nat.{◌-◌}
use mathlib.Core.Path.{◌≡◌}
use lib.ListN.{length}
use Rattle.lists.proofs.LoopLaws.{first_left}
use Rattle.pulse.specs.Pulse.{classes}
use Rattle.start.specs.private.Search.{not_short}
use Rattle.start.proofs.past_shorts.Given as goal

abbrev pub invariant-loop-t : goal.invariant-loop-t
invariant-loop-t l = first_left (not_short (classes l.t l.strip)) (length l.strip) l.i ≡ first_left (not_short (classes l.t l.strip)) (length l.strip) l.at

abbrev pub decreases-loop-t : goal.decreases-loop-t
decreases-loop-t l = length l.strip - l.i
