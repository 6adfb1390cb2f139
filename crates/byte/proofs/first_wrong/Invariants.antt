-- `byte::first_wrong` meets its contract. The invariant: the search from pair i on finds what the whole search finds.
use Rattle.std.proofs.Common.{◌≡◌}
use Rattle.lists.specs.Places.{first_from}
use Rattle.lists.proofs.LoopLaws.{first_left}
use Rattle.pulse.specs.Pulse.{classes}
use Rattle.byte.specs.Byte.{wrong_pair}
use Rattle.byte.proofs.first_wrong.Given as goal

abbrev pub invariant-loop-i : goal.invariant-loop-i
invariant-loop-i l = first_left (wrong_pair (classes l.t l.frame)) 10 l.i ≡ first_from (wrong_pair (classes l.t l.frame)) 10 0
