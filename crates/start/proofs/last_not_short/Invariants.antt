-- `start::last_not_short` meets its contract. The invariant: the first i of the sixteen pulses have the last one that is not short.
use mathlib.Core.Path.{◌≡◌}
use Rattle.pulse.specs.Pulse.{classes}
use Rattle.start.specs.private.Search.{not_short, last_from}
use Rattle.start.proofs.last_not_short.Given as goal

abbrev pub invariant-loop-i : goal.invariant-loop-i
invariant-loop-i l = last_from (not_short (classes l.t l.strip)) l.i l.at ≡ last_from (not_short (classes l.t l.strip)) 16 l.at
