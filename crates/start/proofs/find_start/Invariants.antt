-- `start::find_start` meets its contract. The invariant of the search, and of its way to the next run of short pulses: no place before the
-- end of the sixteen pulses is a start. That of the look: the pairs passed are those of $89.
use Prim.Native.Nat.{ℕ, ◌-◌, ◌≤◌, ◌<◌}
use mathlib.Core.Path.{◌≡◌}
use mathlib.Core.Bool.{true}
use lib.ListN.{length}
use Rattle.pulse.specs.Pulse.{classes}
use Rattle.byte.proofs.Matching.{fits_at}
use Rattle.start.proofs.Searching.{Searching}
use Rattle.start.proofs.find_start.Given as goal

abbrev pub invariant-runs : goal.invariant-runs
invariant-runs l = (l.initial.at ≤ l.at) × Searching (classes l.t l.strip) l.from l.at

abbrev pub decreases-runs : goal.decreases-runs
decreases-runs l = length l.strip - l.at

abbrev pub invariant-loop-i : goal.invariant-loop-i
invariant-loop-i l = (j : ℕ) → j < l.i → fits_at (classes l.t l.strip) l.end 0x89 j ≡ true

abbrev pub invariant-search : goal.invariant-search
invariant-search l = Searching (classes l.t l.strip) l.from l.at

abbrev pub decreases-search : goal.decreases-search
decreases-search l = length l.strip - l.at
