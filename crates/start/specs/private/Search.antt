-- What the private functions of the search for a start come to. No promise to a caller cites this.
use Rattle.std.specs.Prelude.{ℕ, zero, suc, ◌+◌, Bool, cond, not, List, get_or, Option, None, Some}
use Rattle.pulse.specs.declared.Class.{Class}
use Rattle.pulse.specs.declared.Class.TheVariants.{Short, Noise}
use Rattle.pulse.specs.Pulse.{same}

-- the pulse at a place is not short
abbrev pub not_short : (cs : List Class) (i : ℕ) → Bool
not_short cs i = not (same (get_or cs i Noise) Short)

-- the largest of at, at + 1 .. at + count - 1 that passes the test
unfoldable pub last_from : (ℕ → Bool) → ℕ → ℕ → Option ℕ
last_from f zero at = None
last_from f (suc count) at = let earlier = last_from f count at in cond (f (at + count)) (Some (at + count)) earlier
