-- How many pulses have another class than they were written in (document 01, 'Damage').
use Rattle.std.specs.Prelude.{ℕ, ◌+◌, cond, List, [], ◌∷◌}
use Rattle.pulse.specs.declared.Class.{Class}
use Rattle.pulse.specs.Pulse.{same}

-- pulse against pulse, for two lists of one length
unfoldable pub differ : List Class → List Class → ℕ
differ [] ys = 0
differ (x ∷ xs) [] = 0
differ (x ∷ xs) (y ∷ ys) = cond (same x y) 0 1 + differ xs ys
