-- The table that `write_bytes` works with: a quarter is two of a byte's eight bits.
use Rattle.std.specs.Prelude.{ℕ, zero, suc, List, [], ◌∷◌}
use Rattle.pulse.specs.Pulse.{pulses}
use Rattle.byte.specs.Byte.{bits, coded}

-- the pulses of the two lowest bits of n
abbrev pub quarter : (n : ℕ) → List ℕ
quarter n = pulses (coded (bits 2 n))

-- those of at, at + 1 .. at + count - 1
unfoldable pub quarters_from : (count at : ℕ) → List (List ℕ)
quarters_from zero at = []
quarters_from (suc count) at = quarter at ∷ quarters_from count (suc at)

abbrev pub quarters : List (List ℕ)
quarters = quarters_from 4 0
