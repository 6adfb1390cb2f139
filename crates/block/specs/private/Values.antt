-- A byte that is known to be good: its value by the first pulses of its pairs.
use Rattle.std.specs.Prelude.{ℕ, ◌+◌, ◌*◌, ◌≤◌, ◌<◌, ◌≡◌, cond, List, leb, get_or}
use Rattle.lists.specs.Places.{tabulate}
use Rattle.pulse.specs.declared.Thresholds.{Thresholds}
use Rattle.byte.specs.Byte.{value_of}
use Rattle.start.specs.Copies.{byte_place}

-- the bit of pair i of the pulses from a place on: 1 where its first pulse is not below the medium threshold
abbrev pub lead_bit : (t : Thresholds) (strip : List ℕ) (at i : ℕ) → ℕ
lead_bit t strip at i = cond (leb t.medium.0 (get_or strip (at + 2 * i) 0)) 1 0

-- the number with the bits of pairs 1 to 8
unfoldable pub bits_at : (t : Thresholds) (strip : List ℕ) (at : ℕ) → ℕ
bits_at t strip at = value_of (tabulate (lead_bit t strip at) 8 1)

-- those of the byte at place i of a copy, after the countdown
abbrev pub bits_of : (t : Thresholds) (strip : List ℕ) (copy i : ℕ) → ℕ
bits_of t strip copy i = bits_at t strip (byte_place copy (9 + i))

-- a buffer holds these bits at the places from i to before n
abbrev pub HoldsBits : (t : Thresholds) (strip : List ℕ) (copy n : ℕ) (out : List ℕ) (i : ℕ) → Type 0
HoldsBits t strip copy n out i = (j : ℕ) → i ≤ j → j < n → get_or out j 0 ≡ bits_of t strip copy j
