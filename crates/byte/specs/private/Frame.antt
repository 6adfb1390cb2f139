-- How a frame is read at once: by the distances of its pulses above the short threshold.
use Rattle.std.specs.Prelude.{ℕ, ◌+◌, ◌-◌, ◌*◌, ◌/◌, ◌%◌, ◌^◌, Bool, cond, ◌&&◌, ◌==◌, count_ones, nat_lt, Option, None, Some}
use Rattle.pulse.specs.declared.Thresholds.{Thresholds}
use Rattle.pulse.specs.declared.Class.{Class}
use Rattle.pulse.specs.declared.Class.TheVariants.{Short, Medium, Long, Noise}
use Rattle.pulse.specs.Pulse.{cycles}
use Rattle.byte.specs.declared.decoder.Bounds.{Bounds}
use Rattle.byte.specs.Byte.{is_odd, parity_bit}

-- the distances of the thresholds; long, if it lies below medium, is as far as medium
unfoldable pub bounds_of : Thresholds → Bounds
bounds_of t =
    let medium = t.medium.0 - t.short.0 in
    let long = t.long.0 - t.short.0 in
    record { short = t.short; medium = cycles medium; long = cycles (cond (nat_lt medium long) long medium); noise = cycles (t.noise.0 - t.short.0) }

-- how far a pulse is above the short threshold; one below it comes round from 2 ^ 32
unfoldable pub distance_of : Bounds → (pulse : ℕ) → ℕ
distance_of b pulse = (pulse + (2 ^ 32 - b.short.0)) % 2 ^ 32

-- the class of a pulse, by its distance
unfoldable pub class_in : Bounds → (pulse : ℕ) → Class
class_in b pulse =
    cond (nat_lt (distance_of b pulse) b.long.0)
    (cond (nat_lt (distance_of b pulse) b.medium.0) Short Medium)
    (cond (nat_lt (distance_of b pulse) b.noise.0) Long Noise)

-- the value by the word and whether all is sound that the word does not show: its first half has the value and then the parity bit
unfoldable pub closed : (word : ℕ) (sound : Bool) → Option ℕ
closed word sound =
    let first = word % 65536 / 2 in
    let second = word / 65536 / 2 in
    let value = first % 256 in
    cond ((first + second == 511 && is_odd (count_ones value + first / 256)) && sound) (Some value) None

-- ---- A byte whose value is known: what `pair_fits` looks for

-- its bits, each at the place of its pair: the value at places 1 to 8, the parity bit at 9
unfoldable pub code_of : (value : ℕ) → ℕ
code_of v = 2 * (v + 256 * parity_bit v)
