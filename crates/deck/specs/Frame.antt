-- A frame that is read pulse by pulse: what its pulses come to so far, and the byte that it is after twenty.
use Rattle.std.specs.Prelude.{ℕ, zero, suc, ◌+◌, ◌*◌, ◌/◌, ◌%◌, Bool, cond, not, ◌&&◌, eqb, ltb}
use Rattle.std.specs.Int.Count.{ones}
use Rattle.pulse.specs.declared.Class.{Class}
use Rattle.pulse.specs.declared.Class.TheVariants.{Short, Medium, Long, Noise}
use Rattle.pulse.specs.Pulse.{code}
use Rattle.byte.specs.declared.ByteRead.{ByteRead}
use Rattle.byte.specs.declared.ByteRead.TheVariants.{Good, Bad}
use Rattle.byte.specs.Byte.{Pair, is_odd, pair_of, is_sound, bit_of}
use Rattle.deck.specs.declared.Frame.{Frame}

-- the class with this number; what is no class's number stands for noise
abbrev pub class_named : ℕ → Class
class_named zero = Short
class_named (suc zero) = Medium
class_named (suc (suc zero)) = Long
class_named (suc (suc (suc number))) = Noise

abbrev pub frame_of : (bits last wrong : ℕ) → Frame
frame_of bits last wrong = record { bits = bits; last = last; wrong = wrong }

-- no pulse is in; there are ten pairs, so 10 stands for no wrong one
abbrev pub fresh : Frame
fresh = frame_of 0 0 10

-- the first of the places that fail: the one so far, or place i, if that fails and is before it
unfoldable pub earlier : (first i : ℕ) (fails : Bool) → ℕ
earlier first i fails = cond (fails && ltb i first) i first

-- a bit comes in from the top, above eight others; what was lowest falls out
unfoldable pub with_bit : (bits bit : ℕ) → ℕ
with_bit bits bit = bits / 2 + 256 * bit

-- pair i is whole with a pulse of class c
abbrev pub take_pair : (i : ℕ) → Pair → Frame → Class → Frame
take_pair i pair f c = frame_of (with_bit f.bits (bit_of pair)) (code c) (earlier f.wrong i (not (is_sound i pair)))

-- a pulse of class c, after as many as were heard before: the first of a pair, or the second
unfoldable pub take_pulse : (heard : ℕ) → Frame → Class → Frame
take_pulse heard f c =
    cond (eqb (heard % 2) 0) (frame_of f.bits (code c) f.wrong)
    (take_pair (heard / 2) (pair_of (class_named f.last) c) f c)

-- the byte, after twenty: good where no pair is wrong and the number of ones among the nine bits is odd
unfoldable pub closed : Frame → ByteRead
closed f =
    let value = f.bits % 256 in
    let parity = f.bits / 256 in
    cond (eqb f.wrong 10 && is_odd (ones value + parity)) (Good value) (Bad f.wrong)
