-- Blocks as written (document 01, 'Blocks'), on the classes of pulses.
use Rattle.std.specs.Prelude.{ℕ, zero, suc, ◌+◌, ◌-◌, ◌*◌, Bool, cond, ◌||◌, List, [], ◌∷◌, ◌++◌, eqb, ltb, length, replicate}
use Rattle.std.specs.Int.Bits.{bit_xor}
use Rattle.lists.specs.Places.{tabulate}
use Rattle.refusal.specs.declared.Reason.TheVariants.{WrongSize, WrongLeader}
use Rattle.refusal.specs.Outcome.{Outcome, accepted, refuse, if_room, and_then}
use Rattle.pulse.specs.declared.Class.{Class}
use Rattle.pulse.specs.declared.Class.TheVariants.{Short, Long}
use Rattle.pulse.specs.Pulse.{pulses}
use Rattle.byte.specs.Byte.{bytes_classes}

-- ---- The layout

-- a value XORed with each byte in turn
unfoldable pub xor_from : (x : ℕ) (bytes : List ℕ) → ℕ
xor_from x [] = x
xor_from x (b ∷ bs) = xor_from (bit_xor x b) bs

-- $00 XORed with each payload byte
abbrev pub checksum : (payload : List ℕ) → ℕ
checksum payload = xor_from 0x00 payload

-- the first countdown byte of copy one, copy 0 here, and of copy two, copy 1
abbrev pub first_byte : (copy : ℕ) → ℕ
first_byte zero = 0x89
first_byte (suc copy) = 0x09

-- $89, $88 .. $81 in copy one; $09, $08 .. $01 in copy two
unfoldable pub countdown : (copy : ℕ) → List ℕ
countdown copy = tabulate (λ i. first_byte copy - i) 9 0

-- the n + 10 bytes of a copy: countdown, payload, checksum
unfoldable pub copy_bytes : (copy : ℕ) (payload : List ℕ) → List ℕ
copy_bytes copy payload = countdown copy ++ (payload ++ (checksum payload ∷ []))

unfoldable pub copy_classes : (copy : ℕ) (payload : List ℕ) → List Class
copy_classes copy payload = bytes_classes (copy_bytes copy payload)

-- one L and 60 S
unfoldable pub trailer : List Class
trailer = Long ∷ replicate 60 Short

-- a leader of k short pulses; copy one; one L and 60 S; copy two; one L and 60 S
unfoldable pub block_classes : (k : ℕ) (payload : List ℕ) → List Class
block_classes k payload = replicate k Short ++ (copy_classes 0 payload ++ (trailer ++ (copy_classes 1 payload ++ trailer)))

-- a block has K + 40(n + 10) + 122 pulses
abbrev pub block_length : (k n : ℕ) → ℕ
block_length k n = k + 40 * (n + 10) + 122

abbrev pub block_pulses : (k : ℕ) (payload : List ℕ) → List ℕ
block_pulses k payload = pulses (block_classes k payload)

-- ---- The writer

-- n is 0 or over 8,192
abbrev pub wrong_size : (n : ℕ) → Bool
wrong_size n = eqb n 0 || ltb 8192 n

-- K is under 64 or over 65,535
abbrev pub wrong_leader : (k : ℕ) → Bool
wrong_leader k = ltb k 64 || ltb 65535 k

-- how many pulses a block of n payload bytes has: refusals 1 and 14 in this order, else the number
unfoldable pub measure_block : (k n : ℕ) → Outcome ℕ
measure_block k n =
    cond (wrong_size n) (refuse WrongSize 0)
    (cond (wrong_leader k) (refuse WrongLeader 0)
    (accepted (block_length k n)))

-- what is written into `room` places: refusals 1 and 14, then 2, else the block
unfoldable pub write_block : (room k : ℕ) (payload : List ℕ) → Outcome (List ℕ)
write_block room k payload =
    and_then (measure_block k (length payload)) (λ count.
    if_room room count (accepted (block_pulses k payload)))
