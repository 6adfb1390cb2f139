-- The working buffer: place i of copy one stands at bytes 2i and 2i + 1, its value and 0, or 0 and its cause plus 1.
use Rattle.std.specs.Prelude.{ℕ, zero, suc, ◌+◌, ◌*◌, Bool, ◌&&◌, List, leb, get_or, set}
use Rattle.lists.specs.Places.{tabulate}
use Rattle.byte.specs.declared.ByteRead.{ByteRead}
use Rattle.byte.specs.declared.ByteRead.TheVariants.{Good, Bad}

-- a working buffer and an output of these lengths have room for the n + 10 places of a copy, and for n payload bytes
abbrev pub fits : (n work out : ℕ) → Bool
fits n work out = leb (2 * (n + 10)) work && leb n out

-- the two bytes that stand for a byte of a copy
abbrev pub value_byte : ByteRead → ℕ
value_byte (Good v) = v
value_byte (Bad cause) = 0

abbrev pub cause_byte : ByteRead → ℕ
cause_byte (Good v) = 0
cause_byte (Bad cause) = cause + 1

unfoldable pub put_byte : (work : List ℕ) (i : ℕ) → ByteRead → List ℕ
put_byte work i r = set (set work (2 * i) (value_byte r)) (2 * i + 1) (cause_byte r)

-- the byte that two bytes stand for
abbrev pub byte_by : (value cause : ℕ) → ByteRead
byte_by value zero = Good value
byte_by value (suc cause) = Bad cause

unfoldable pub get_byte : (work : List ℕ) (i : ℕ) → ByteRead
get_byte work i = byte_by (get_or work (2 * i) 0) (get_or work (2 * i + 1) 0)

-- the values of the n payload places, which come after the nine of the countdown
unfoldable pub payload_in : (n : ℕ) (work : List ℕ) → List ℕ
payload_in n work = tabulate (λ i. get_or work (2 * (9 + i)) 0) n 0
