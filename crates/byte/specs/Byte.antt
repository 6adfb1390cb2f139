-- Bytes (document 01, 'Bytes'), on the classes of pulses.
use Rattle.std.specs.Prelude.{ℕ, zero, suc, ◌+◌, ◌*◌, ◌/◌, ◌%◌, Bool, true, false, cond, not, ◌&&◌, ◌||◌, List, [], ◌∷◌, ◌++◌, length, ◌==◌, count_ones, nat_lt, slice_index_or, Option, None, Some}
use Rattle.lists.specs.Places.{first_from, tabulate, part}
use Rattle.refusal.specs.Outcome.{Outcome, accepted, if_room}
use Rattle.pulse.specs.declared.Class.{Class}
use Rattle.pulse.specs.declared.Class.TheVariants.{Short, Medium, Long, Noise}
use Rattle.pulse.specs.Pulse.{pulses, same}
use Rattle.byte.specs.declared.ByteRead.{ByteRead}
use Rattle.byte.specs.declared.ByteRead.TheVariants.{Good, Bad}

-- ---- As written

-- 0 is not odd, and each number is odd where the one before it is not
unfoldable pub is_odd : ℕ → Bool
is_odd zero = false
is_odd (suc n) = not (is_odd n)

-- the k lowest bits of v, lowest first
unfoldable pub bits : ℕ → ℕ → List ℕ
bits zero v = []
bits (suc k) v = v % 2 ∷ bits k (v / 2)

-- the ninth bit of a byte: with it the number of ones among the nine bits is odd
unfoldable pub parity_bit : ℕ → ℕ
parity_bit b = cond (is_odd (count_ones b)) 0 1

-- bits as pulses: 0 as S M and 1 as M S
unfoldable pub coded : List ℕ → List Class
coded [] = []
coded (zero ∷ ds) = Short ∷ Medium ∷ coded ds
coded (suc d ∷ ds) = Medium ∷ Short ∷ coded ds

-- the twenty pulses of a byte: the marker L M; eight bits, lowest first; the parity bit in the same coding
unfoldable pub byte_classes : ℕ → List Class
byte_classes b = Long ∷ Medium ∷ coded (bits 8 b ++ (parity_bit b ∷ []))

abbrev pub byte_pulses : ℕ → List ℕ
byte_pulses b = pulses (byte_classes b)

-- bytes one after the other
unfoldable pub bytes_classes : (bytes : List ℕ) → List Class
bytes_classes [] = []
bytes_classes (b ∷ bs) = byte_classes b ++ bytes_classes bs

abbrev pub bytes_pulses : (bytes : List ℕ) → List ℕ
bytes_pulses bytes = pulses (bytes_classes bytes)

-- bytes written into `room` places: refusal 2, else their pulses
unfoldable pub write_bytes : (room : ℕ) (bytes : List ℕ) → Outcome (List ℕ)
write_bytes room bytes = if_room room (length (bytes_pulses bytes)) (accepted (bytes_pulses bytes))

-- ---- As read

-- what two pulses are
pub record Pair : Type 0 where
  pub marker : Bool
  pub zero : Bool
  pub one : Bool

-- L M is the marker, S M is 0, M S is 1
unfoldable pub pair_of : Class → Class → Pair
pair_of a b = record {
  marker = same a Long && same b Medium;
  zero = same a Short && same b Medium;
  one = same a Medium && same b Short;
}

-- pair 0 has to be the marker, and each other pair a bit
abbrev pub is_sound : ℕ → Pair → Bool
is_sound i p = cond (i == 0) p.marker (p.zero || p.one)

-- the bit that a pair is, 0 where it is none
abbrev pub bit_of : Pair → ℕ
bit_of p = cond p.one 1 0

-- the two pulses from a place on; past the end there is only noise
unfoldable pub pair_at : List Class → ℕ → Pair
pair_at cs p = pair_of (slice_index_or cs p Noise) (slice_index_or cs (p + 1) Noise)

-- pair i of twenty pulses: 0 is the marker's, 1 to 8 are the bits', 9 is the parity bit's
abbrev pub nth_pair : List Class → ℕ → Pair
nth_pair ys i = pair_at ys (2 * i)

abbrev pub nth_bit : List Class → ℕ → ℕ
nth_bit ys i = bit_of (nth_pair ys i)

abbrev pub wrong_pair : List Class → ℕ → Bool
wrong_pair ys i = not (is_sound i (nth_pair ys i))

-- the number with these bits, lowest first
unfoldable pub value_of : List ℕ → ℕ
value_of [] = 0
value_of (d ∷ ds) = d + 2 * value_of ds

-- Good where no pair is wrong and the number of ones among the nine bits is odd. Bad otherwise, with the cause: the first wrong pair, or 10
-- where none is wrong and the number of ones is even.
abbrev pub checked : Option ℕ → ℕ → ℕ → ByteRead
checked None value parity = cond (is_odd (count_ones value + parity)) (Good value) (Bad 10)
checked (Some i) value parity = Bad i

-- what twenty pulses are
unfoldable pub byte_of : List Class → ByteRead
byte_of ys = checked (first_from (wrong_pair ys) 10 0) (value_of (tabulate (nth_bit ys) 8 1)) (nth_bit ys 9)

-- the value of a good byte; a bad one has none
abbrev pub value_in : ByteRead → Option ℕ
value_in (Good v) = Some v
value_in (Bad cause) = None

-- the value that the pulses of a frame have, all of them: one only where they are twenty
unfoldable pub read_frame : List Class → Option ℕ
read_frame ys = cond (length ys == 20) (value_in (byte_of ys)) None

-- the first wrong pair of twenty pulses, or 10 where none is wrong: the cause, where they are bad
abbrev pub or_ten : Option ℕ → ℕ
or_ten None = 10
or_ten (Some i) = i

unfoldable pub first_wrong : List Class → ℕ
first_wrong ys = or_ten (first_from (wrong_pair ys) 10 0)

-- the twenty pulses from a place of a strip on; fewer, where the strip ends before
abbrev pub twenty : List Class → ℕ → List Class
twenty cs p = part cs p 20

-- the byte at a place of a strip
unfoldable pub byte_at : List Class → ℕ → ByteRead
byte_at cs p = byte_of (twenty cs p)

-- two pulses are pair i of this byte as written; there are ten pairs
unfoldable pub pair_fits : (value i : ℕ) → Class → Class → Bool
pair_fits value i a b =
    nat_lt i 10 && same a (slice_index_or (byte_classes value) (2 * i) Noise) && same b (slice_index_or (byte_classes value) (2 * i + 1) Noise)

-- good, with this value
abbrev pub is_good : ℕ → ByteRead → Bool
is_good v (Good w) = w == v
is_good v (Bad cause) = false

-- bad, for whatever cause
abbrev pub is_bad : ByteRead → Bool
is_bad (Good v) = false
is_bad (Bad cause) = true

-- bad, for this cause
abbrev pub is_bad_by : ℕ → ByteRead → Bool
is_bad_by c (Good v) = false
is_bad_by c (Bad cause) = cause == c
