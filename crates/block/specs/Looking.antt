-- Looking at a block whose start is known: what rules 2 to 5 answer, where the value of each place comes from, and which bytes are bad. Nothing
-- is put.
use Rattle.std.specs.Prelude.{ℕ, ◌+◌, Bool, true, false, cond, List, [], ◌∷◌, ltb, length, get_or, Result, Err, Ok}
use Rattle.refusal.specs.declared.Refusal.{Refusal}
use Rattle.lists.specs.Places.{count_below}
use Rattle.refusal.specs.declared.Reason.TheVariants.{WrongSize}
use Rattle.refusal.specs.Outcome.{Outcome, refused, accepted, refuse, refused_with, mapped, outcome_of}
use Rattle.pulse.specs.declared.Class.{Class}
use Rattle.byte.specs.Byte.{byte_at, is_bad_by}
use Rattle.start.specs.declared.Copies.{Copies}
use Rattle.start.specs.Copies.{byte_place, copy_two, locate_copies}
use Rattle.block.specs.declared.Extent.{Extent}
use Rattle.block.specs.declared.ByCause.{ByCause}
use Rattle.block.specs.declared.Tally.{Tally}
use Rattle.block.specs.declared.Look.{Look}
use Rattle.block.specs.declared.PlaceRead.{PlaceRead}
use Rattle.block.specs.declared.PlaceRead.TheVariants.{One, Two, Neither}
use Rattle.block.specs.Block.{wrong_size}
use Rattle.block.specs.Reading.{Place, FromOne, FromTwo, Lost, no_value, place_at, extent_of, read_copies}

-- ---- Where the values come from

abbrev pub is_from_one : Place → Bool
is_from_one (FromOne v) = true
is_from_one (FromTwo v) = false
is_from_one (Lost causes) = false

abbrev pub is_from_two : Place → Bool
is_from_two (FromOne v) = false
is_from_two (FromTwo v) = true
is_from_two (Lost causes) = false

-- how many of the places 0 to n, the checksum's among them, pass a test
abbrev pub places_from : (Place → Bool) → (cs : List Class) (one two n : ℕ) → ℕ
places_from test cs one two n = count_below (λ i. test (place_at cs one two i)) (n + 1)

-- a number for each cause
abbrev pub each_cause : (number : (cause : ℕ) → ℕ) → ByCause
each_cause number = record {
  marker = number 0;
  bit0 = number 1;
  bit1 = number 2;
  bit2 = number 3;
  bit3 = number 4;
  bit4 = number 5;
  bit5 = number 6;
  bit6 = number 7;
  bit7 = number 8;
  parity = number 9;
  ones = number 10;
}

-- the numbers in the order of the causes, and the number for one; for what is no cause it is 0
abbrev pub cause_numbers : ByCause → List ℕ
cause_numbers b = b.marker ∷ b.bit0 ∷ b.bit1 ∷ b.bit2 ∷ b.bit3 ∷ b.bit4 ∷ b.bit5 ∷ b.bit6 ∷ b.bit7 ∷ b.parity ∷ b.ones ∷ []

abbrev pub for_cause : (cause : ℕ) → ByCause → ℕ
for_cause cause b = get_or (cause_numbers b) cause 0

-- how many of the bytes at places 0 to n of a copy are bad for a cause
abbrev pub bad_by : (cause : ℕ) (cs : List Class) (copy n : ℕ) → ℕ
bad_by cause cs copy n = count_below (λ i. is_bad_by cause (byte_at cs (byte_place copy (9 + i)))) (n + 1)

-- taken from copy one, taken from copy two, lost; and the bad bytes of both copies together, by their causes
unfoldable pub tally_of : (cs : List Class) (one two n : ℕ) → Tally
tally_of cs one two n = record {
  one = places_from is_from_one cs one two n;
  two = places_from is_from_two cs one two n;
  lost = places_from no_value cs one two n;
  bad = each_cause (λ cause. bad_by cause cs one n + bad_by cause cs two n);
}

abbrev pub no_bad : ByCause
no_bad = each_cause (λ _. 0)

abbrev pub no_tally : Tally
no_tally = record { one = 0; two = 0; lost = 0; bad = no_bad }

-- all places that were counted
abbrev pub counted : Tally → ℕ
counted t = t.one + t.two + t.lost

-- ---- The look

-- what is answered, and the counts
pub record Looked : Type 0 where
  pub outcome : Outcome Extent
  pub tally : Tally

-- by where the copies lie: a refusal with nothing counted, or what rules 3 to 5 answer with all places counted
abbrev pub looked_at : Outcome Copies → (cs : List Class) (p n : ℕ) → Looked
looked_at (refused why) cs p n = record { outcome = refused why; tally = no_tally }
looked_at (accepted copies) cs p n = record { outcome = mapped extent_of (read_copies cs p n); tally = tally_of cs p (copy_two p n) n }

-- where the copies lie, on a strip of that many pulses: refusals 1 and 4 in this order
unfoldable pub copies_at : (count p n : ℕ) → Outcome Copies
copies_at count p n = cond (wrong_size n) (refuse WrongSize 0) (locate_copies count p n)

-- a block of n payload bytes with its start at p
unfoldable pub look_at : (cs : List Class) (p n : ℕ) → Looked
look_at cs p n = looked_at (copies_at (length cs) p n) cs p n

-- what is told
abbrev pub look_answer : Look → Looked
look_answer l = record { outcome = outcome_of l.answer; tally = l.tally }

-- ---- One place

-- place i of such a block: refusal 1 also where i is above n, then 4
unfoldable pub read_place : (cs : List Class) (p n i : ℕ) → Outcome Place
read_place cs p n i =
    cond (ltb n i) (refuse WrongSize 0)
    (mapped (λ copies. place_at cs p (copy_two p n) i) (copies_at (length cs) p n))

-- the place that was read
abbrev pub place_read : PlaceRead → Place
place_read (One v) = FromOne v
place_read (Two v) = FromTwo v
place_read (Neither causes) = Lost causes

-- what is answered
abbrev pub place_answer : Result PlaceRead Refusal → Outcome Place
place_answer (Ok read) = accepted (place_read read)
place_answer (Err r) = refused_with r
