-- Reading a block (document 01, 'Reading a block'), on the classes of a strip: rules 3 to 5. Rules 1 and 2 are those of `start`.
use Rattle.std.specs.Prelude.{ℕ, ◌+◌, ◌-◌, Bool, true, false, cond, not, ◌||◌, List, eqb, length, Result}
use Rattle.refusal.specs.declared.Refusal.{Refusal}
use Rattle.lists.specs.Places.{first_from, tabulate}
use Rattle.refusal.specs.declared.Causes.{Causes}
use Rattle.refusal.specs.declared.Reason.TheVariants.{WrongSize, WrongCountdown, LostByte, WrongChecksum}
use Rattle.refusal.specs.Outcome.{Outcome, accepted, refuse, refuse_there, refuse_first, if_room, outcome_of, and_then}
use Rattle.refusal.specs.Promise.{Answers, Fills, itself}
use Rattle.pulse.specs.declared.Class.{Class}
use Rattle.byte.specs.declared.ByteRead.{ByteRead}
use Rattle.byte.specs.declared.ByteRead.TheVariants.{Good, Bad}
use Rattle.byte.specs.Byte.{byte_at, is_good}
use Rattle.start.specs.Start.{find_start}
use Rattle.start.specs.Copies.{byte_place, copy_two, end_of, locate_copies}
use Rattle.block.specs.declared.Extent.{Extent}
use Rattle.block.specs.Block.{checksum, first_byte, wrong_size}

-- ---- Rule 3: the countdown

-- at countdown place i, copy one (from `one` on) or copy two (from `two` on) holds a good byte with its own expected value
unfoldable pub is_counted : (cs : List Class) (one two i : ℕ) → Bool
is_counted cs one two i = is_good (first_byte 0 - i) (byte_at cs (byte_place one i)) || is_good (first_byte 1 - i) (byte_at cs (byte_place two i))

abbrev pub is_miscounted : (cs : List Class) (one two i : ℕ) → Bool
is_miscounted cs one two i = not (is_counted cs one two i)

-- ---- Rule 4: the values

-- a place of a block: its value is copy one's, or it is copy two's, or it is lost, for a cause in each copy
pub data Place : Type 0 where
  FromOne : (value : ℕ) → Place
  FromTwo : (value : ℕ) → Place
  Lost : (causes : Causes) → Place

-- by the bytes of both copies: copy one's value where that byte is good, else copy two's
abbrev pub place_of : (one two : ByteRead) → Place
place_of (Good v) two = FromOne v
place_of (Bad cause) (Good v) = FromTwo v
place_of (Bad one) (Bad two) = Lost (record { one = one; two = two })

abbrev pub no_value : Place → Bool
no_value (FromOne v) = false
no_value (FromTwo v) = false
no_value (Lost causes) = true

-- a lost place stands as 0
abbrev pub place_value : Place → ℕ
place_value (FromOne v) = v
place_value (FromTwo v) = v
place_value (Lost causes) = 0

-- the causes of a lost place; of one with a value both stand as 0
abbrev pub causes_in : Place → Causes
causes_in (FromOne v) = record { one = 0; two = 0 }
causes_in (FromTwo v) = record { one = 0; two = 0 }
causes_in (Lost causes) = causes

-- payload place i, and place n for the checksum
unfoldable pub place_at : (cs : List Class) (one two i : ℕ) → Place
place_at cs one two i = place_of (byte_at cs (byte_place one (9 + i))) (byte_at cs (byte_place two (9 + i)))

abbrev pub is_lost : (cs : List Class) (one two i : ℕ) → Bool
is_lost cs one two i = no_value (place_at cs one two i)

abbrev pub value_at : (cs : List Class) (one two i : ℕ) → ℕ
value_at cs one two i = place_value (place_at cs one two i)

abbrev pub causes_at : (cs : List Class) (one two i : ℕ) → Causes
causes_at cs one two i = causes_in (place_at cs one two i)

-- the n payload values
abbrev pub values_at : (cs : List Class) (one two n : ℕ) → List ℕ
values_at cs one two n = tabulate (value_at cs one two) n 0

-- ---- Rule 5: the checksum

abbrev pub sum_holds : (cs : List Class) (one two n : ℕ) → Bool
sum_holds cs one two n = eqb (checksum (values_at cs one two n)) (value_at cs one two n)

-- ---- The whole block

-- what an accepted block gives: n, the start p and the end, which are answered, and the payload, which is put
pub record BlockRead : Type 0 where
  pub extent : Extent
  pub payload : List ℕ

abbrev pub extent_of : BlockRead → Extent
extent_of b = b.extent

abbrev pub payload_of : BlockRead → List ℕ
payload_of b = b.payload

-- the block with its start at p
abbrev pub block_at : (p n : ℕ) (payload : List ℕ) → BlockRead
block_at p n payload = record { extent = record { n = n; start = p; end = end_of p n }; payload = payload }

-- rules 3 to 5, for the start p: refusals 5, 6, 7 in this order, 6 with the causes of the first lost place
unfoldable pub read_copies : (cs : List Class) (p n : ℕ) → Outcome BlockRead
read_copies cs p n =
    refuse_first WrongCountdown (first_from (is_miscounted cs p (copy_two p n)) 9 0)
    (refuse_there (λ i. LostByte (causes_at cs p (copy_two p n) i)) (first_from (is_lost cs p (copy_two p n)) (n + 1) 0)
    (cond (sum_holds cs p (copy_two p n) n) (accepted (block_at p n (values_at cs p (copy_two p n) n)))
    (refuse WrongChecksum n)))

-- rules 2 to 5, for the start p: refusal 4 comes first
unfoldable pub read_at : (cs : List Class) (p n : ℕ) → Outcome BlockRead
read_at cs p n = and_then (locate_copies (length cs) p n) (λ copies. read_copies cs p n)

-- all five rules: refusal 3 where there is no start
unfoldable pub read_from : (cs : List Class) (from n : ℕ) → Outcome BlockRead
read_from cs from n = and_then (find_start cs from) (λ p. read_at cs p n)

-- the reader with `room` places for the payload: refusals 1 and 2 come first
unfoldable pub read_block : (cs : List Class) (room from n : ℕ) → Outcome BlockRead
read_block cs room from n =
    cond (wrong_size n) (refuse WrongSize 0)
    (if_room room n (read_from cs from n))

-- what a reader promises: it answers r and leaves out' in the buffer that held out, as the outcome says
abbrev pub BlockPromise : (o : Outcome BlockRead) (out : List ℕ) (r : Result Extent Refusal) (out' : List ℕ) → Type 0
BlockPromise o out r out' = Answers itself extent_of o (outcome_of r) × Fills payload_of o out out'
