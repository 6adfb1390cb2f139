-- Copy two against copy one, place by place (document 01, 'Reading a block', rules 3 to 5).
use Rattle.std.specs.Prelude.{ℕ, ◌+◌, ◌-◌, cond, not, ◌||◌, List, eqb, leb, ltb}
use Rattle.std.specs.Int.Bits.{bit_xor}
use Rattle.lists.specs.Buffer.{put_at}
use Rattle.byte.specs.declared.ByteRead.{ByteRead}
use Rattle.byte.specs.declared.ByteRead.TheVariants.{Good}
use Rattle.byte.specs.Byte.{is_good}
use Rattle.refusal.specs.declared.Causes.{Causes}
use Rattle.block.specs.Block.{first_byte}
use Rattle.block.specs.Reading.{Place, FromOne, FromTwo, Lost, place_of}
use Rattle.deck.specs.declared.Checks.{Checks}
use Rattle.deck.specs.Frame.{earlier}
use Rattle.deck.specs.Work.{put_byte, payload_in}

abbrev pub checks_of : (lost failed sum one two : ℕ) → Checks
checks_of lost failed sum one two = record { lost = lost; failed = failed; sum = sum; one = one; two = two }

-- nothing has failed: there are nine countdown places, and n + 1 others
abbrev pub no_checks : (n : ℕ) → Checks
no_checks n = checks_of (n + 1) 9 0 0 0

-- countdown place i, with these bytes of copy one and copy two
abbrev pub check_countdown : (i : ℕ) (one two : ByteRead) → Checks → Checks
check_countdown i one two c =
    checks_of c.lost (earlier c.failed i (not (is_good (first_byte 0 - i) one || is_good (first_byte 1 - i) two))) c.sum c.one c.two

-- the value of place i; that of place n is the checksum, and is not summed
abbrev pub add_value : (n i value : ℕ) → Checks → Checks
add_value n i value c = checks_of c.lost c.failed (cond (ltb i n) (bit_xor c.sum value) c.sum) c.one c.two

-- place i is lost, for these causes: the first is kept
abbrev pub add_lost : (i : ℕ) → Causes → Checks → Checks
add_lost i causes c = cond (ltb i c.lost) (checks_of i c.failed c.sum causes.one causes.two) c

abbrev pub check_place : (n i : ℕ) → Place → Checks → Checks
check_place n i (FromOne v) c = add_value n i v c
check_place n i (FromTwo v) c = add_value n i v c
check_place n i (Lost causes) c = add_lost i causes c

-- byte place i of a copy: a countdown place, or place i - 9
unfoldable pub check_byte : (n i : ℕ) (one two : ByteRead) → Checks → Checks
check_byte n i one two c = cond (ltb i 9) (check_countdown i one two c) (check_place n (i - 9) (place_of one two) c)

-- a good byte of copy two replaces a bad one
abbrev pub mended : (work : List ℕ) (i : ℕ) → Place → List ℕ
mended work i (FromOne v) = work
mended work i (FromTwo v) = put_byte work i (Good v)
mended work i (Lost causes) = work

-- but at no countdown place
unfoldable pub mend_byte : (work : List ℕ) (i : ℕ) (one two : ByteRead) → List ℕ
mend_byte work i one two = cond (ltb i 9) work (mended work i (place_of one two))

-- the answer after the last place, which holds the checksum: refusal 5, 6 or 7, or 0
unfoldable pub answer_by : (n checksum : ℕ) → Checks → ℕ
answer_by n checksum c =
    cond (ltb c.failed 9) 5
    (cond (leb c.lost n) 6
    (cond (eqb c.sum checksum) 0 7))

-- the output: filled where the block is accepted
unfoldable pub filled : (n answer : ℕ) (work out : List ℕ) → List ℕ
filled n answer work out = cond (eqb answer 0) (put_at out 0 (payload_in n work)) out
