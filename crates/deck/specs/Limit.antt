-- The reading rule of a block, with its limit of bytes left open: the reader by pulses takes up to 65,534, the strip reader up to 8,192.
use Rattle.std.specs.Prelude.{ℕ, Bool, cond, ◌||◌, List, eqb, ltb}
use Rattle.refusal.specs.declared.Reason.TheVariants.{WrongSize}
use Rattle.refusal.specs.Outcome.{Outcome, refuse, if_room}
use Rattle.pulse.specs.declared.Class.{Class}
use Rattle.block.specs.Reading.{BlockRead, read_from}

-- n is 0 or over a limit
abbrev pub outside : (most n : ℕ) → Bool
outside most n = eqb n 0 || ltb most n

-- the reading rule for blocks of up to `most` payload bytes, with `room` places for them: refusals 1 and 2 come first
abbrev pub read_up_to : (most : ℕ) (cs : List Class) (room from n : ℕ) → Outcome BlockRead
read_up_to most cs room from n =
    cond (outside most n) (refuse WrongSize 0)
    (if_room room n (read_from cs from n))
