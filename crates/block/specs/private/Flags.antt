-- A row of flags, eight to a byte, lowest first.
use Rattle.std.specs.Prelude.{ℕ, ◌/◌, ◌%◌, ◌^◌, Bool, List, eqb, get_or, set}
use Rattle.std.specs.Int.Bits.{bit_or}

-- whether flag i is raised
unfoldable pub flag_at : (row : List ℕ) (i : ℕ) → Bool
flag_at row i = eqb (get_or row (i / 8) 0 / 2 ^ (i % 8) % 2) 1

-- the row with flag i raised; past its end there is none to raise
unfoldable pub raised : (row : List ℕ) (i : ℕ) → List ℕ
raised row i = set row (i / 8) (bit_or (get_or row (i / 8) 0) (2 ^ (i % 8)))

-- the group of place i; a group has sixteen places
abbrev pub group_of : (i : ℕ) → ℕ
group_of i = i / 16
