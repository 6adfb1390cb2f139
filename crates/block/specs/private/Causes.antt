-- How the look counts bad bytes: a list with a number for each cause.
use Rattle.std.specs.Prelude.{ℕ, ◌+◌, List, get_or, set}
use Rattle.pulse.specs.declared.Class.{Class}
use Rattle.byte.specs.declared.ByteRead.{ByteRead}
use Rattle.byte.specs.declared.ByteRead.TheVariants.{Good, Bad}
use Rattle.byte.specs.Byte.{byte_at}
use Rattle.start.specs.Copies.{byte_place}

-- a byte more
abbrev pub with_byte : ByteRead → List ℕ → List ℕ
with_byte (Good v) counts = counts
with_byte (Bad cause) counts = set counts cause (get_or counts cause 0 + 1)

-- both copies' bytes at place i more
abbrev pub with_place : (cs : List Class) (one two i : ℕ) → List ℕ → List ℕ
with_place cs one two i counts = with_byte (byte_at cs (byte_place two (9 + i))) (with_byte (byte_at cs (byte_place one (9 + i))) counts)
