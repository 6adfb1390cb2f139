-- What holds of the causes that the file reader tells (document 02, Q-6).
use Rattle.std.specs.Prelude.{ℕ, ◌≡◌, ◌⊎◌, List, None}
use Rattle.refusal.specs.Refusal.{Why}
use Rattle.refusal.specs.Outcome.{refused, accepted}
use Rattle.pulse.specs.declared.Class.{Class}
use Rattle.block.specs.Reading.{BlockRead, read_from}
use Rattle.block.specs.Claim.{LostTold}
use Rattle.header.specs.Header.{fields_of}
use Rattle.file.specs.File.{data_bytes}
use Rattle.file.specs.Reading.{read_file}

-- the data block of a header that was read from a place on tells why its bytes are bad
pub record DataLost (cs : List Class) (from : ℕ) (why : Why) : Type 0 where
  pub header : BlockRead
  pub read : read_from cs from 192 ≡ accepted header
  pub told : LostTold cs header.extent.end (data_bytes (fields_of header.payload)) why

pub record FileCauses : Type 0 where
  -- Refusal 6 names block 0 or block 1, and tells the causes of the two bytes at its place, in the header or in the data block after it.
  pub blocks : (cs : List Class) (h b from : ℕ) (why : Why) → read_file cs h b from ≡ refused why → why.number ≡ 6 → (why.block ≡ 0) ⊎ (why.block ≡ 1)
  pub first : (cs : List Class) (h b from : ℕ) (why : Why) → read_file cs h b from ≡ refused why → why.number ≡ 6 → why.block ≡ 0 → LostTold cs from 192 why
  pub second : (cs : List Class) (h b from : ℕ) (why : Why) → read_file cs h b from ≡ refused why → why.number ≡ 6 → why.block ≡ 1 → DataLost cs from why
  -- No other refusal of it has causes.
  pub others : (cs : List Class) (h b from : ℕ) (why : Why) → read_file cs h b from ≡ refused why → (why.number ≡ 6 → ⊥) → why.causes ≡ None
