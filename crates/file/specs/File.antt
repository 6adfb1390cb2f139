-- Program files as written (document 01, 'Headers and program files').
use Rattle.std.specs.Prelude.{ℕ, ◌+◌, ◌-◌, Bool, cond, not, ◌||◌, List, ◌++◌, eqb, leb, ltb, length}
use Rattle.refusal.specs.declared.Reason.TheVariants.{WrongSize, WrongType, WrongAddresses, WrongLeader}
use Rattle.refusal.specs.Outcome.{Outcome, accepted, refuse, if_room, and_then, of_block}
use Rattle.block.specs.Block.{block_pulses, wrong_leader}
use Rattle.header.specs.declared.Fields.{Fields}
use Rattle.header.specs.Header.{header_bytes, wrong_name}

-- ---- The layout

-- what the file writer is lent: type and addresses, the name, the bytes, and a leader for each of the two blocks
pub record File : Type 0 where
  pub fields : Fields
  pub name : List ℕ
  pub bytes : List ℕ
  pub leader₀ : ℕ
  pub leader₁ : ℕ

abbrev pub file : (fields : Fields) (name bytes : List ℕ) (leader₀ leader₁ : ℕ) → File
file fields name bytes leader₀ leader₁ = record { fields = fields; name = name; bytes = bytes; leader₀ = leader₀; leader₁ = leader₁ }

abbrev pub file_header : File → List ℕ
file_header f = header_bytes f.fields f.name

abbrev pub header_pulses : File → List ℕ
header_pulses f = block_pulses f.leader₀ (file_header f)

abbrev pub data_pulses : File → List ℕ
data_pulses f = block_pulses f.leader₁ f.bytes

-- a header block and then a data block, each with a leader of its own
abbrev pub two_blocks : (k₀ : ℕ) (header : List ℕ) (k₁ : ℕ) (bytes : List ℕ) → List ℕ
two_blocks k₀ header k₁ bytes = block_pulses k₀ header ++ block_pulses k₁ bytes

abbrev pub file_pulses : File → List ℕ
file_pulses f = two_blocks f.leader₀ (file_header f) f.leader₁ f.bytes

-- ---- What is refused

-- the type is not 1 or 3
abbrev pub not_program : (kind : ℕ) → Bool
not_program kind = not (eqb kind 1 || eqb kind 3)

-- end is not above start, or is over 8,192 above it
abbrev pub wrong_addresses : Fields → Bool
wrong_addresses f = leb f.end f.start || ltb (f.start + 8192) f.end

-- the data block has end minus start bytes
abbrev pub data_bytes : Fields → ℕ
data_bytes f = f.end - f.start

-- how many bytes the data block of a program file has: refusals 8 and 9 in this order, else end minus start
unfoldable pub measure_data : Fields → Outcome ℕ
measure_data f =
    cond (not_program f.kind) (refuse WrongType 0)
    (cond (wrong_addresses f) (refuse WrongAddresses 0)
    (accepted (data_bytes f)))

-- ---- The writer

-- the two blocks into `room` places: refusal 14 for block 0, then for block 1, then 2
unfoldable pub write_blocks : (room k₀ : ℕ) (header : List ℕ) (k₁ : ℕ) (bytes : List ℕ) → Outcome (List ℕ)
write_blocks room k₀ header k₁ bytes =
    cond (wrong_leader k₀) (refuse WrongLeader 0)
    (cond (wrong_leader k₁) (of_block 1 (refuse WrongLeader 0))
    (if_room room (length (two_blocks k₀ header k₁ bytes)) (accepted (two_blocks k₀ header k₁ bytes))))

-- a program with this header into `room` places: refusals 8 and 9, 9 also where the number of bytes is wrong, then 14 and 2
unfoldable pub write_program : (room : ℕ) (fields : Fields) (k₀ : ℕ) (header : List ℕ) (k₁ : ℕ) (bytes : List ℕ) → Outcome (List ℕ)
write_program room fields k₀ header k₁ bytes =
    and_then (measure_data fields) (λ n.
    cond (not (eqb n (length bytes))) (refuse WrongAddresses 0)
    (write_blocks room k₀ header k₁ bytes))

-- what is written into `room` places: refusal 1 for the name, then 8, 9, 14 and 2, else the file
unfoldable pub write_file : (room : ℕ) → File → Outcome (List ℕ)
write_file room f =
    cond (wrong_name (length f.name)) (refuse WrongSize 0)
    (write_program room f.fields f.leader₀ (file_header f) f.leader₁ f.bytes)
