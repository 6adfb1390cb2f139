-- Reading a program file (document 01, 'Headers and program files').
use Rattle.std.specs.Prelude.{ℕ, List, Result}
use Rattle.refusal.specs.declared.Refusal.{Refusal}
use Rattle.refusal.specs.Outcome.{Outcome, outcome_of, if_room, mapped, of_block, and_then}
use Rattle.refusal.specs.Promise.{Answers, Fills, itself}
use Rattle.pulse.specs.declared.Class.{Class}
use Rattle.block.specs.Reading.{BlockRead, read_from}
use Rattle.header.specs.Header.{fields_of}
use Rattle.file.specs.declared.Loaded.{Loaded}
use Rattle.file.specs.File.{measure_data}

-- what an accepted file gives: type, addresses and the end of the data block, which are answered; header and data, which are put
pub record FileRead : Type 0 where
  pub loaded : Loaded
  pub header : List ℕ
  pub bytes : List ℕ

abbrev pub loaded_of : FileRead → Loaded
loaded_of f = f.loaded

abbrev pub header_of : FileRead → List ℕ
header_of f = f.header

abbrev pub bytes_of : FileRead → List ℕ
bytes_of f = f.bytes

-- the file of a header and of the data block that was read after it
abbrev pub file_read : (header : List ℕ) → BlockRead → FileRead
file_read header block = record {
  loaded = record { fields = fields_of header; stop = block.extent.end };
  header = header;
  bytes = block.payload;
}

-- how a block is read on some strip: from a place on, with n payload bytes
abbrev pub BlockReader : Type 0
BlockReader = (from n : ℕ) → Outcome BlockRead

-- what follows a header that was read: refusals 8, 9 and 2 in this order, then the data block from the header's end on, as block 1
unfoldable pub read_data : (read : BlockReader) (header_room data_room end : ℕ) (header : List ℕ) → Outcome FileRead
read_data read header_room data_room end header =
    and_then (measure_data (fields_of header)) (λ n.
    if_room header_room 192
    (if_room data_room n
    (mapped (file_read header) (of_block 1 (read end n)))))

-- a header from a place on, then what follows it
unfoldable pub read_file_by : (read : BlockReader) (header_room data_room from : ℕ) → Outcome FileRead
read_file_by read header_room data_room from = and_then (read from 192) (λ h. read_data read header_room data_room h.extent.end h.payload)

-- by the rules for blocks
abbrev pub read_file : (cs : List Class) (header_room data_room from : ℕ) → Outcome FileRead
read_file cs = read_file_by (read_from cs)

-- what a reader promises: it answers r and leaves h' and b' in the buffers that held h and b, as the outcome says
abbrev pub FilePromise : (o : Outcome FileRead) (h b : List ℕ) (r : Result Loaded Refusal) (h' b' : List ℕ) → Type 0
FilePromise o h b r h' b' = Answers itself loaded_of o (outcome_of r) × (Fills header_of o h h' × Fills bytes_of o b b')
