-- Two claims: demand 3, from what the writer is lent to what the reader returns (document 01, 'Damage'); and that noise is never written
-- ('Pulses').
use Rattle.std.specs.Prelude.{ℕ, ◌-◌, ◌<◌, ◌≤◌, ◌≡◌, List, length, drop, Result, Ok}
use Rattle.file.specs.declared.Loaded.{Loaded}
use Rattle.refusal.specs.declared.Refusal.{Refusal}
use Rattle.lists.specs.Places.{part, Below}
use Rattle.refusal.specs.Promise.{Written}
use Rattle.pulse.specs.Pulse.{fixed, classes, NoNoise, Figures}
use Rattle.byte.specs.Byte.{bytes_classes}
use Rattle.block.specs.Block.{block_classes}
use Rattle.header.specs.Header.{filled}
use Rattle.file.specs.File.{File, file_header, file_pulses, data_bytes, write_file}
use Rattle.file.specs.Reading.{read_file, FilePromise}
use Rattle.file.specs.Damage.{FileDamaged}

-- What the writer's parameters are as declared: the file's type is a byte, addresses are 16-bit numbers, name and data are bytes.
pub record Typed (f : File) : Type 0 where
  pub kind : f.fields.kind < 256
  pub start : f.fields.start < 65536
  pub end : f.fields.end < 65536
  pub name : Below 256 f.name
  pub bytes : Below 256 f.bytes

-- The writer was lent this file and the buffer out; it accepted, answered a count of pulses and left out'. `promised` is its contract.
pub record Sent (f : File) (out : List ℕ) (count : ℕ) (out' : List ℕ) : Type 0 where
  pub typed : Typed f
  pub promised : Written (write_file (length out) f) out (Ok count) out'

-- Enough room is 192 bytes or more for the header and end minus start or more for the data: h and b are the buffers lent for them.
pub record Enough (f : File) (h b : List ℕ) : Type 0 where
  pub header : 192 ≤ length h
  pub bytes : data_bytes f.fields ≤ length b

-- What the reader returns, r with h' and b' in the buffers that held h and b, is the file that was written.
pub record FileReturned (f : File) (strip h b : List ℕ) (r : Result Loaded Refusal) (h' b' : List ℕ) : Type 0 where
  -- the type and both addresses are those lent to the writer; the end is 61 less than the strip's length
  pub answer : r ≡ Ok (record { fields = f.fields; stop = length strip - 61 })
  -- the header buffer begins with the header; its bytes 5 to 191 are the name lent, filled with $20
  pub header : part h' 0 192 ≡ file_header f
  pub name : part h' 5 187 ≡ filled f.name
  -- the data buffer begins with the bytes lent
  pub bytes : part b' 0 (length f.bytes) ≡ f.bytes
  -- what lies past the filled parts is unchanged
  pub header_rest : drop 192 h' ≡ drop 192 h
  pub bytes_rest : drop (length f.bytes) b' ≡ drop (length f.bytes) b

-- The same type, addresses, filled name and bytes.
pub record SameFile (f g : File) : Type 0 where
  pub fields : f.fields ≡ g.fields
  pub name : filled f.name ≡ filled g.name
  pub bytes : f.bytes ≡ g.bytes

-- Two files differ when their type, an address, the filled name or the bytes differ, whatever leaders each was written with.
abbrev pub Differ : File → File → Type 0
Differ f g = SameFile f g → ⊥

-- Demand 3.
pub record Demand3 : Type 0 where
  -- For every file and leaders that the writer accepts, every strip within the damage, and all such room: a reader that keeps its
  -- contract, `FilePromise`, from place 0 on returns that file.
  pub returned : (f : File) (out : List ℕ) (count : ℕ) (out' : List ℕ) → Sent f out count out'
      → (strip : List ℕ) → FileDamaged fixed f count strip
      → (h b : List ℕ) → Enough f h b
      → (r : Result Loaded Refusal) (h' b' : List ℕ) → FilePromise (read_file (classes fixed strip) (length h) (length b) 0) h b r h' b'
      → FileReturned f strip h b r h' b'
  -- No strip lies within the damage of two files that differ.
  pub apart : (f g : File) (out other : List ℕ) (count count' : ℕ) (out' other' : List ℕ) → Sent f out count out' → Sent g other count' other'
      → Differ f g → (strip : List ℕ) → FileDamaged fixed f count strip → FileDamaged fixed g count' strip → ⊥
  -- The strip as written, which the writer left in the buffer, lies within its own damage.
  pub within : (f : File) (out : List ℕ) (count : ℕ) (out' : List ℕ) → Sent f out count out' → FileDamaged fixed f count (part out' 0 count)

-- Noise is never written.
pub record NeverNoise : Type 0 where
  -- No class is N: for all bytes; for every leader and payload of a block; for every type, address, name, leader and payload of a file.
  pub bytes : (bytes : List ℕ) → NoNoise (bytes_classes bytes)
  pub block : (leader : ℕ) (payload : List ℕ) → NoNoise (block_classes leader payload)
  pub file : (f : File) → NoNoise (classes fixed (file_pulses f))
  -- Every pulse that the file writer puts is 360, 520 or 688 cycles long.
  pub put : (f : File) (out : List ℕ) (count : ℕ) (out' : List ℕ) → Sent f out count out' → Figures (part out' 0 count)
