-- What is printed of a damaged tape: demand 3 and 'Reading what was written' together.
use Rattle.std.specs.Prelude.{ℕ, ◌<◌, ◌≤◌, ◌≡◌, List, ◌++◌, length, take, get_or, Result, Ok}
use Rattle.refusal.specs.declared.Refusal.{Refusal}
use Rattle.refusal.specs.Promise.{Written}
use Rattle.pulse.specs.Pulse.{fixed}
use Rattle.header.specs.Header.{shown_name}
use Rattle.file.specs.File.{File, file_header}
use Rattle.file.specs.Damage.{FileDamaged}
use Rattle.file.specs.Claim.{Sent}
use Rattle.tap.specs.Tap.{tap_data, tap_file, write_tap}
use Rattle.listing.specs.Listing.{file_line, heading, listing}

-- no pulse of the strip is longer than 16,777,215 cycles
abbrev pub FitsLongForm : (strip : List ℕ) → Type 0
FitsLongForm strip = (i : ℕ) → i < length strip → get_or strip i 0 ≤ 16777215

pub record Printed : Type 0 where
  -- For every file and leaders that the file writer accepts, every strip within the damage, and every TAP file of at most 16 KiB that the
  -- TAP writer made of that strip: the listing is the line of the file that was written.
  pub listed : (f : File) (out : List ℕ) (count : ℕ) (out' : List ℕ) → Sent f out count out'
      → (strip : List ℕ) → FileDamaged fixed f count strip
      → (version : ℕ) (tape : List ℕ) (n : ℕ) (tape' : List ℕ) → Written (write_tap (length tape) version strip) tape (Ok n) tape' → n ≤ 16384
      → listing (take n tape') ≡ heading ++ file_line f.fields (length f.bytes) (shown_name (file_header f))
  -- That covers every strip within the damage whose pulses are at most 16,777,215 cycles long. Given version 1, and lent room for the n bytes
  -- of its TAP file, the TAP writer accepts it and answers n; and where these are at most 16 KiB, the listing is that line.
  pub covered : (f : File) (out : List ℕ) (count : ℕ) (out' : List ℕ) → Sent f out count out'
      → (strip : List ℕ) → FileDamaged fixed f count strip → FitsLongForm strip
      → (n : ℕ) → n ≡ length (tap_file 1 (tap_data 1 strip))
      → (tape : List ℕ) → n ≤ length tape
      → (r : Result ℕ Refusal) (tape' : List ℕ) → Written (write_tap (length tape) 1 strip) tape r tape'
      → (r ≡ Ok n) × (n ≤ 16384 → listing (take n tape') ≡ heading ++ file_line f.fields (length f.bytes) (shown_name (file_header f)))
  -- The strip as written, which the file writer left in the buffer, is one of these.
  pub written : (f : File) (out : List ℕ) (count : ℕ) (out' : List ℕ) → Sent f out count out'
      → FileDamaged fixed f count (take count out') × FitsLongForm (take count out')
