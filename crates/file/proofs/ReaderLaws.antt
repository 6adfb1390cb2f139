-- What the laws of files ask of a block reader. The rules for blocks are one such reader.
use Prim.Native.Nat.{ℕ, ◌+◌, ◌≤◌, ◌<◌}
use mathlib.Core.Path.{◌≡◌}
use mathlib.Core.Bool.{false}
use mathlib.Core.List.{List}
use lib.ListN.{length, get_or}
use Rattle.lists.specs.Places.{part, Below}
use Rattle.refusal.specs.Outcome.{Outcome, accepted}
use Rattle.pulse.specs.declared.Thresholds.{Thresholds}
use Rattle.pulse.specs.declared.Class.{Class}
use Rattle.pulse.specs.declared.Class.TheVariants.{Short}
use Rattle.pulse.specs.Pulse.{class_of, classes}
use Rattle.block.specs.Block.{block_pulses, wrong_size}
use Rattle.block.specs.Reading.{BlockRead, block_at, read_from, read_block}
use Rattle.block.specs.Damage.{Damaged}
use Rattle.block.proofs.ReadingLaws.{read_block-room, read_from-length}
use Rattle.block.proofs.DamageLaws.{read_from-damaged}
use Rattle.file.specs.Reading.{BlockReader}

-- `lent` is what a call promises that is lent room for the payload; for a right n and enough room it does what `read` says
abbrev pub EnoughRoom : (lent : (room from n : ℕ) → Outcome BlockRead) (read : BlockReader) → Type 0
EnoughRoom lent read = (room from n : ℕ) → wrong_size n ≡ false → n ≤ room → lent room from n ≡ read from n

-- an accepted payload has n bytes
abbrev pub PayloadLength : (read : BlockReader) → Type 0
PayloadLength read = (from n : ℕ) (z : BlockRead) → read from n ≡ accepted z → length z.payload ≡ n

pub record ReadsBlocks (lent : (room from n : ℕ) → Outcome BlockRead) (read : BlockReader) : Type 0 where
  pub roomy : EnoughRoom lent read
  pub long : PayloadLength read

-- where a strip holds from place o on what lies within the damage of a block, and after `from` only short pulses stand before it, it is read
abbrev pub ReadsDamaged : (t : Thresholds) (strip : List ℕ) (read : BlockReader) → Type 0
ReadsDamaged t strip read =
    (o k : ℕ) (payload : List ℕ) (n : ℕ) → length payload ≡ n → Damaged t k payload (part strip o (length (block_pulses k payload))) → Below 256 payload
    → (from : ℕ) → 16 ≤ k → from + 16 ≤ o + k → ((i : ℕ) → from < i → i < o → class_of t (get_or strip i 0) ≡ Short)
    → read from n ≡ accepted (block_at (o + k) n payload)

-- ---- The rules for blocks

pub by-rules : (cs : List Class) → ReadsBlocks (read_block cs) (read_from cs)
by-rules cs = record { roomy = read_block-room cs; long = λ from n z. read_from-length cs n z from }

pub rules-damaged : (t : Thresholds) (strip : List ℕ) → ReadsDamaged t strip (read_from (classes t strip))
rules-damaged t strip o k payload n long d below from lead far before = read_from-damaged t strip o k payload long d below from lead far before
