-- The damage of a block (document 01, 'Damage').
use Rattle.std.specs.Prelude.{ℕ, ◌+◌, ◌^◌, ◌≤◌, ◌<◌, ◌≡◌, ◌⊎◌, List, length}
use Rattle.lists.specs.Places.{part, Below}
use Rattle.pulse.specs.declared.Class.{Class}
use Rattle.pulse.specs.declared.Thresholds.{Thresholds}
use Rattle.pulse.specs.Pulse.{classes}
use Rattle.byte.specs.Byte.{twenty}
use Rattle.byte.specs.Damage.{differ}
use Rattle.start.specs.Copies.{byte_place, copy_pulses, copy_two, end_of}
use Rattle.block.specs.Block.{block_classes}

-- A block is written with a leader of k pulses and n payload bytes; w are the classes it was written in, and cs those of a strip with as
-- many pulses. Copy one is the 20(n + 10) pulses from place k on; copy two starts 61 pulses after it.

-- byte place i of copy one, and of copy two
abbrev pub one_at : (k i : ℕ) (cs : List Class) → List Class
one_at k i cs = twenty cs (byte_place k i)

abbrev pub two_at : (k n i : ℕ) (cs : List Class) → List Class
two_at k n i cs = twenty cs (byte_place (copy_two k n) i)

-- each pulse outside the copies has the class it was written in: in the leader, in the 61 pulses between the copies, in those after them
pub record Outside (k n : ℕ) (w cs : List Class) : Type 0 where
  pub leader : part cs 0 k ≡ part w 0 k
  pub between : part cs (k + copy_pulses n) 61 ≡ part w (k + copy_pulses n) 61
  pub after : part cs (end_of k n) 61 ≡ part w (end_of k n) 61

-- at a byte place, in one of the two copies all twenty have the class they were written in, and in the other at most three have another
abbrev pub OneSound : (w₁ c₁ w₂ c₂ : List Class) → Type 0
OneSound w₁ c₁ w₂ c₂ = ((c₁ ≡ w₁) × (differ w₂ c₂ ≤ 3)) ⊎ ((c₂ ≡ w₂) × (differ w₁ c₁ ≤ 3))

-- so it is outside the copies, at copy one's byte place 0, and at each byte place
pub record DamagedClasses (k n : ℕ) (w cs : List Class) : Type 0 where
  pub outside : Outside k n w cs
  pub first : one_at k 0 cs ≡ one_at k 0 w
  pub places : (i : ℕ) → i < n + 10 → OneSound (one_at k i w) (one_at k i cs) (two_at k n i w) (two_at k n i cs)

-- The strip lies within the damage of the block that is written with leader k and this payload: as many pulses, each any 32-bit count,
-- and its classes, by the thresholds t, are to those written as said above. This asks nothing of k and the payload; what the writer accepts is
-- said elsewhere.
pub record Damaged (t : Thresholds) (k : ℕ) (payload strip : List ℕ) : Type 0 where
  pub long : length strip ≡ length (block_classes k payload)
  pub counts : Below (2 ^ 32) strip
  pub kept : DamagedClasses k (length payload) (block_classes k payload) (classes t strip)
