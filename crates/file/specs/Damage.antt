-- The damage of a file (document 01, 'Damage').
use Rattle.std.specs.Prelude.{ℕ, ◌≡◌, List, length}
use Rattle.lists.specs.Places.{part}
use Rattle.pulse.specs.declared.Thresholds.{Thresholds}
use Rattle.block.specs.Damage.{Damaged}
use Rattle.file.specs.File.{File, file_header, header_pulses, data_pulses}

-- The strip lies within the damage of the file, for which the writer answered this many pulses: it has as many and, divided after the
-- last pulse of each written block, each stretch lies within the damage of its block.
pub record FileDamaged (t : Thresholds) (f : File) (count : ℕ) (strip : List ℕ) : Type 0 where
  pub long : length strip ≡ count
  pub header : Damaged t f.leader₀ (file_header f) (part strip 0 (length (header_pulses f)))
  pub bytes : Damaged t f.leader₁ f.bytes (part strip (length (header_pulses f)) (length (data_pulses f)))
