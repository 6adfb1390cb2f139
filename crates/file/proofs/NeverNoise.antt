-- Noise is never written: a file is two blocks, and in blocks and bytes no class is N.
use mathlib.Core.Path.{◌≡◌}
use mathlib.Core.List.{List, ◌++◌, map-append}
use Rattle.pulse.specs.declared.Class.{Class}
use Rattle.pulse.specs.Pulse.{written_as, pulses, NoNoise}
use Rattle.pulse.proofs.PulseLaws.{classes-pulses, NoNoise-append, figures-pulses}
use Rattle.byte.proofs.CodingLaws.{bytes-NoNoise}
use Rattle.block.specs.Block.{block_classes}
use Rattle.block.proofs.BlockLaws.{block-NoNoise}
use Rattle.file.specs.File.{File, file_header, file_pulses}
use Rattle.file.specs.Claim.{NeverNoise}
use Rattle.file.proofs.Demand3.{sent-strip}

-- the classes of a file
abbrev file_classes : File → List Class
file_classes f = block_classes f.leader₀ (file_header f) ++ block_classes f.leader₁ f.bytes

file-pulses : (f : File) → pulses (file_classes f) ≡ file_pulses f
file-pulses f = map-append written_as (block_classes f.leader₀ (file_header f)) (block_classes f.leader₁ f.bytes)

file-NoNoise : (f : File) → NoNoise (file_classes f)
file-NoNoise f =
    NoNoise-append (block_classes f.leader₀ (file_header f)) (block_classes f.leader₁ f.bytes) (block-NoNoise f.leader₀ (file_header f)) (block-NoNoise f.leader₁ f.bytes)

pub never-noise : NeverNoise
never-noise = record {
  bytes = bytes-NoNoise;
  block = block-NoNoise;
  file = λ f. rw (← (file-pulses f), classes-pulses (file_classes f)) (file-NoNoise f);
  put = λ f out count out' sent. rw (sent-strip sent, ← (file-pulses f)) (figures-pulses (file_classes f) (file-NoNoise f));
}
