-- `tap::writer::all_bytes` meets its contract. The invariant: what is said of the durations before.
use mathlib.Core.Path.{◌≡◌}
use mathlib.Core.List.{map}
use lib.ListN.{take}
use Rattle.tap.specs.private.Forms.{no_zeros, byte_units}
use Rattle.tap.proofs.writer.all_bytes.Given as goal

abbrev pub invariant-loop-duration : goal.invariant-loop-duration
invariant-loop-duration l = l.all ≡ no_zeros (map byte_units (take l.duration-index l.durations))
