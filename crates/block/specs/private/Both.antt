-- Both copies of a block, as the reader has them.
use Rattle.std.specs.Prelude.{ℕ, List}
use Rattle.refusal.specs.Outcome.{Outcome}
use Rattle.pulse.specs.declared.Class.{Class}
use Rattle.pulse.specs.Pulse.{classes}
use Rattle.block.specs.declared.Tally.{Tally}
use Rattle.block.specs.declared.copies.BothCopies.{BothCopies}
use Rattle.block.specs.Reading.{BlockRead, values_at, read_copies}
use Rattle.block.specs.Looking.{tally_of}
use Rattle.block.specs.private.Checks.{NoneLost, Flagged, repairs}
use Rattle.block.specs.private.Values.{HoldsBits}

-- the classes of their strip
abbrev pub classes_of : BothCopies → List Class
classes_of copies = classes copies.t copies.strip.now

-- what rules 3 to 5 read of them
abbrev pub read_both : BothCopies → Outcome BlockRead
read_both copies = read_copies (classes_of copies) copies.one copies.n

-- what the look counts of them
abbrev pub tally_both : BothCopies → Tally
tally_both copies = tally_of (classes_of copies) copies.one copies.two copies.n

-- their values, where no place is lost
abbrev pub values_of : BothCopies → List ℕ
values_of copies = values_at (classes_of copies) copies.one copies.two copies.n

abbrev pub NoneLostOf : BothCopies → Type 0
NoneLostOf copies = NoneLost (classes_of copies) copies.one copies.two copies.n

-- how many places are repaired, and a row with the flag of each group that has one
abbrev pub repairs_of : BothCopies → ℕ
repairs_of copies = repairs (classes_of copies) copies.one copies.two copies.n

abbrev pub FlaggedOf : BothCopies → List ℕ → Type 0
FlaggedOf copies row = Flagged (classes_of copies) copies.one copies.two copies.n row

-- a buffer holds copy one's bits
abbrev pub HoldsOne : BothCopies → (out : List ℕ) → Type 0
HoldsOne copies out = HoldsBits copies.t copies.strip.now copies.one copies.n out 0
