-- The walk over the blocks of a strip (document 02, Q-1), on the classes of its pulses.
use Rattle.std.specs.Prelude.{ℕ, zero, suc, ◌+◌, cond, List, [], ◌∷◌, length, Result, Err, Ok}
use Rattle.refusal.specs.declared.Refusal.{Refusal}
use Rattle.refusal.specs.declared.Reason.TheVariants.{WrongSize}
use Rattle.refusal.specs.Outcome.{Outcome, refused, accepted, refuse, refused_with, of_block, mapped, outcome_of}
use Rattle.pulse.specs.declared.Class.{Class}
use Rattle.start.specs.Start.{find_start}
use Rattle.block.specs.declared.Extent.{Extent}
use Rattle.block.specs.declared.Tally.{Tally}
use Rattle.block.specs.Block.{wrong_size}
use Rattle.block.specs.Reading.{BlockRead, extent_of, read_at}
use Rattle.block.specs.Looking.{look_at}
use Rattle.header.specs.Header.{fields_of}
use Rattle.file.specs.File.{measure_data}
use Rattle.wear.specs.declared.Trial.{Trial}
use Rattle.wear.specs.declared.Trial.TheVariants.{Header, Data}
use Rattle.wear.specs.declared.Spot.{Spot}
use Rattle.wear.specs.declared.Tried.{Tried}

-- ---- What is tried

-- how many payload bytes: 192 for a header
abbrev pub size_of : Trial → ℕ
size_of Header = 192
size_of (Data n) = n

-- the block that a refusal names: 1 where a data block is tried
abbrev pub block_of : Trial → ℕ
block_of Header = 0
block_of (Data n) = 1

abbrev pub spot : (from : ℕ) (trial : Trial) → Spot
spot from trial = record { from = from; trial = trial }

-- the walk begins at place 0 with a header
abbrev pub beginning : Spot
beginning = spot 0 Header

-- ---- Where the walk goes on

-- after a header: to its data block, of as many bytes as it says, where refusals 8 and 9 let it pass; else to the next header
abbrev pub after_header : Outcome ℕ → Trial
after_header (refused why) = Header
after_header (accepted n) = Data n

-- after a data block: to the next header, whatever its bytes say
abbrev pub after_block : Trial → (payload : List ℕ) → Trial
after_block Header payload = after_header (measure_data (fields_of payload))
after_block (Data n) payload = Header

-- the block with its start at p was tried: where it is refused, one pulse past the start, with a header; where it is accepted, at its end
abbrev pub next_spot : Trial → (p : ℕ) → Outcome BlockRead → Spot
next_spot trial p (refused why) = spot (p + 1) Header
next_spot trial p (accepted b) = spot b.extent.end (after_block trial b.payload)

-- ---- One step

-- a block that was found: the payload bytes tried, the start, what the rules answer, its places and bad bytes, and where the walk goes on
pub record Block : Type 0 where
  pub n : ℕ
  pub start : ℕ
  pub outcome : Outcome Extent
  pub tally : Tally
  pub next : Spot

-- the block with its start at p
unfoldable pub try_at : (cs : List Class) (trial : Trial) (p : ℕ) → Block
try_at cs trial p = record {
  n = size_of trial;
  start = p;
  outcome = of_block (block_of trial) (mapped extent_of (read_at cs p (size_of trial)));
  tally = (look_at cs p (size_of trial)).tally;
  next = next_spot trial p (read_at cs p (size_of trial));
}

-- the first start at or after a place: refusal 1 for a data block of a wrong size, then 3 where there is no start
unfoldable pub step_from : (cs : List Class) (at : Spot) → Outcome Block
step_from cs at =
    cond (wrong_size (size_of at.trial)) (refuse WrongSize 0)
    (mapped (try_at cs at.trial) (find_start cs at.from))

-- what is answered
abbrev pub tried_block : Tried → Block
tried_block t = record { n = t.n; start = t.start; outcome = outcome_of t.answer; tally = t.tally; next = t.next }

abbrev pub step_answer : Result Tried Refusal → Outcome Block
step_answer (Ok t) = accepted (tried_block t)
step_answer (Err r) = refused_with r

-- ---- The walk

-- no block, or one and those after it
abbrev pub then_blocks : Outcome Block → (Block → List Block) → List Block
then_blocks (refused why) later = []
then_blocks (accepted b) later = b ∷ later b

-- at most so many steps
unfoldable pub walk_for : (steps : ℕ) (cs : List Class) (at : Spot) → List Block
walk_for zero cs at = []
walk_for (suc steps) cs at = then_blocks (step_from cs at) (λ b. walk_for steps cs b.next)

-- step after step until no start is found: each goes at least one pulse on, so a strip has no more steps than pulses
unfoldable pub blocks_from : (cs : List Class) (at : Spot) → List Block
blocks_from cs at = walk_for (length cs) cs at

abbrev pub blocks : (cs : List Class) → List Block
blocks cs = blocks_from cs beginning
