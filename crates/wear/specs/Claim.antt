-- What holds of the walk and of the report (document 02, Q-1), and of the causes that they tell (Q-6).
use Rattle.std.specs.Prelude.{ℕ, zero, suc, ◌+◌, ◌*◌, ◌≤◌, ◌<◌, ◌≡◌, Bool, true, false, cond, List, [], ◌∷◌, ◌++◌, eqb, length, None, Result, Ok}
use Rattle.refusal.specs.declared.Refusal.{Refusal}
use Rattle.refusal.specs.declared.Reason.TheVariants.{NoStart}
use Rattle.refusal.specs.Refusal.{Why}
use Rattle.refusal.specs.Outcome.{Outcome, refused, accepted, refuse, of_block, mapped, and_then, outcome_of}
use Rattle.pulse.specs.declared.Class.{Class}
use Rattle.pulse.specs.declared.Class.TheVariants.{Short, Medium, Long, Noise}
use Rattle.start.specs.Copies.{copy_two}
use Rattle.block.specs.declared.Extent.{Extent}
use Rattle.block.specs.Reading.{read_block, BlockPromise}
use Rattle.block.specs.Looking.{cause_numbers, no_bad, counted}
use Rattle.block.specs.Claim.{LostTold, sum_of, spare_bad}
use Rattle.file.specs.declared.Loaded.{Loaded}
use Rattle.file.specs.File.{data_bytes}
use Rattle.file.specs.Reading.{read_file, FilePromise}
use Rattle.wear.specs.declared.Spot.{Spot}
use Rattle.wear.specs.declared.Totals.{Totals}
use Rattle.wear.specs.declared.Trial.TheVariants.{Header, Data}
use Rattle.wear.specs.Walk.{block_of, spot, beginning, Block, step_from, then_blocks, walk_for, blocks_from, blocks}
use Rattle.wear.specs.Report.{count_of, total, one_of, two_of, lost_of, bad_of, with_blocks, with_pulses, report_strip}

-- ---- Words for the claims

-- the strip ends before copy two does: refusal 4
abbrev pub is_cut : Outcome Extent → Bool
is_cut (refused why) = eqb why.number 4
is_cut (accepted extent) = false

-- where the walk stands after one step, and after so many
abbrev pub next_or : Spot → Outcome Block → (Block → Spot) → Spot
next_or at (refused why) later = at
next_or at (accepted b) later = later b

unfoldable pub spot_after : (steps : ℕ) (cs : List Class) (at : Spot) → Spot
spot_after zero cs at = at
spot_after (suc steps) cs at = next_or at (step_from cs at) (λ b. spot_after steps cs b.next)

-- the report of several strips, one after the other: refused where one of them is
unfoldable pub report_strips : Totals → List (List Class) → Outcome Totals
report_strips t [] = accepted t
report_strips t (cs ∷ strips) = and_then (report_strip t cs) (λ u. report_strips u strips)

-- the same with each walk cut after so many steps: the blocks so far are added, then those from there on
unfoldable pub added_in_steps : (steps : ℕ) → Totals → (cs : List Class) → Totals
added_in_steps steps t cs = with_blocks (blocks_from cs (spot_after steps cs beginning)) (with_blocks (walk_for steps cs beginning) (with_pulses cs t))

unfoldable pub report_in_steps : (steps : ℕ) → Totals → List (List Class) → Outcome Totals
report_in_steps steps t [] = accepted t
report_in_steps steps t (cs ∷ strips) = and_then (mapped (λ _. added_in_steps steps t cs) (report_strip t cs)) (λ u. report_in_steps steps u strips)

-- all pulses that were counted
abbrev pub pulses_in : Totals → ℕ
pulses_in t = t.shorts + t.mediums + t.longs + t.noises

-- a program file that was read from a place on is told as its two blocks, and the walk goes on at its end with a header
pub record FileTold (cs : List Class) (from : ℕ) (loaded : Loaded) : Type 0 where
  pub header : Block
  pub bytes : Block
  pub told : blocks_from cs (spot from Header) ≡ header ∷ bytes ∷ blocks_from cs (spot loaded.stop Header)
  -- both are accepted: the header with 192 bytes, from where the walk goes on to a data block; this with end minus start bytes, up to the file's end
  pub first : header.outcome ≡ accepted (record { n = 192; start = header.start; end = header.next.from })
  pub between : header.next.trial ≡ Data (data_bytes loaded.fields)
  pub second : bytes.outcome ≡ accepted (record { n = data_bytes loaded.fields; start = bytes.start; end = loaded.stop })

-- ---- The claims

pub record Walks : Type 0 where
  -- The four class counts add up to the strip's length: so much do the totals of an accepted report grow by.
  pub pulses : (cs : List Class) → count_of Short cs + count_of Medium cs + count_of Long cs + count_of Noise cs ≡ length cs
  pub grown : (t u : Totals) (cs : List Class) → report_strip t cs ≡ accepted u → (u.strips ≡ t.strips + 1) × (pulses_in u ≡ pulses_in t + length cs)
  -- The three counts of a block add up to n + 1, and to 0 after refusal 4.
  pub counts : (cs : List Class) (at : Spot) (b : Block) → step_from cs at ≡ accepted b → counted b.tally ≡ cond (is_cut b.outcome) 0 (b.n + 1)
  -- The places of the walk strictly grow, from where it stands to the start found and from there to where it goes on, and stay on the strip.
  pub grows : (cs : List Class) (at : Spot) (b : Block) → step_from cs at ≡ accepted b → (at.from < b.start) × (b.start < b.next.from) × (b.next.from ≤ length cs)
  -- The walk is one step, and the walk from where that step goes on.
  pub unfolds : (cs : List Class) (at : Spot) → blocks_from cs at ≡ then_blocks (step_from cs at) (λ b. blocks_from cs b.next)
  -- It ends, after no more steps than the strip has pulses, and only where there is no start: no step of it is refused with 1.
  pub ends : (cs : List Class) → step_from cs (spot_after (length cs) cs beginning) ≡ refuse NoStart 0
  -- What the walk tells of a block is what the block reader answers from that place with that n, lent enough room, but for the block's number.
  pub read : (cs : List Class) (at : Spot) (b : Block) → step_from cs at ≡ accepted b
      → (out : List ℕ) → b.n ≤ length out
      → (r : Result Extent Refusal) (out' : List ℕ) → BlockPromise (read_block cs (length out) at.from b.n) out r out'
      → b.outcome ≡ of_block (block_of at.trial) (outcome_of r)
  -- A program file that the file reader accepts from a place is told as its two blocks, where the walk comes to that place to try a header.
  pub file : (cs : List Class) (from : ℕ) (h b : List ℕ) (loaded : Loaded) (h' b' : List ℕ)
      → FilePromise (read_file cs (length h) (length b) from) h b (Ok loaded) h' b' → FileTold cs from loaded
  -- Cut into steps anywhere, the walk is the same: after any number of steps, the blocks so far and those from there on are all.
  pub cut : (steps : ℕ) (cs : List Class) (at : Spot) → blocks_from cs at ≡ walk_for steps cs at ++ blocks_from cs (spot_after steps cs at)
  -- So are the totals after several strips.
  pub totals : (steps : ℕ) (t : Totals) (strips : List (List Class)) → report_in_steps steps t strips ≡ report_strips t strips
  -- What a strip adds to a total of places is at most 8,193 for each of its pulses.
  pub bounded : (cs : List Class) → (total one_of (blocks cs) ≤ 8193 * length cs) × (total two_of (blocks cs) ≤ 8193 * length cs) × (total lost_of (blocks cs) ≤ 8193 * length cs)

-- ---- The claims of causes (document 02, Q-6)

pub record WalksCauses : Type 0 where
  -- After refusal 4 no bad byte is counted.
  pub short : (cs : List Class) (at : Spot) (b : Block) → step_from cs at ≡ accepted b → is_cut b.outcome ≡ true → b.tally.bad ≡ no_bad
  -- Else the eleven counts are together all bad bytes: a lost place counts twice, one taken from copy two once, and one taken from copy one where copy
  -- two's byte is bad.
  pub counts : (cs : List Class) (at : Spot) (b : Block) → step_from cs at ≡ accepted b → is_cut b.outcome ≡ false
      → sum_of (cause_numbers b.tally.bad) ≡ 2 * b.tally.lost + b.tally.two + spare_bad cs b.start (copy_two b.start b.n) b.n
  -- A block that is refused with 6 is told with the causes of the two bytes at its place, and with no other refusal there are causes.
  pub lost : (cs : List Class) (at : Spot) (b : Block) (why : Why) → step_from cs at ≡ accepted b → b.outcome ≡ refused why → why.number ≡ 6
      → LostTold cs at.from b.n why
  pub others : (cs : List Class) (at : Spot) (b : Block) (why : Why) → step_from cs at ≡ accepted b → b.outcome ≡ refused why → (why.number ≡ 6 → ⊥)
      → why.causes ≡ None
  -- What a strip adds to a total of bad bytes is at most 16,386 for each of its pulses.
  pub bounded : (cs : List Class) (cause : ℕ) → total (bad_of cause) (blocks cs) ≤ 16386 * length cs
