-- What the calls that are timed come to.
use Rattle.std.specs.Prelude.{ℕ, zero, suc, ◌+◌, ◌*◌, ◌/◌, List, length}
use Rattle.std.specs.Int.Bits.{bit_xor}
use Rattle.refusal.specs.Outcome.{Outcome, refused, accepted}
use Rattle.refusal.specs.Promise.{Answers, Fills}
use Rattle.pulse.specs.declared.Class.{Class}
use Rattle.pulse.specs.declared.Thresholds.{Thresholds}
use Rattle.pulse.specs.Pulse.{cycles}
use Rattle.byte.specs.declared.ByteRead.{ByteRead}
use Rattle.byte.specs.declared.ByteRead.TheVariants.{Good, Bad}
use Rattle.byte.specs.Byte.{byte_at}
use Rattle.block.specs.declared.Extent.{Extent}
use Rattle.block.specs.Reading.{BlockRead, extent_of, payload_of}
use Rattle.bench.specs.declared.BenchTally.{BenchTally}

-- the thresholds by their numbers
abbrev pub thresholds_of : (short medium long noise : ℕ) → Thresholds
thresholds_of short medium long noise = record { short = cycles short; medium = cycles medium; long = cycles long; noise = cycles noise }

-- ---- Bytes one after the other

-- a byte more: a good one counts, and its value is XORed
abbrev pub counted : BenchTally → ByteRead → BenchTally
counted t (Good v) = record { good = t.good + 1; xor = bit_xor t.xor v }
counted t (Bad cause) = t

-- the bytes at the places i, i + 1 .. i + count - 1 of twenty pulses each
unfoldable pub tally_from : (cs : List Class) (t : BenchTally) (count i : ℕ) → BenchTally
tally_from cs t zero i = t
tally_from cs t (suc count) i = tally_from cs (counted t (byte_at cs (20 * i))) count (suc i)

-- all that a strip has
abbrev pub tally_of : (cs : List Class) → BenchTally
tally_of cs = tally_from cs (record { good = 0; xor = 0 }) (length cs / 20) 0

-- ---- A block

-- n, or 0 by a refusal
abbrev pub count_of : Outcome Extent → ℕ
count_of (refused why) = 0
count_of (accepted extent) = extent.n

-- the reader answers that, and leaves in the lent buffer what the outcome puts, then what it held
abbrev pub CountPromise : (o : Outcome BlockRead) (out : List ℕ) (r : ℕ) (out' : List ℕ) → Type 0
CountPromise o out r out' = Answers count_of extent_of o r × Fills payload_of o out out'
