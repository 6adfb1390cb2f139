-- Refusals (document 01, 'Refusal numbers').
use Rattle.std.specs.Prelude.{ℕ, Option, None, Some}
use Rattle.refusal.specs.declared.Causes.{Causes}
use Rattle.refusal.specs.declared.Reason.{Reason}
use Rattle.refusal.specs.declared.Reason.TheVariants.{WrongSize, NoRoom, NoStart, CutShort, WrongCountdown, LostByte, WrongChecksum, WrongType, WrongAddresses, WrongTapHeader, WrongTapVersion, CutLongForm, NoTapForm, WrongLeader}
use Rattle.refusal.specs.declared.Refusal.{Refusal}

-- the number of each reason, which is given exactly when
abbrev pub number_of : Reason → ℕ
-- n is 0 or over 8,192; over 1,048,576 durations to write as TAP; a name over 187 bytes; a lone header to unpack is not 192 bytes;
-- listing input over 16 KiB; a report of totals that count 1,000 strips or have one above 1,000,000,000,000, or of over 1,048,576 pulses
number_of WrongSize = 1
-- an output is shorter than what must be put there
number_of NoRoom = 2
-- no start exists
number_of NoStart = 3
-- the strip ends before copy two does
number_of CutShort = 4
-- a countdown place fails rule 3
number_of WrongCountdown = 5
-- a place is lost
number_of (LostByte causes) = 6
-- rule 5 fails
number_of WrongChecksum = 7
-- the type is not 1 or 3 in a program file, not 1 to 5 in a lone header
number_of WrongType = 8
-- end is not above start, or is over 8,192 above it, or, in writing, end minus start is not the number of bytes lent
number_of WrongAddresses = 9
-- TAP: under 20 bytes, wrong letters, reserved bytes not zero, or a wrong data count
number_of WrongTapHeader = 10
-- TAP version above 1
number_of WrongTapVersion = 11
-- TAP: a zero byte with fewer than three bytes after it, version 1
number_of CutLongForm = 12
-- a duration has no form in that version
number_of NoTapForm = 13
-- K under 64 or over 65,535
number_of WrongLeader = 14

-- a lost place has two causes, copy one's and copy two's, and no other reason has any
abbrev pub causes_of : Reason → Option Causes
causes_of WrongSize = None
causes_of NoRoom = None
causes_of NoStart = None
causes_of CutShort = None
causes_of WrongCountdown = None
causes_of (LostByte causes) = Some causes
causes_of WrongChecksum = None
causes_of WrongType = None
causes_of WrongAddresses = None
causes_of WrongTapHeader = None
causes_of WrongTapVersion = None
causes_of CutLongForm = None
causes_of NoTapForm = None
causes_of WrongLeader = None

-- where there are none both stand as 0
abbrev pub or_none : Option Causes → Causes
or_none None = record { one = 0; two = 0 }
or_none (Some causes) = causes

-- why a call refuses, in these numbers
pub record Why : Type 0 where
  pub number : ℕ
  pub block : ℕ
  pub place : ℕ
  pub causes : Option Causes

-- a refusal that is answered, in these numbers
abbrev pub why_of : Refusal → Why
why_of r = record { number = number_of r.reason; block = r.block; place = r.place; causes = causes_of r.reason }

-- a refusal that names block 0: of a header, a lone block, or no block at all
abbrev pub refusal_at : (reason : Reason) (place : ℕ) → Refusal
refusal_at reason place = record { reason = reason; block = 0; place = place }

-- the same refusal, of another block
abbrev pub in_block : (block : ℕ) → Refusal → Refusal
in_block block r = record { reason = r.reason; block = block; place = r.place }

abbrev pub why_in : (block : ℕ) → Why → Why
why_in block why = record { number = why.number; block = block; place = why.place; causes = why.causes }
