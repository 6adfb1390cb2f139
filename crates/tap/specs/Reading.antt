-- Reading TAP files (document 01, 'TAP files', and document 02, Q-4).
use Rattle.std.specs.Prelude.{ℕ, zero, suc, ◌+◌, ◌*◌, Bool, cond, not, ◌||◌, List, [], ◌∷◌, eqb, ltb, length, take, drop, get_or, Result}
use Rattle.refusal.specs.declared.Refusal.{Refusal}
use Rattle.lists.specs.Places.{part}
use Rattle.lists.specs.Text.{from_low, equal}
use Rattle.refusal.specs.declared.Reason.TheVariants.{WrongTapHeader, WrongTapVersion, CutLongForm}
use Rattle.refusal.specs.Outcome.{Outcome, accepted, refuse, if_room, mapped, and_then, outcome_of}
use Rattle.refusal.specs.Promise.{Answers, Fills, itself}
use Rattle.pulse.specs.Units.{unit_cycles}
use Rattle.tap.specs.declared.TapInfo.{TapInfo}
use Rattle.tap.specs.Tap.{letters, zero_cycles, wrong_version}

-- ---- The header

-- under 20 bytes, or wrong letters
abbrev pub wrong_letters : (file : List ℕ) → Bool
wrong_letters file = ltb (length file) 20 || not (equal (take 12 file) letters)

-- reserved bytes not zero, or a wrong data count
abbrev pub wrong_count : (file : List ℕ) → Bool
wrong_count file = not (equal (part file 13 3) (0 ∷ 0 ∷ 0 ∷ [])) || not (eqb (from_low (part file 16 4)) (length (drop 20 file)))

-- refusals 10, 11 and 10 in this order, else the version
unfoldable pub tap_version : (file : List ℕ) → Outcome ℕ
tap_version file =
    cond (wrong_letters file) (refuse WrongTapHeader 0)
    (cond (wrong_version (get_or file 12 0)) (refuse WrongTapVersion 0)
    (cond (wrong_count file) (refuse WrongTapHeader 0)
    (accepted (get_or file 12 0))))

-- ---- The data

-- the durations of data bytes that begin at index `at` of the data. Only versions 0 and 1 come here; any other would read as version 1.
unfoldable pub durations_in : (version at : ℕ) (bytes : List ℕ) → Outcome (List ℕ)
durations_in version at [] = accepted []
-- a byte b that is not 0 is 8b cycles
durations_in version at (suc b ∷ bytes) = mapped (λ ds. suc b * unit_cycles ∷ ds) (durations_in version (at + 1) bytes)
-- in version 0 a zero byte is read as 2,048 cycles
durations_in zero at (zero ∷ bytes) = mapped (λ ds. zero_cycles ∷ ds) (durations_in zero (at + 1) bytes)
-- in version 1 it is followed by three bytes, low first, that count single cycles
durations_in (suc version) at (zero ∷ low ∷ middle ∷ high ∷ bytes) =
    mapped (λ ds. from_low (low ∷ middle ∷ high ∷ []) ∷ ds) (durations_in (suc version) (at + 4) bytes)
-- fewer than three bytes after it
durations_in (suc version) at (zero ∷ low ∷ middle ∷ []) = refuse CutLongForm at
durations_in (suc version) at (zero ∷ low ∷ []) = refuse CutLongForm at
durations_in (suc version) at (zero ∷ []) = refuse CutLongForm at

-- ---- The reader

-- what a sound file holds
pub record Tap : Type 0 where
  pub version : ℕ
  pub durations : List ℕ

abbrev pub durations_of : Tap → List ℕ
durations_of t = t.durations

-- what is answered of it: its version and the number of durations
abbrev pub info_of : Tap → TapInfo
info_of t = record { version = t.version; count = length t.durations }

abbrev pub tap_with : (version : ℕ) (durations : List ℕ) → Tap
tap_with version ds = record { version = version; durations = ds }

-- a file's version and durations, whatever room there is: refusals 10, 11, 10 and 12 in this order
unfoldable pub tap_of : (file : List ℕ) → Outcome Tap
tap_of file = and_then (tap_version file) (λ v. mapped (tap_with v) (durations_in v 0 (drop 20 file)))

-- the durations into `room` places, or refusal 2
unfoldable pub fitting : (room : ℕ) → Tap → Outcome Tap
fitting room t = if_room room (length t.durations) (accepted t)

unfoldable pub read_tap : (room : ℕ) (file : List ℕ) → Outcome Tap
read_tap room file = and_then (tap_of file) (fitting room)

-- what the reader promises: it answers r and leaves out' in the buffer that held out, as the outcome says
abbrev pub TapPromise : (o : Outcome Tap) (out : List ℕ) (r : Result TapInfo Refusal) (out' : List ℕ) → Type 0
TapPromise o out r out' = Answers itself info_of o (outcome_of r) × Fills durations_of o out out'
