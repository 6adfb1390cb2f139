-- TAP files as written (document 01, 'TAP files', and document 02, Q-4).
use Rattle.std.specs.Prelude.{ℕ, ◌/◌, ◌%◌, Bool, cond, ◌&&◌, List, [], ◌∷◌, ◌++◌, eqb, leb, ltb, length, get_or, Option}
use Rattle.lists.specs.Places.{first_from}
use Rattle.lists.specs.Text.{ascii, low_first}
use Rattle.refusal.specs.declared.Reason.TheVariants.{WrongSize, WrongTapVersion, NoTapForm}
use Rattle.refusal.specs.Outcome.{Outcome, accepted, refuse, refuse_first, if_room, and_then}
use Rattle.pulse.specs.Units.{unit_cycles}

-- ---- The layout

abbrev pub letters : List ℕ
letters = ascii "C64-TAPE-RAW"

-- 20 bytes: the letters; the version; three zero bytes; the number of data bytes, four bytes, low first
unfoldable pub tap_header : (version count : ℕ) → List ℕ
tap_header version count = letters ++ version ∷ 0 ∷ 0 ∷ 0 ∷ low_first 4 count

-- cycles that a zero byte stands for in version 0
abbrev pub zero_cycles : ℕ
zero_cycles = 2048

-- the long form, for the durations that three bytes hold: a zero byte followed by three bytes, low first, that count single cycles
unfoldable pub long_form : (duration : ℕ) → List ℕ
long_form d = cond (leb d 16777215) (0 ∷ low_first 3 d) []

-- the bytes that a duration is written as; none where it has no form in this version
unfoldable pub form_of : (version duration : ℕ) → List ℕ
form_of version d =
    -- the one-byte form for multiples of 8 from 8 to 2,040
    cond (eqb (d % unit_cycles) 0 && leb 8 d && leb d 2040) (d / unit_cycles ∷ [])
    -- version 0 writes 2,048 as a zero byte
    (cond (eqb version 0) (cond (eqb d zero_cycles) (0 ∷ []) [])
    -- version 1 writes all others up to 16,777,215 in the long form
    (long_form d))

-- the forms one after the other; a duration without one, which the writer refuses, leaves nothing
unfoldable pub tap_data : (version : ℕ) (durations : List ℕ) → List ℕ
tap_data version [] = []
tap_data version (d ∷ ds) = form_of version d ++ tap_data version ds

-- 20 bytes, then data
abbrev pub tap_file : (version : ℕ) (bytes : List ℕ) → List ℕ
tap_file version bytes = tap_header version (length bytes) ++ bytes

-- ---- The writer

abbrev pub wrong_version : (version : ℕ) → Bool
wrong_version version = ltb 1 version

abbrev pub has_no_form : (version duration : ℕ) → Bool
has_no_form version d = eqb (length (form_of version d)) 0

abbrev pub first_without : (version : ℕ) (durations : List ℕ) → Option ℕ
first_without version ds = first_from (λ i. has_no_form version (get_or ds i 0)) (length ds) 0

-- the data, or refusal 13 for the first duration that has no form
unfoldable pub data_of : (version : ℕ) (durations : List ℕ) → Outcome (List ℕ)
data_of version ds = refuse_first NoTapForm (first_without version ds) (accepted (tap_data version ds))

-- a file with these data into `room` places, or refusal 2
unfoldable pub put_file : (room version : ℕ) (bytes : List ℕ) → Outcome (List ℕ)
put_file room version bytes = if_room room (length (tap_file version bytes)) (accepted (tap_file version bytes))

-- what is written into `room` places: refusals 1, 11, 13 and 2 in this order, else the file
unfoldable pub write_tap : (room version : ℕ) (durations : List ℕ) → Outcome (List ℕ)
write_tap room version ds =
    cond (ltb 1048576 (length ds)) (refuse WrongSize 0)
    (cond (wrong_version version) (refuse WrongTapVersion 0)
    (and_then (data_of version ds) (put_file room version)))
