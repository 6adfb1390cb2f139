-- What holds between the TAP writer and the TAP reader (document 01, 'TAP files', and document 02, Q-4).
use Rattle.std.specs.Prelude.{ℕ, ◌%◌, ◌≤◌, ◌<◌, ◌≡◌, false, not, ◌&&◌, List, eqb, leb, length, take, drop, get_or, Result, Ok}
use Rattle.tap.specs.declared.TapInfo.{TapInfo}
use Rattle.refusal.specs.declared.Refusal.{Refusal}
use Rattle.refusal.specs.Outcome.{accepted, outcome_of}
use Rattle.refusal.specs.Promise.{Written}
use Rattle.tap.specs.Tap.{tap_data, tap_file, has_no_form, write_tap}
use Rattle.tap.specs.Reading.{read_tap, TapPromise}

-- the reader answered this version and the number of these durations, and put exactly them into the buffer that held out
pub record TapReturned (version : ℕ) (durations out : List ℕ) (r : Result TapInfo Refusal) (out' : List ℕ) : Type 0 where
  pub answer : outcome_of r ≡ accepted (record { version = version; count = length durations })
  pub put : take (length durations) out' ≡ durations
  pub rest : drop (length durations) out' ≡ drop (length durations) out

-- at most 1,048,576 durations that each have a form in version 0 or 1
pub record Writable (version : ℕ) (durations : List ℕ) : Type 0 where
  pub few : length durations ≤ 1048576
  pub old : version ≤ 1
  pub forms : (i : ℕ) → i < length durations → has_no_form version (get_or durations i 0) ≡ false

pub record RoundTrip : Type 0 where
  -- Reading what was written returns the version and the durations: for all that the writer was lent and accepted, the reader, lent the
  -- bytes that the writer put and room for the durations, answers and puts them. Writer and reader did what their contracts say.
  pub returned :
      (version : ℕ) (durations file : List ℕ) (count : ℕ) (file' : List ℕ) → Written (write_tap (length file) version durations) file (Ok count) file'
      → (out : List ℕ) → length durations ≤ length out
      → (r : Result TapInfo Refusal) (out' : List ℕ) → TapPromise (read_tap (length out) (take count file')) out r out'
      → TapReturned version durations out r out'
  -- the writer accepts all writable durations for which there is room
  pub written :
      (room version : ℕ) (durations : List ℕ) → Writable version durations → length (tap_file version (tap_data version durations)) ≤ room
      → write_tap room version durations ≡ accepted (tap_file version (tap_data version durations))
  -- version 0 has a form for the multiples of 8 from 8 to 2,048
  pub zero : (d : ℕ) → has_no_form 0 d ≡ not (eqb (d % 8) 0 && leb 8 d && leb d 2048)
  -- version 1 has a form for the durations up to 16,777,215, and for no others
  pub one : (d : ℕ) → has_no_form 1 d ≡ not (leb d 16777215)
