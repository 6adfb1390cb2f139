-- Reading: what the data come to, and what the loops keep.
use Rattle.std.specs.Prelude.{ℕ, ◌+◌, ◌-◌, ◌*◌, ◌≤◌, ◌<◌, ◌≡◌, cond, List, eqb, length, drop, get_or, Result, MatchResult}
use Rattle.refusal.specs.declared.Refusal.{Refusal}
use Rattle.std.proofs.lemmas.List.Edits.{sets}
use Rattle.refusal.specs.Outcome.{Outcome, accepted, refused_with, mapped, and_then, puts}
use Rattle.tap.specs.declared.reader.FormPlace.{FormPlace}
use Rattle.tap.specs.Reading.{Tap, tap_with, durations_in, fitting}

-- what the data of a file come to whose header is sound
unfoldable pub read_durations : (room version : ℕ) (bytes : List ℕ) → Outcome Tap
read_durations room version bytes = and_then (mapped (tap_with version) (durations_in version 0 bytes)) (fitting room)

-- ---- Reading version 1, from a place on

abbrev pub durations_from : (bytes : List ℕ) (i : ℕ) → Outcome (List ℕ)
durations_from bytes i = durations_in 1 i (drop i bytes)

-- with those counted, the durations from place i on give the whole number
pub record Counted (bytes : List ℕ) (i count : ℕ) : Type 0 where
  pub within : i ≤ length bytes
  pub few : count ≤ i
  pub whole : mapped (λ ds. count + length ds) (durations_from bytes i) ≡ mapped length (durations_in 1 0 bytes)

-- a long form begins at place i and is cut short
pub record Cut (bytes : List ℕ) (i : ℕ) : Type 0 where
  pub zero : get_or bytes i 0 ≡ 0
  pub short : length bytes - i < 4

-- what counting a group comes to that begins at `start`: the place after it, or the refusal of all the data
abbrev pub CountedOn : (bytes : List ℕ) (start : FormPlace) (r : Result FormPlace Refusal) → Type 0
CountedOn bytes start r = MatchResult r (λ next. (start.place < next.place) × Counted bytes next.place next.count) (λ why. refused_with why ≡ mapped length (durations_in 1 0 bytes))

-- From place `start`, where a form begins, to place i no zero byte stands in the three bytes after another, so that each begins a long form.
-- The next form begins at `place`; before it there are, for each zero byte, three durations fewer than bytes.
pub record Apart (bytes : List ℕ) (start i zeros : ℕ) : Type 0 where
  pub place : ℕ
  pub low : i ≤ place
  pub high : place ≤ i + 3
  pub few : start + 3 * zeros ≤ place
  pub counted : (count : ℕ) → Counted bytes start count → Counted bytes place (count + (place - start) - 3 * zeros)
  -- every zero byte up to place i begins a long form, and where `place` lies after i one of them ends there
  pub long : (j : ℕ) → start ≤ j → j < i → get_or bytes j 0 ≡ 0 → j + 4 ≤ place
  pub last : i < place → (start + 4 ≤ place) × (get_or bytes (place - 4) 0 ≡ 0)
  -- its other bytes are not 0
  pub clear : (j : ℕ) → i ≤ j → j < place → get_or bytes j 0 ≡ 0 → ⊥

-- where the last form ends that begins before a place, if each zero byte begins a long form
abbrev pub form_end : (bytes : List ℕ) (end : ℕ) → ℕ
form_end bytes end =
    cond (eqb (get_or bytes (end - 1) 0) 0) (end + 3)
    (cond (eqb (get_or bytes (end - 2) 0) 0) (end + 2)
    (cond (eqb (get_or bytes (end - 3) 0) 0) (end + 1)
    end))

-- the data from place i on are sound, and there is room for their durations from index k on
pub record Fillable (bytes : List ℕ) (i : ℕ) (out : List ℕ) (k : ℕ) : Type 0 where
  pub within : i ≤ length bytes
  pub sound : durations_from bytes i ≡ accepted (puts (durations_from bytes i))
  pub room : k + length (puts (durations_from bytes i)) ≤ length out

-- with those put that stand between two places, the durations left give the same as before
pub record FilledTo (bytes : List ℕ) (i : ℕ) (out : List ℕ) (k : ℕ) (i' : ℕ) (out' : List ℕ) (k' : ℕ) : Type 0 where
  pub fillable : Fillable bytes i' out' k'
  pub whole : sets out' k' (puts (durations_from bytes i')) ≡ sets out k (puts (durations_from bytes i))
