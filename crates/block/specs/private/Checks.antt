-- What the parts of rules 3 to 5 come to, and what the reader keeps of the places whose value is copy two's.
use Rattle.std.specs.Prelude.{ℕ, ◌+◌, ◌≤◌, ◌<◌, ◌≡◌, Bool, false, cond, List, None, Result}
use Rattle.lists.specs.Places.{first_from}
use Rattle.refusal.specs.declared.Reason.TheVariants.{WrongCountdown, LostByte, WrongChecksum}
use Rattle.refusal.specs.declared.Refusal.{Refusal}
use Rattle.refusal.specs.Outcome.{Outcome, accepted, refuse, refuse_there, refuse_first, outcome_of}
use Rattle.pulse.specs.declared.Class.{Class}
use Rattle.block.specs.Reading.{is_miscounted, is_lost, causes_at, sum_holds, place_at}
use Rattle.block.specs.Looking.{is_from_two, places_from}
use Rattle.block.specs.private.Flags.{flag_at, group_of}

-- ---- What is given, where a part of the rules holds

-- rule 3
abbrev pub countdown_checked : {A : Type 0} (cs : List Class) (one two : ℕ) (given : A) → Outcome A
countdown_checked cs one two given = refuse_first WrongCountdown (first_from (is_miscounted cs one two) 9 0) (accepted given)

-- rule 5, by whether it holds
abbrev pub sum_checked : {A : Type 0} (holds : Bool) (n : ℕ) (given : A) → Outcome A
sum_checked holds n given = cond holds (accepted given) (refuse WrongChecksum n)

-- rules 4 and 5
abbrev pub values_checked : {A : Type 0} (cs : List Class) (one two n : ℕ) (given : A) → Outcome A
values_checked cs one two n given =
    refuse_there (λ i. LostByte (causes_at cs one two i)) (first_from (is_lost cs one two) (n + 1) 0)
    (sum_checked (sum_holds cs one two n) n given)

-- ---- What is kept: the number of repaired places, and a flag for each group that has one

abbrev pub is_repaired : (cs : List Class) (one two i : ℕ) → Bool
is_repaired cs one two i = is_from_two (place_at cs one two i)

-- how many of the n + 1 places, the checksum's among them, are repaired
abbrev pub repairs : (cs : List Class) (one two n : ℕ) → ℕ
repairs cs one two n = places_from is_from_two cs one two n

-- where the flag of its group is down, a place below n is not repaired
abbrev pub Flagged : (cs : List Class) (one two n : ℕ) (row : List ℕ) → Type 0
Flagged cs one two n row = (i : ℕ) → i < n → flag_at row (group_of i) ≡ false → is_repaired cs one two i ≡ false

-- the flags of the groups from place i to before `end` are all as that of the first
abbrev pub SameFlags : (row : List ℕ) (i end : ℕ) → Type 0
SameFlags row i end = (j : ℕ) → i ≤ j → j < end → flag_at row (group_of j) ≡ flag_at row (group_of i)

-- no place below n is lost
abbrev pub NoneLost : (cs : List Class) (one two n : ℕ) → Type 0
NoneLost cs one two n = (i : ℕ) → i < n → is_lost cs one two i ≡ false

-- what rules 4 and 5 say, and the row where no place is lost
pub record Checked (cs : List Class) (one two n : ℕ) (answer : Result ℕ Refusal) (row : List ℕ) : Type 0 where
  pub says : outcome_of answer ≡ values_checked cs one two n (repairs cs one two n)
  pub flagged : first_from (is_lost cs one two) (n + 1) 0 ≡ None → Flagged cs one two n row
