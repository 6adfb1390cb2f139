-- What a call comes to, by document 01: refused, or accepted with what it gives.
use Rattle.std.specs.Prelude.{ℕ, cond, List, [], ltb, Option, None, Some, Result, Ok, Err}
use Rattle.refusal.specs.declared.Reason.{Reason}
use Rattle.refusal.specs.declared.Reason.TheVariants.{NoRoom}
use Rattle.refusal.specs.declared.Refusal.{Refusal}
use Rattle.refusal.specs.Refusal.{Why, why_of, why_in, refusal_at}

pub data Outcome (A : Type 0) : Type 0 where
  refused : (why : Why) → Outcome A
  accepted : (given : A) → Outcome A

-- ---- Refused

-- with this number, block and place, and no causes
abbrev pub refused_by : {A : Type 0} (number block place : ℕ) → Outcome A
refused_by number block place = refused (record { number = number; block = block; place = place; causes = None })

-- as this refusal says
abbrev pub refused_with : {A : Type 0} → Refusal → Outcome A
refused_with r = refused (why_of r)

-- what an answer comes to: accepted with what it gives, or refused as its error says
abbrev pub outcome_of : {A : Type 0} → Result A Refusal → Outcome A
outcome_of (Ok given) = accepted given
outcome_of (Err r) = refused_with r

-- for this reason, at this place, in block 0
abbrev pub refuse : {A : Type 0} (reason : Reason) (place : ℕ) → Outcome A
refuse reason place = refused_with (refusal_at reason place)

-- at the first place that was found, if there is one, for the reason there
abbrev pub refuse_there : {A : Type 0} (reason : (place : ℕ) → Reason) (found : Option ℕ) (otherwise : Outcome A) → Outcome A
refuse_there reason None otherwise = otherwise
refuse_there reason (Some place) otherwise = refuse (reason place) place

-- the same, for one reason wherever it is
abbrev pub refuse_first : {A : Type 0} (reason : Reason) (found : Option ℕ) (otherwise : Outcome A) → Outcome A
refuse_first reason found otherwise = refuse_there (λ _. reason) found otherwise

-- with 2 where an output of `room` places is shorter than the n that must be put there
unfoldable pub if_room : {A : Type 0} (room n : ℕ) (otherwise : Outcome A) → Outcome A
if_room room n otherwise = cond (ltb room n) (refuse NoRoom 0) otherwise

-- ---- Outcomes of outcomes

-- the same refusal, or what a function makes of what is given
abbrev pub mapped : {A B : Type 0} → (A → B) → Outcome A → Outcome B
mapped f (refused why) = refused why
mapped f (accepted given) = accepted (f given)

-- the same refusal, or what a function comes to with what is given
abbrev pub and_then : {A B : Type 0} → Outcome A → (A → Outcome B) → Outcome B
and_then (refused why) next = refused why
and_then (accepted given) next = next given

-- a refusal names this block
abbrev pub of_block : {A : Type 0} (block : ℕ) → Outcome A → Outcome A
of_block block (refused why) = refused (why_in block why)
of_block block (accepted given) = accepted given

-- what is put into a lent buffer; by a refusal nothing is
abbrev pub puts : Outcome (List ℕ) → List ℕ
puts (refused why) = []
puts (accepted given) = given
