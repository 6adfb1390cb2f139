-- Laws of the parts of the rules: what they come to together, and what a refusal by one of them is for the whole.
use Prim.Native.Nat.{ℕ, ◌+◌}
use native.Mathlib.Omega.{arith}
use mathlib.Core.Path.{◌≡◌, refl}
use mathlib.Core.Bool.{Bool, true, false}
use mathlib.Core.List.{List}
use Rattle.std.specs.Prelude.{Option, None, Some, Result, Ok, Err, ⊤}
use Rattle.std.specs.Result.{result_and}
use Rattle.lists.specs.Places.{first_from}
use Rattle.refusal.specs.declared.Reason.{Reason}
use Rattle.refusal.specs.declared.Reason.TheVariants.{LostByte}
use Rattle.refusal.specs.declared.Refusal.{Refusal}
use Rattle.refusal.specs.Outcome.{Outcome, accepted, refused_with, refuse_there, mapped, and_then, outcome_of}
use Rattle.pulse.specs.declared.Class.{Class}
use Rattle.block.specs.Reading.{is_lost, causes_at, sum_holds}
use Rattle.block.specs.private.Checks.{sum_checked, values_checked}

-- ---- One part after the other

-- what a part that holds comes to
abbrev nothing : Outcome ⊤
nothing = accepted tt

pub outcome-and : {A B : Type 0} (a : Result A Refusal) (b : Result B Refusal) → outcome_of (result_and a b) ≡ and_then (outcome_of a) (λ _. outcome_of b)
outcome-and (Ok given) b = refl
outcome-and (Err r) b = refl

pub sum-given : {A : Type 0} (holds : Bool) (n : ℕ) (given : A) → and_then (sum_checked {A = ⊤} holds n tt) (λ _. accepted given) ≡ sum_checked holds n given
sum-given true n given = refl
sum-given false n given = refl

module _ (reason : ℕ → Reason) where
  pub lost-sum : (lost : Option ℕ) (holds : Bool) (n : ℕ)
      → and_then (refuse_there reason lost nothing) (λ _. sum_checked {A = ⊤} holds n tt) ≡ refuse_there reason lost (sum_checked {A = ⊤} holds n tt)
  lost-sum None holds n = refl
  lost-sum (Some i) holds n = refl

  pub all-given : (counted : ℕ → Reason) (found lost : Option ℕ) (holds : Bool) (n : ℕ) {A B : Type 0} (pick : A → B) (given : A)
      → and_then (and_then (refuse_there counted found nothing) (λ _. refuse_there reason lost (sum_checked {A = ⊤} holds n tt))) (λ _. accepted (pick given))
      ≡ mapped pick (refuse_there counted found (refuse_there reason lost (sum_checked holds n given)))
  all-given counted (Some i) lost holds n pick given = refl
  all-given counted None (Some i) holds n pick given = refl
  all-given counted None None true n pick given = refl
  all-given counted None None false n pick given = refl

  -- ---- A refusal by one part

  pub there-refused : {A B : Type 0} (found : Option ℕ) (given : A) (later : Outcome B) (r : Refusal) → refused_with r ≡ refuse_there reason found (accepted given)
      → refuse_there reason found later ≡ refused_with r
  there-refused None given later r e = absurd (let z : ◌≡◌ {A = ℕ} 0 1 = cc in omega arith)
  there-refused (Some i) given later r e = cc

  pub values-refused : {A B : Type 0} (lost : Option ℕ) (holds : Bool) (n : ℕ) (given : A) (other : B) (r : Refusal)
      → refused_with r ≡ refuse_there reason lost (sum_checked holds n given) → refuse_there reason lost (sum_checked holds n other) ≡ refused_with r
  values-refused None true n given other r e = absurd (let z : ◌≡◌ {A = ℕ} 0 1 = cc in omega arith)
  values-refused None false n given other r e = cc
  values-refused (Some i) holds n given other r e = cc

-- what is known where rules 4 and 5 hold
pub values-given : {A : Type 0} (cs : List Class) (one two n : ℕ) (given x : A) → accepted x ≡ values_checked cs one two n given
    → (first_from (is_lost cs one two) (n + 1) 0 ≡ None) × (sum_holds cs one two n ≡ true) × (x ≡ given)
values-given cs one two n given x e = go (λ i. LostByte (causes_at cs one two i)) (first_from (is_lost cs one two) (n + 1) 0) (sum_holds cs one two n) e
  where
    go : (reason : ℕ → Reason) (lost : Option ℕ) (holds : Bool) → accepted x ≡ refuse_there reason lost (sum_checked holds n given)
        → (lost ≡ None) × (holds ≡ true) × (x ≡ given)
    go reason None true e = (refl, refl, cc)
    go reason None false e = absurd (let z : ◌≡◌ {A = ℕ} 0 1 = cc in omega arith)
    go reason (Some i) holds e = absurd (let z : ◌≡◌ {A = ℕ} 0 1 = cc in omega arith)
