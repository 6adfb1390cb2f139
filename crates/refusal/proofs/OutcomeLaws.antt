-- Laws of outcomes: what is accepted after a test that refuses, and what an answer tells of the outcome.
use Prim.Native.Nat.{ℕ, ◌≤◌, ◌<◌}
use native.Mathlib.Omega.{arith}
use mathlib.Core.Path.{◌≡◌, refl}
use mathlib.Core.Bool.{Bool, false, cond}
use Rattle.std.specs.Prelude.{Option, None, Some}
use borrow.Author.Tests.{lt-ltb, le-ltb, ltb-false}
use lib.Dec.{ltb}
use Rattle.lists.proofs.BoolLaws.{cond-second}
use Rattle.refusal.specs.declared.Reason.{Reason}
use Rattle.refusal.specs.declared.Reason.TheVariants.{NoRoom}
use Rattle.refusal.specs.declared.Refusal.{Refusal}
use Rattle.refusal.specs.Refusal.{refusal_at}
use Rattle.refusal.specs.Outcome.{Outcome, refused, accepted, refused_with, refuse, refuse_there, refuse_first, if_room, mapped, of_block, and_then}

-- ---- cond: a test that refuses

pub cond-accepted : {A : Type 0} (t : Bool) (r : Refusal) (later : Outcome A) (given : A) → cond t (refused_with r) later ≡ accepted given
    → (t ≡ false) × (later ≡ accepted given)
cond-accepted t r later given = cond-second t (refused_with r) later (accepted given) (λ e. let z : ◌≡◌ {A = ℕ} 0 1 = cc in omega arith)

-- ---- refuse_there, refuse_first

-- then no place was found
pub refuse_there-accepted : {A : Type 0} (reason : ℕ → Reason) (found : Option ℕ) (later : Outcome A) (given : A)
    → refuse_there reason found later ≡ accepted given → (found ≡ None) × (later ≡ accepted given)
refuse_there-accepted reason None later given e = (refl, e)
refuse_there-accepted reason (Some place) later given e = absurd (let z : ◌≡◌ {A = ℕ} 0 1 = cc in omega arith)

pub refuse_first-accepted : {A : Type 0} (reason : Reason) (found : Option ℕ) (later : Outcome A) (given : A)
    → refuse_first reason found later ≡ accepted given → (found ≡ None) × (later ≡ accepted given)
refuse_first-accepted reason = refuse_there-accepted (λ _. reason)

-- ---- if_room

pub if_room-no_room : {A : Type 0} (room n : ℕ) (later : Outcome A) → room < n → if_room room n later ≡ refuse NoRoom 0
unfolding if_room
if_room-no_room room n later h = rw (lt-ltb room n h)

pub if_room-room : {A : Type 0} (room n : ℕ) (later : Outcome A) → n ≤ room → if_room room n later ≡ later
unfolding if_room
if_room-room room n later h = rw (le-ltb room n h)

pub if_room-accepted : {A : Type 0} (room n : ℕ) (later : Outcome A) (given : A) → if_room room n later ≡ accepted given
    → (n ≤ room) × (later ≡ accepted given)
unfolding if_room
if_room-accepted room n later given e = let r = cond-accepted (ltb room n) (refusal_at NoRoom 0) later given e in (ltb-false room n r.0, r.1)

-- ---- and_then, of_block, accepted

pub and_then-accepted : {A B : Type 0} (o : Outcome A) (next : A → Outcome B) (given : B) → and_then o next ≡ accepted given
    → (x : A) × (o ≡ accepted x) × (next x ≡ accepted given)
and_then-accepted (refused why) next given e = absurd (let z : ◌≡◌ {A = ℕ} 0 1 = cc in omega arith)
and_then-accepted (accepted x) next given e = (x, refl, e)

pub of_block-accepted : {A : Type 0} (block : ℕ) (o : Outcome A) (given : A) → of_block block o ≡ accepted given → o ≡ accepted given
of_block-accepted block (refused why) given e = absurd (let z : ◌≡◌ {A = ℕ} 0 1 = cc in omega arith)
of_block-accepted block (accepted x) given e = e

-- an outcome gives one thing
pub accepted-once : {A : Type 0} {o : Outcome A} {x y : A} → o ≡ accepted x → o ≡ accepted y → x ≡ y
accepted-once e q = cc

-- ---- mapped: what is answered tells the outcome

pub mapped-refused : {A B : Type 0} (f : A → B) (o : Outcome A) (r : Refusal) → refused_with r ≡ mapped f o → o ≡ refused_with r
mapped-refused f (refused why) r e = cc
mapped-refused f (accepted given) r e = absurd (let z : ◌≡◌ {A = ℕ} 0 1 = cc in omega arith)

pub mapped-accepted : {A B : Type 0} (f : A → B) (o : Outcome A) {x : B} → accepted x ≡ mapped f o → (y : A) × (o ≡ accepted y) × (f y ≡ x)
mapped-accepted f (refused why) e = absurd (let z : ◌≡◌ {A = ℕ} 0 1 = cc in omega arith)
mapped-accepted f (accepted given) e = (given, refl, cc)
