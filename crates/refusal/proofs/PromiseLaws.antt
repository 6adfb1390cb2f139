-- Laws of what a call promises, proved once for all calls: refused, and accepted. That a call refuses for want of room is `if_room-no_room`
-- of OutcomeLaws.
use Prim.Native.Nat.{ℕ}
use Rattle.std.specs.Prelude.{Err, Ok}
use native.Mathlib.Omega.{arith}
use mathlib.Core.Path.{◌≡◌, ap}
use mathlib.Core.List.{List, []}
use borrow.Author.Tests.{le-leb}
use lib.ListN.{length}
use Rattle.lists.specs.Buffer.{put_at}
use Rattle.refusal.specs.declared.Refusal.{Refusal}
use Rattle.refusal.specs.Refusal.{Why}
use Rattle.refusal.specs.Outcome.{Outcome, refused, accepted, refused_with}
use Rattle.refusal.specs.Promise.{Answers, Fills, itself, Written}

-- nothing put
pub put-nothing : (buffer : List ℕ) → buffer ≡ put_at buffer 0 []
unfolding put_at
put-nothing buffer = rw (le-leb 0 (length buffer) (omega arith))

-- ---- Refused: the refusal is answered, and the buffer is as it was

pub answers-refused : {A B : Type 0} (pick : A → B) (o : Outcome A) {why : Why} {answer : Outcome B} → o ≡ refused why → answer ≡ refused why
    → Answers itself pick o answer
answers-refused pick o e q = rw e q

pub fills-refused : {A : Type 0} (pick : A → List ℕ) (o : Outcome A) (out : List ℕ) {why : Why} → o ≡ refused why → Fills pick o out out
fills-refused pick o out e = rw e (put-nothing out)

-- a call that is lent one buffer
pub promise-refused : {A B : Type 0} (said : A → B) (put : A → List ℕ) (o : Outcome A) (out : List ℕ) {why : Why} {answer : Outcome B} → o ≡ refused why
    → answer ≡ refused why → Answers itself said o answer × Fills put o out out
promise-refused said put o out e q = (answers-refused said o e q, fills-refused put o out e)

pub written-refused : (o : Outcome (List ℕ)) (out : List ℕ) {r s : Refusal} → o ≡ refused_with s → r ≡ s → Written o out (Err r) out
written-refused o out e q = promise-refused length itself o out e (ap refused_with q)

-- ---- Accepted: a part of what is given is answered, and a part is put

pub answers-accepted : {A B : Type 0} (pick : A → B) (o : Outcome A) {given : A} {x : B} → o ≡ accepted given → pick given ≡ x
    → Answers itself pick o (accepted x)
answers-accepted pick o e q = rw (e, q)

pub fills-accepted : {A : Type 0} (pick : A → List ℕ) (o : Outcome A) (out : List ℕ) {given : A} {out' : List ℕ} → o ≡ accepted given
    → out' ≡ put_at out 0 (pick given) → Fills pick o out out'
fills-accepted pick o out e q = rw e q

-- a call that is lent one buffer
pub promise-accepted : {A B : Type 0} (said : A → B) (put : A → List ℕ) (o : Outcome A) (out : List ℕ) {given : A} {x : B} {out' : List ℕ} → o ≡ accepted given
    → said given ≡ x → out' ≡ put_at out 0 (put given) → Answers itself said o (accepted x) × Fills put o out out'
promise-accepted said put o out e l q = (answers-accepted said o e l, fills-accepted put o out e q)

pub written-accepted : (o : Outcome (List ℕ)) (out : List ℕ) {values out' : List ℕ} {count : ℕ} → o ≡ accepted values → length values ≡ count
    → out' ≡ put_at out 0 values → Written o out (Ok count) out'
written-accepted o out e l q = promise-accepted length itself o out e l q
