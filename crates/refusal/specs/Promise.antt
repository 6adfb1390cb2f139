-- What a call promises, by what it comes to. The contract of a call that refuses and is lent a buffer is made of two words: `Answers` and
-- `Fills`. One that is lent none has an equation of its answer alone.
use Rattle.std.specs.Prelude.{ℕ, ◌≡◌, List, length, Result}
use Rattle.refusal.specs.declared.Refusal.{Refusal}
use Rattle.lists.specs.Buffer.{put_at}
use Rattle.refusal.specs.Outcome.{Outcome, mapped, puts, outcome_of}

-- the answer is the outcome's: what a view makes of the refusal, or of a part of what is given
abbrev pub Answers : {A B C : Type 0} (view : Outcome B → C) (pick : A → B) (o : Outcome A) (answer : C) → Type 0
Answers view pick o answer = answer ≡ view (mapped pick o)

-- the buffer that held `out` holds `out'`: in front what the outcome puts, a part of what is given, and else what it held
abbrev pub Fills : {A : Type 0} (pick : A → List ℕ) (o : Outcome A) (out out' : List ℕ) → Type 0
Fills pick o out out' = out' ≡ put_at out 0 (puts (mapped pick o))

-- the view of an outcome as it stands, and the part that is all of what is given
abbrev pub itself : {A : Type 0} → A → A
itself x = x

-- what a writer promises: it answers r and leaves out' in the buffer that held out
abbrev pub Written : (o : Outcome (List ℕ)) (out : List ℕ) (r : Result ℕ Refusal) (out' : List ℕ) → Type 0
Written o out r out' = Answers itself length o (outcome_of r) × Fills itself o out out'
