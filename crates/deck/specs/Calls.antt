-- The calls of the reader by pulses: the numbers of its state, which states are sound, what each call leaves and says.
use Rattle.std.specs.Prelude.{ℕ, ◌+◌, Bool, cond, not, ◌&&◌, ◌||◌, List, [], ◌∷◌, eqb, leb, ltb, length}
use Rattle.refusal.specs.declared.Reason.TheVariants.{WrongSize, NoRoom, NoStart, CutShort, WrongCountdown, LostByte, WrongChecksum}
use Rattle.refusal.specs.Refusal.{Why, refusal_at, why_of}
use Rattle.refusal.specs.Outcome.{Outcome, accepted, refuse, outcome_of}
use Rattle.pulse.specs.declared.Class.{Class}
use Rattle.start.specs.Copies.{end_of}
use Rattle.block.specs.declared.Extent.{Extent}
use Rattle.deck.specs.declared.Frame.{Frame}
use Rattle.deck.specs.declared.Checks.{Checks}
use Rattle.deck.specs.declared.Deck.{Deck}
use Rattle.deck.specs.declared.Said.{Said}
use Rattle.deck.specs.declared.Said.TheVariants.{Nothing, Answer, Refused}
use Rattle.deck.specs.Limit.{outside}
use Rattle.deck.specs.Frame.{frame_of}
use Rattle.deck.specs.Judge.{checks_of}
use Rattle.deck.specs.Work.{fits}
use Rattle.deck.specs.Step.{Phase, Seeking, InOne, Between, InTwo, Told, Standing, standing, step}

-- ---- The state in numbers

abbrev no_frame : Frame
no_frame = frame_of 0 0 0

abbrev none_checked : Checks
none_checked = checks_of 0 0 0 0 0

-- the numbers of a deck: those that its phase does not have are 0
abbrev pub deck_of : (n taken : ℕ) → Phase → Deck
deck_of n taken (Seeking matched) =
    record { n = n; taken = taken; start = 0; place = 0; phase = 0; heard = matched; answer = 0; refused = 0; frame = no_frame; checks = none_checked }
deck_of n taken (InOne start place heard frame) =
    record { n = n; taken = taken; start = start; place = place; phase = 1; heard = heard; answer = 0; refused = 0; frame = frame; checks = none_checked }
deck_of n taken (Between start heard) =
    record { n = n; taken = taken; start = start; place = 0; phase = 2; heard = heard; answer = 0; refused = 0; frame = no_frame; checks = none_checked }
deck_of n taken (InTwo start place heard frame checks) =
    record { n = n; taken = taken; start = start; place = place; phase = 3; heard = heard; answer = 0; refused = 0; frame = frame; checks = checks }
deck_of n taken (Told start answer checks) =
    record { n = n; taken = taken; start = start; place = 0; phase = 4; heard = 0; answer = answer; refused = 0; frame = no_frame; checks = checks }

-- what a deck with these numbers is doing
unfoldable pub phase_of : Deck → Phase
phase_of d =
    cond (eqb d.phase 0) (Seeking d.heard)
    (cond (eqb d.phase 1) (InOne d.start d.place d.heard d.frame)
    (cond (eqb d.phase 2) (Between d.start d.heard)
    (cond (eqb d.phase 3) (InTwo d.start d.place d.heard d.frame d.checks)
    (Told d.start d.answer d.checks))))

-- a frame that is being read, at a place of a copy
abbrev sound_frame : (n place heard : ℕ) → Frame → Bool
sound_frame n place heard frame = ltb place (n + 10) && ltb heard 20 && leb frame.wrong 10

-- these numbers go together
abbrev pub sound_in : (n taken refused : ℕ) → Phase → Bool
sound_in n taken refused (Seeking matched) = ltb matched 36 && leb matched taken
sound_in n taken refused (InOne start place heard frame) = sound_frame n place heard frame
sound_in n taken refused (Between start heard) = ltb heard 61
sound_in n taken refused (InTwo start place heard frame checks) = sound_frame n place heard frame
sound_in n taken refused (Told start answer checks) = eqb refused 0 && (eqb answer 0 || (leb 3 answer && leb answer 7))

-- A state that a caller made up, or whose beginning was refused, may not be sound. Every state that comes of an accepted beginning is.
unfoldable pub is_sound : Deck → Bool
is_sound d = not (outside 65534 d.n) && leb d.refused 2 && leb d.phase 4 && sound_in d.n d.taken d.refused (phase_of d)

-- no call changes it: it is not sound, or it has answered
unfoldable pub is_closed : Deck → Bool
is_closed d = not (is_sound d) || eqb d.phase 4

-- ---- What a call leaves

-- the state, and the two lent buffers
pub record Lent : Type 0 where
  pub deck : Deck
  pub work : List ℕ
  pub out : List ℕ

abbrev pub lent : (deck : Deck) (work out : List ℕ) → Lent
lent deck work out = record { deck = deck; work = work; out = out }

abbrev pub lent_of : (n : ℕ) → Standing → Lent
lent_of n (standing taken phase work out) = lent (deck_of n taken phase) work out

-- the same state, but for the number with which a call was refused
abbrev pub deck_refusing : (number : ℕ) → Deck → Deck
deck_refusing number d = record {
  n = d.n;
  taken = d.taken;
  start = d.start;
  place = d.place;
  phase = d.phase;
  heard = d.heard;
  answer = d.answer;
  refused = number;
  frame = d.frame;
  checks = d.checks;
}

abbrev pub refusing : (number : ℕ) → Lent → Lent
refusing number l = lent (deck_refusing number l.deck) l.work l.out

-- one pulse; after an answer nothing changes
unfoldable pub step_lent : Lent → Class → Lent
step_lent l c =
    let d = l.deck in
    cond (eqb d.phase 4) l (lent_of d.n (step d.n (standing d.taken (phase_of d) l.work l.out) c))

-- one pulse after the other
unfoldable pub steps_lent : Lent → List Class → Lent
steps_lent l [] = l
steps_lent l (c ∷ cs) = steps_lent (step_lent l c) cs

-- a state that no later call gets on with
abbrev pub not_begun : (number : ℕ) → Deck
not_begun number = deck_refusing number (deck_of 0 0 (Seeking 0))

-- the beginning: refusals 1 and 2 in this order, by the lengths of the two buffers
unfoldable pub begin_deck : (n work out : ℕ) → Deck
begin_deck n work out =
    cond (outside 65534 n) (not_begun 1)
    (cond (not (fits n work out)) (not_begun 2)
    (deck_of n 0 (Seeking 0)))

-- before an answer, on a sound state: refusal 2, else what is done with the two buffers
unfoldable pub if_lent : Lent → (otherwise : Lent) → Lent
if_lent l otherwise = cond (not (fits l.deck.n (length l.work) (length l.out))) (refusing 2 l) otherwise

-- a run of pulses: refusal 1 where the pulses in all would be more than 4,294,967,295, then 2
unfoldable pub take_run : Lent → List Class → Lent
take_run l cs =
    cond (is_closed l.deck) l
    (cond (ltb 4294967295 (l.deck.taken + length cs)) (refusing 1 l)
    (if_lent l (steps_lent (refusing 0 l) cs)))

-- the end of the pulses: 3 where there is no start yet, 4 where copy two is not over
abbrev pub ended_in : Phase → Phase
ended_in (Seeking matched) = Told 0 3 none_checked
ended_in (InOne start place heard frame) = Told start 4 none_checked
ended_in (Between start heard) = Told start 4 none_checked
ended_in (InTwo start place heard frame checks) = Told start 4 none_checked
ended_in (Told start answer checks) = Told start answer checks

unfoldable pub take_end : Lent → Lent
take_end l =
    cond (is_closed l.deck) l
    (if_lent l (lent (deck_of l.deck.n l.deck.taken (ended_in (phase_of l.deck))) l.work l.out))

-- ---- What a call says

-- nothing yet, the answer, or that the call was refused
pub data Saying : Type 0 where
  Silent : Saying
  Answered : (outcome : Outcome Extent) → Saying
  Denied : (why : Why) → Saying

-- the answer by its number
unfoldable pub outcome_by : (n start answer : ℕ) → Checks → Outcome Extent
outcome_by n start answer c =
    cond (eqb answer 0) (accepted (record { n = n; start = start; end = end_of start n }))
    (cond (eqb answer 3) (refuse NoStart 0)
    (cond (eqb answer 4) (refuse CutShort start)
    (cond (eqb answer 5) (refuse WrongCountdown c.failed)
    (cond (eqb answer 6) (refuse (LostByte (record { one = c.one; two = c.two })) c.lost)
    (refuse WrongChecksum n)))))

abbrev pub said_in : (n : ℕ) → Phase → Saying
said_in n (Seeking matched) = Silent
said_in n (InOne start place heard frame) = Silent
said_in n (Between start heard) = Silent
said_in n (InTwo start place heard frame checks) = Silent
said_in n (Told start answer checks) = Answered (outcome_by n start answer checks)

-- a state that is not sound was refused: with 2 where it says so, else with 1
unfoldable pub said_by : Deck → Saying
said_by d =
    cond (not (is_sound d) || not (eqb d.refused 0)) (Denied (why_of (refusal_at (cond (eqb d.refused 2) NoRoom WrongSize) 0)))
    (said_in d.n (phase_of d))

-- what is answered
abbrev pub saying_of : Said → Saying
saying_of Nothing = Silent
saying_of (Answer answer) = Answered (outcome_of answer)
saying_of (Refused r) = Denied (why_of r)
