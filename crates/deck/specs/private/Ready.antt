-- What a call hands back where it takes nothing, what settling asks for, and the two halves of a pulse: it is heard, and what is whole is settled.
use Rattle.std.specs.Prelude.{ℕ, suc, ◌+◌, ◌-◌, ◌*◌, ◌<◌, ◌≤◌, ◌≡◌, List, Bool, true, false, cond, not, ◌&&◌, ◌||◌, eqb, leb, ltb, Option, None, Some}
use Rattle.pulse.specs.declared.Class.{Class}
use Rattle.byte.specs.declared.ByteRead.{ByteRead}
use Rattle.byte.specs.declared.ByteRead.TheVariants.{Good}
use Rattle.deck.specs.declared.Checks.{Checks}
use Rattle.deck.specs.declared.Deck.{Deck}
use Rattle.deck.specs.declared.state.Phase as own
use Rattle.deck.specs.Frame.{fresh, take_pulse}
use Rattle.deck.specs.Lead.{seek}
use Rattle.deck.specs.Work.{fits, cause_byte, put_byte, get_byte}
use Rattle.deck.specs.Judge.{no_checks}
use Rattle.deck.specs.Step.{Phase, Seeking, InOne, Between, InTwo, Told, Standing, standing, placed, judged}
use Rattle.deck.specs.Calls.{phase_of, is_closed, deck_refusing}

-- the phase that a value of the code's own enum stands for
abbrev pub doing : own.Phase → Phase
doing (own.Phase.Seeking matched) = Seeking matched
doing (own.Phase.InOne start place heard frame) = InOne start place heard frame
doing (own.Phase.Between start heard) = Between start heard
doing (own.Phase.InTwo start place heard frame checks) = InTwo start place heard frame checks
doing (own.Phase.Told start answer checks) = Told start answer checks

-- the deck that a call with so many pulses hands back where it takes nothing: a closed one as it is, or one that says why the call is refused
unfoldable pub turned_away : Deck → (count work out : ℕ) → Option Deck
turned_away d count work out =
    cond (is_closed d) (Some d)
    (cond (ltb 4294967295 (d.taken + count)) (Some (deck_refusing 1 d))
    (cond (not (fits d.n work out)) (Some (deck_refusing 2 d)) None))

-- a block of n bytes, with the buffers' room for it
pub record Roomy (n work out : ℕ) : Type 0 where
  pub most : n ≤ 65534
  pub working : 2 * (n + 10) ≤ work
  pub payload : n ≤ out

-- what settling asks for, by the phase: all of the lead is taken, or the place is one of a copy; and there is no answer yet
abbrev pub settles_in : (n taken : ℕ) → Phase → Bool
settles_in n taken (Seeking matched) = leb 20 taken
settles_in n taken (InOne start place heard frame) = ltb place (n + 10)
settles_in n taken (Between start heard) = true
settles_in n taken (InTwo start place heard frame checks) = ltb place (n + 10)
settles_in n taken (Told start answer checks) = false

pub record Settles (d : Deck) (read : ByteRead) (work out : ℕ) : Type 0 where
  pub room : Roomy d.n work out
  pub numbers : settles_in d.n d.taken (phase_of d) ≡ true
  pub cause : cause_byte read < 256

-- a pulse more is heard
abbrev pub fed_in : Phase → Class → Phase
fed_in (Seeking matched) c = Seeking (seek matched c)
fed_in (InOne start place heard frame) c = InOne start place (suc heard) (take_pulse heard frame c)
fed_in (Between start heard) c = Between start (suc heard)
fed_in (InTwo start place heard frame checks) c = InTwo start place (suc heard) (take_pulse heard frame c) checks
fed_in (Told start answer checks) c = Told start answer checks

-- the lead, the frame or the gap is whole
abbrev pub whole_in : Phase → Bool
whole_in (Seeking matched) = eqb matched 36
whole_in (InOne start place heard frame) = eqb heard 20
whole_in (Between start heard) = eqb heard 61
whole_in (InTwo start place heard frame checks) = eqb heard 20
whole_in (Told start answer checks) = false

-- byte place i of copy two is `two`, with copy one's byte in the working buffer
abbrev pub judged_here : (n k start i : ℕ) (two : ByteRead) → Checks → (work out : List ℕ) → Standing
judged_here n k start i two checks work out = judged n k start i (get_byte work i) two checks work out

-- it is settled, a byte being `read`
abbrev pub settled : (n : ℕ) → Standing → (read : ByteRead) → Standing
settled n (standing k (Seeking matched) work out) read = standing k (InOne (k - 20) 1 0 fresh) (put_byte work 0 (Good 0x89)) out
settled n (standing k (InOne start place heard frame) work out) read = placed n k start place read work out
settled n (standing k (Between start heard) work out) read = standing k (InTwo start 0 0 fresh (no_checks n)) work out
settled n (standing k (InTwo start place heard frame checks) work out) read = judged_here n k start place read checks work out
settled n (standing k (Told start answer checks) work out) read = standing k (Told start answer checks) work out

-- no pulse of a frame is heard yet
unfoldable pub is_at_frame : Deck → Bool
is_at_frame d =
    (((eqb d.phase 1 || eqb d.phase 3) && eqb d.heard 0) && eqb d.frame.bits 0) && eqb d.frame.wrong 10
