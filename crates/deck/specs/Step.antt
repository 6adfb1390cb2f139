-- The reader by pulses (document 02, Q-7): what it is doing, and what one pulse changes.
use Rattle.std.specs.Prelude.{ℕ, suc, ◌+◌, ◌-◌, cond, List, eqb}
use Rattle.pulse.specs.declared.Class.{Class}
use Rattle.byte.specs.declared.ByteRead.{ByteRead}
use Rattle.byte.specs.declared.ByteRead.TheVariants.{Good}
use Rattle.block.specs.Reading.{place_of, place_value}
use Rattle.deck.specs.declared.Frame.{Frame}
use Rattle.deck.specs.declared.Checks.{Checks}
use Rattle.deck.specs.Frame.{fresh, take_pulse, closed}
use Rattle.deck.specs.Lead.{seek}
use Rattle.deck.specs.Work.{put_byte, get_byte}
use Rattle.deck.specs.Judge.{no_checks, check_byte, mend_byte, answer_by, filled}

-- looking for the start, with so many pulses of the lead heard; in copy one, at a byte place with so many pulses of its frame heard; between
-- the copies; in copy two; or it has answered, with 0 or the number of a refusal
pub data Phase : Type 0 where
  Seeking : (matched : ℕ) → Phase
  InOne : (start place heard : ℕ) (frame : Frame) → Phase
  Between : (start heard : ℕ) → Phase
  InTwo : (start place heard : ℕ) (frame : Frame) (checks : Checks) → Phase
  Told : (start answer : ℕ) (checks : Checks) → Phase

-- how many pulses are taken, the phase, and the two lent buffers
pub data Standing : Type 0 where
  standing : (taken : ℕ) (phase : Phase) (work out : List ℕ) → Standing

-- `matched` pulses of the lead end the k pulses taken: with all 36 the start is settled, and its byte stands at place 0
unfoldable pub sought : (k matched : ℕ) (work out : List ℕ) → Standing
sought k matched work out =
    cond (eqb matched 36) (standing k (InOne (k - 20) 1 0 fresh) (put_byte work 0 (Good 0x89)) out)
    (standing k (Seeking matched) work out)

-- byte place i of copy one is r
unfoldable pub placed : (n k start i : ℕ) → ByteRead → (work out : List ℕ) → Standing
placed n k start i r work out =
    cond (eqb (suc i) (n + 10)) (standing k (Between start 0) (put_byte work i r) out)
    (standing k (InOne start (suc i) 0 fresh) (put_byte work i r) out)

-- the last place of copy two is checked
unfoldable pub told : (n k start answer : ℕ) → Checks → (work out : List ℕ) → Standing
told n k start answer checks work out = standing k (Told start answer checks) work (filled n answer work out)

-- byte place i of copy two is `two`, where copy one has `one`
unfoldable pub judged : (n k start i : ℕ) (one two : ByteRead) → Checks → (work out : List ℕ) → Standing
judged n k start i one two checks work out =
    let checks' = check_byte n i one two checks in
    let work' = mend_byte work i one two in
    let last = told n k start (answer_by n (place_value (place_of one two)) checks') checks' work' out in
    cond (eqb (suc i) (n + 10)) last (standing k (InTwo start (suc i) 0 fresh checks') work' out)

-- one pulse more, of class c
unfoldable pub step : (n : ℕ) → Standing → Class → Standing
step n (standing k (Seeking matched) work out) c = sought (suc k) (seek matched c) work out
step n (standing k (InOne start i heard frame) work out) c =
    let frame' = take_pulse heard frame c in
    let last = placed n (suc k) start i (closed frame') work out in
    cond (eqb (suc heard) 20) last (standing (suc k) (InOne start i (suc heard) frame') work out)
step n (standing k (Between start heard) work out) c =
    cond (eqb (suc heard) 61) (standing (suc k) (InTwo start 0 0 fresh (no_checks n)) work out)
    (standing (suc k) (Between start (suc heard)) work out)
step n (standing k (InTwo start i heard frame checks) work out) c =
    let frame' = take_pulse heard frame c in
    let last = judged n (suc k) start i (get_byte work i) (closed frame') checks work out in
    cond (eqb (suc heard) 20) last (standing (suc k) (InTwo start i (suc heard) frame' checks) work out)
step n (standing k (Told start answer checks) work out) c = standing k (Told start answer checks) work out
