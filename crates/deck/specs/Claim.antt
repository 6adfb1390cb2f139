-- What holds of the reader by pulses (document 02, Q-7).
use Rattle.std.specs.Prelude.{ℕ, ◌+◌, ◌*◌, ◌/◌, ◌%◌, ◌≤◌, ◌<◌, ◌≡◌, ◌⊎◌, Bool, true, false, cond, ◌||◌, List, [], ◌∷◌, ◌++◌, map, eqb, ltb, length, get_or, Option, None, Some}
use Rattle.lists.specs.Places.{tabulate, Below}
use Rattle.lists.specs.Buffer.{put_at}
use Rattle.refusal.specs.declared.Reason.{Reason}
use Rattle.refusal.specs.declared.Reason.TheVariants.{WrongSize, NoRoom}
use Rattle.refusal.specs.Refusal.{refusal_at, why_of}
use Rattle.refusal.specs.Outcome.{Outcome, accepted, mapped, puts}
use Rattle.pulse.specs.declared.Class.{Class}
use Rattle.pulse.specs.Pulse.{fixed, classes}
use Rattle.byte.specs.declared.ByteRead.{ByteRead}
use Rattle.byte.specs.declared.ByteRead.TheVariants.{Good, Bad}
use Rattle.byte.specs.Byte.{byte_at}
use Rattle.start.specs.Start.{start_of}
use Rattle.start.specs.Copies.{byte_place, copy_two, end_of}
use Rattle.block.specs.declared.Extent.{Extent}
use Rattle.block.specs.Block.{wrong_size, wrong_leader}
use Rattle.block.specs.Reading.{BlockRead, extent_of, payload_of, read_copies, read_block}
use Rattle.block.specs.Damage.{Damaged}
use Rattle.deck.specs.declared.Deck.{Deck}
use Rattle.deck.specs.Limit.{outside, read_up_to}
use Rattle.deck.specs.Work.{fits, value_byte, cause_byte}
use Rattle.deck.specs.Calls.{Lent, lent, refusing, is_sound, is_closed, begin_deck, take_run, take_end, Saying, Silent, Answered, Denied, said_by}

-- ---- Words for the claims

-- several runs, one after the other; a single pulse is a run of one
unfoldable pub take_runs : Lent → List (List Class) → Lent
take_runs l [] = l
take_runs l (cs ∷ runs) = take_runs (take_run l cs) runs

-- as pulses
abbrev pub take_pulses : Lent → List (List ℕ) → Lent
take_pulses l runs = take_runs l (map (classes fixed) runs)

-- all pulses of several runs
unfoldable pub joined : {A : Type 0} → List (List A) → List A
joined [] = []
joined (xs ∷ runs) = xs ++ joined runs

-- each pulse by itself
unfoldable pub singles : List Class → List (List Class)
singles [] = []
singles (c ∷ cs) = (c ∷ []) ∷ singles cs

-- a deck that has just begun, with these buffers
abbrev pub begun : (n : ℕ) (work out : List ℕ) → Lent
begun n work out = lent (begin_deck n (length work) (length out)) work out

-- n and the buffers are what a beginning asks for
pub record Begins (n : ℕ) (work out : List ℕ) : Type 0 where
  pub size : outside 65534 n ≡ false
  pub room : fits n (length work) (length out) ≡ true

-- the buffers that are lent are long enough
abbrev pub has_room : Lent → Bool
has_room l = fits l.deck.n (length l.work) (length l.out)

-- the call was refused for this reason
abbrev pub refused_for : Reason → Saying
refused_for reason = Denied (why_of (refusal_at reason 0))

-- what is told after these pulses, before the end is: nothing while there is no start or copy two is not over
abbrev pub told_from : Option ℕ → (cs : List Class) (n : ℕ) → Option (Outcome BlockRead)
told_from None cs n = None
told_from (Some p) cs n = cond (ltb (length cs) (end_of p n)) None (Some (read_copies cs p n))

unfoldable pub told_after : (cs : List Class) (n : ℕ) → Option (Outcome BlockRead)
told_after cs n = told_from (start_of cs 0) cs n

abbrev pub saying_with : Option (Outcome BlockRead) → Saying
saying_with None = Silent
saying_with (Some o) = Answered (mapped extent_of o)

abbrev pub out_with : Option (Outcome BlockRead) → (out : List ℕ) → List ℕ
out_with None out = out
out_with (Some o) out = put_at out 0 (puts (mapped payload_of o))

-- a good byte of copy two replaces a bad one
abbrev pub kept : (one two : ByteRead) → ByteRead
kept (Good v) two = Good v
kept (Bad cause) (Good v) = Good v
kept (Bad one) (Bad two) = Bad one

-- the byte that stands at place i after these pulses, the start being p: none before the twentieth pulse of copy one's byte is in; then that one;
-- after the twentieth pulse of copy two's byte, which at a countdown place changes nothing, what is kept of both
unfoldable pub stands_at : (cs : List Class) (p n i : ℕ) → Option ByteRead
stands_at cs p n i =
    let one = byte_at cs (byte_place p i) in
    let two = byte_at cs (byte_place (copy_two p n) i) in
    cond (ltb (length cs) (byte_place p i + 20)) None
    (cond (ltb i 9 || ltb (length cs) (byte_place (copy_two p n) i + 20)) (Some one) (Some (kept one two)))

-- byte b of the working buffer, where `held` stood
abbrev pub byte_with : Option ByteRead → (b held : ℕ) → ℕ
byte_with None b held = held
byte_with (Some r) b held = cond (eqb (b % 2) 0) (value_byte r) (cause_byte r)

abbrev pub work_byte : Option ℕ → (cs : List Class) (n b held : ℕ) → ℕ
work_byte None cs n b held = held
work_byte (Some p) cs n b held = cond (ltb b (2 * (n + 10))) (byte_with (stands_at cs p n (b / 2)) b held) held

-- the working buffer after these pulses; bytes past 2(n + 10) never change
unfoldable pub work_after : (cs : List Class) (n : ℕ) (work : List ℕ) → List ℕ
work_after cs n work = tabulate (λ b. work_byte (start_of cs 0) cs n b (get_or work b 0)) (length work) 0

-- ---- The claims

-- For every strip of up to 4,294,967,295 pulses, cut in any way, and all buffers with room: after the end is told the answer and the output are
-- those of the reading rule from place 0, with the limit 65,534.
pub record Reads : Type 0 where
  pub rule : (n : ℕ) (work out : List ℕ) (runs : List (List ℕ)) → Begins n work out → length (joined runs) ≤ 4294967295
      → (let l = take_end (take_pulses (begun n work out) runs) in
      let o = read_up_to 65534 (classes fixed (joined runs)) (length out) 0 n in
      (said_by l.deck ≡ Answered (mapped extent_of o)) × (l.out ≡ put_at out 0 (puts (mapped payload_of o))))
  -- Where a block may have n bytes for it, this is the strip reader.
  pub strip : (cs : List Class) (room n : ℕ) → wrong_size n ≡ false → read_up_to 65534 cs room 0 n ≡ read_block cs room 0 n
  -- With the limit 8,192 the rule is the strip reader's, from any place on.
  pub limit : (cs : List Class) (room from n : ℕ) → read_up_to 8192 cs room from n ≡ read_block cs room from n

-- Before that, after any pulses, cut in any way: what is said, the output, and the working buffer.
pub record Tells : Type 0 where
  pub after : (n : ℕ) (work out : List ℕ) (runs : List (List ℕ)) → Begins n work out → length (joined runs) ≤ 4294967295
      → (let l = take_pulses (begun n work out) runs in
      let cs = classes fixed (joined runs) in
      (said_by l.deck ≡ saying_with (told_after cs n)) × (l.out ≡ out_with (told_after cs n) out) × (l.work ≡ work_after cs n work))
  -- The end, told to any state, leaves both buffers as they are.
  pub end : (l : Lent) → ((take_end l).work ≡ l.work) × ((take_end l).out ≡ l.out)

-- Cutting does not matter, to any state, within the limit of pulses: a run is the same as two that make it up, and one that is not empty as its
-- pulses one by one.
pub record Cuts : Type 0 where
  pub two : (l : Lent) (cs ds : List Class) → l.deck.taken + length (cs ++ ds) ≤ 4294967295 → take_run l (cs ++ ds) ≡ take_run (take_run l cs) ds
  pub each : (l : Lent) (c : Class) (cs : List Class) → l.deck.taken + length (c ∷ cs) ≤ 4294967295
      → take_run l (c ∷ cs) ≡ take_runs l (singles (c ∷ cs))

-- What a call that comes too late, or is refused, leaves.
pub record Stays : Type 0 where
  -- After an answer nothing changes, whatever buffers are lent.
  pub answered : (d : Deck) (work out : List ℕ) (o : Outcome Extent) → said_by d ≡ Answered o
      → ((cs : List Class) → take_run (lent d work out) cs ≡ lent d work out) × (take_end (lent d work out) ≡ lent d work out)
  -- A deck whose beginning was refused, or that no beginning gives, stays as it is.
  pub unsound : (d : Deck) (work out : List ℕ) → is_sound d ≡ false
      → ((cs : List Class) → take_run (lent d work out) cs ≡ lent d work out) × (take_end (lent d work out) ≡ lent d work out)
  -- After a call that was refused before an answer, the next goes on as if it had not been.
  pub refused : (l : Lent) (number : ℕ) → is_closed l.deck ≡ false → number ≤ 2
      → ((cs : List Class) → take_run (refusing number l) cs ≡ take_run l cs) × (take_end (refusing number l) ≡ take_end l)

-- What each refusal says, and that a call so refused leaves all else as it was.
pub record Refuses : Type 0 where
  -- the beginning: 1, then 2
  pub size : (n work out : ℕ) → outside 65534 n ≡ true → said_by (begin_deck n work out) ≡ refused_for WrongSize
  pub room : (n work out : ℕ) → outside 65534 n ≡ false → fits n work out ≡ false → said_by (begin_deck n work out) ≡ refused_for NoRoom
  -- a run before an answer: 1, then 2; the end: 2
  pub run_size : (l : Lent) (cs : List Class) → is_closed l.deck ≡ false → 4294967295 < l.deck.taken + length cs
      → (take_run l cs ≡ refusing 1 l) × (said_by (take_run l cs).deck ≡ refused_for WrongSize)
  pub run_room : (l : Lent) (cs : List Class) → is_closed l.deck ≡ false → l.deck.taken + length cs ≤ 4294967295 → has_room l ≡ false
      → (take_run l cs ≡ refusing 2 l) × (said_by (take_run l cs).deck ≡ refused_for NoRoom)
  pub end_room : (l : Lent) → is_closed l.deck ≡ false → has_room l ≡ false → (take_end l ≡ refusing 2 l) × (said_by (take_end l).deck ≡ refused_for NoRoom)

-- Which states are sound, and what holds of any state.
pub record Sound : Type 0 where
  -- A beginning that is not refused says nothing, and is sound; every call keeps a sound state sound.
  pub begins : (n : ℕ) (work out : List ℕ) → Begins n work out → (said_by (begun n work out).deck ≡ Silent) × (is_sound (begun n work out).deck ≡ true)
  pub runs : (l : Lent) (cs : List Class) → is_sound l.deck ≡ true → is_sound (take_run l cs).deck ≡ true
  pub ends : (l : Lent) → is_sound l.deck ≡ true → is_sound (take_end l).deck ≡ true
  -- The output of any state changes only with an acceptance.
  pub out : (l : Lent) (cs : List Class)
      → ((take_run l cs).out ≡ l.out) ⊎ ((e : Extent) × (said_by (take_run l cs).deck ≡ Answered (accepted e)))

-- Demand 3's damage is borne: any one block of up to 65,534 bytes, with any leader that is written, cut in any way. The answer comes before the
-- end is told.
pub record Bears : Type 0 where
  pub damage : (k : ℕ) (payload work out : List ℕ) (runs : List (List ℕ)) → wrong_leader k ≡ false → Below 256 payload → Begins (length payload) work out
      → Damaged fixed k payload (joined runs)
      → (let l = take_pulses (begun (length payload) work out) runs in
      (said_by l.deck ≡ Answered (accepted (record { n = length payload; start = k; end = end_of k (length payload) })))
      × (l.out ≡ put_at out 0 payload))
