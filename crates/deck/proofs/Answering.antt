-- What the calls around one pulse come to: the search for the start, what is said, calls that take nothing, the payload that is filled in.
use Prim.Native.Nat.{ℕ, ◌+◌, ◌-◌, ◌*◌, ◌/◌, ◌%◌, ◌^◌, ◌≤◌, ◌<◌}
use native.Mathlib.Omega.{arith}
use mathlib.Core.Path.{◌≡◌, refl, sym, ◌∙◌}
use mathlib.Core.Bool.{Bool, true, false, cond, not, ◌||◌}
use mathlib.Core.List.{List}
use borrow.Author.Tests.{eq-eqb, ne_eqb, eqb-true, leb-true, le-ltb, ltb-false}
use lib.Count.{ones}
use lib.Dec.{eqb, leb, ltb}
use lib.ListN.{length, get_or, set}
use Rattle.std.specs.Prelude.{Option, None, Some}
use Rattle.lists.specs.Places.{tabulate}
use Rattle.lists.specs.Buffer.{put_at}
use Rattle.lists.proofs.BufferLaws.{put-room}
use Rattle.lists.proofs.LoopLaws.{Putting, table_left, table-next, table-over, put_one, put-done}
use Rattle.lists.proofs.PlaceLaws.{length-tabulate}
use Rattle.lists.proofs.Table.{every-at}
use Rattle.refusal.specs.declared.Refusal.{Refusal}
use Rattle.refusal.specs.declared.Reason.{Reason}
use Rattle.refusal.specs.declared.Reason.TheVariants.{WrongSize, NoRoom, NoStart, CutShort, WrongCountdown, LostByte, WrongChecksum}
use Rattle.refusal.specs.Refusal.{why_of, refusal_at}
use Rattle.refusal.specs.Outcome.{Outcome, accepted, refused_with}
use Rattle.pulse.specs.declared.Class.{Class}
use Rattle.pulse.specs.declared.Class.TheVariants.{Short, Medium, Long, Noise}
use Rattle.pulse.specs.Pulse.{same}
use Rattle.byte.specs.Byte.{is_odd, bits, parity_bit, coded, byte_classes}
use Rattle.byte.specs.Damage.{differ}
use Rattle.start.specs.Copies.{end_of}
use Rattle.block.specs.declared.Extent.{Extent}
use Rattle.block.specs.declared.PlaceRead.{PlaceRead}
use Rattle.block.specs.declared.PlaceRead.TheVariants.{One, Two, Neither}
use Rattle.block.specs.Looking.{place_read}
use Rattle.deck.specs.declared.Deck.{Deck}
use Rattle.deck.specs.declared.state.Phase as own
use Rattle.deck.specs.declared.Checks.{Checks}
use Rattle.deck.specs.Lead.{lead, ends_with, longest_end, seek}
use Rattle.deck.specs.Work.{fits, payload_in}
use Rattle.deck.specs.Judge.{mended, filled}
use Rattle.deck.specs.Step.{Told}
use Rattle.deck.specs.Calls.{deck_of, phase_of, is_sound, is_closed, lent, deck_refusing, refusing, steps_lent, if_lent, ended_in, take_run, take_end, outcome_by, Silent, Answered, Denied, said_in, said_by}
use Rattle.deck.specs.private.Ready.{doing, turned_away}

-- ---- The search for the start: by masks, as the code has it

is_short : ℕ → Bool
is_short s = eqb (0x65658ffff / 2 ^ s % 2) 1

is_medium : ℕ → Bool
is_medium s = eqb (0x9a9a60000 / 2 ^ s % 2) 1

short : ℕ → ℕ
unfolding is_short
short s = cond (is_short s) (s + 1) (cond (eqb s 16) s (0xc188c18c14 / 2 ^ (2 * (s - 16)) % 4))

medium : ℕ → ℕ
unfolding is_medium
medium s = cond (is_medium s) (s + 1) 0

long : ℕ → ℕ
long s = cond (eqb s 16) (s + 1) 0

module _ (s : ℕ) (h : s < 36) where
  is-short : short s ≡ seek s Short
  unfolding short seek longest_end ends_with lead differ same byte_classes bits coded parity_bit is_odd ones
  is-short = eqb-true (short s) (seek s Short) (every-at (λ i. eqb (short i) (seek i Short)) 36 refl s h)

  is-medium : medium s ≡ seek s Medium
  unfolding medium seek longest_end ends_with lead differ same byte_classes bits coded parity_bit is_odd ones
  is-medium = eqb-true (medium s) (seek s Medium) (every-at (λ i. eqb (medium i) (seek i Medium)) 36 refl s h)

  is-long : long s ≡ seek s Long
  unfolding long seek longest_end ends_with lead differ same byte_classes bits coded parity_bit is_odd ones
  is-long = eqb-true (long s) (seek s Long) (every-at (λ i. eqb (long i) (seek i Long)) 36 refl s h)

  is-noise : 0 ≡ seek s Noise
  unfolding seek longest_end ends_with lead differ same byte_classes bits coded parity_bit is_odd ones
  is-noise = eqb-true 0 (seek s Noise) (every-at (λ i. eqb 0 (seek i Noise)) 36 refl s h)

  -- no short pulse is wanted: it is past the sixteen
  pub short-far : (0x65658ffff / 2 ^ s % 2 ≡ 1 → ⊥) → 16 ≤ s
  unfolding is_short
  short-far e = leb-true 16 s (rw (ne_eqb (0x65658ffff / 2 ^ s % 2) 1 e) at (every-at (λ i. is_short i || leb 16 i) 36 refl s h))

  module _ (c : Class) where
    pub seek-short : c ≡ Short → 0x65658ffff / 2 ^ s % 2 ≡ 1 → s + 1 ≡ seek s c
    unfolding short is_short
    seek-short e t = rw (e, ← is-short, eq-eqb (0x65658ffff / 2 ^ s % 2) 1 t)

    pub seek-longer : c ≡ Short → (0x65658ffff / 2 ^ s % 2 ≡ 1 → ⊥) → s ≡ 16 → s ≡ seek s c
    unfolding short is_short
    seek-longer e t u = rw (e, ← is-short, ne_eqb (0x65658ffff / 2 ^ s % 2) 1 t, eq-eqb s 16 u)

    pub seek-back : c ≡ Short → (0x65658ffff / 2 ^ s % 2 ≡ 1 → ⊥) → (s ≡ 16 → ⊥) → 0xc188c18c14 / 2 ^ (2 * (s - 16)) % 4 ≡ seek s c
    unfolding short is_short
    seek-back e t u = rw (e, ← is-short, ne_eqb (0x65658ffff / 2 ^ s % 2) 1 t, ne_eqb s 16 u)

    pub seek-medium : c ≡ Medium → 0x9a9a60000 / 2 ^ s % 2 ≡ 1 → s + 1 ≡ seek s c
    unfolding medium is_medium
    seek-medium e t = rw (e, ← is-medium, eq-eqb (0x9a9a60000 / 2 ^ s % 2) 1 t)

    pub seek-no-medium : c ≡ Medium → (0x9a9a60000 / 2 ^ s % 2 ≡ 1 → ⊥) → 0 ≡ seek s c
    unfolding medium is_medium
    seek-no-medium e t = rw (e, ← is-medium, ne_eqb (0x9a9a60000 / 2 ^ s % 2) 1 t)

    pub seek-long : c ≡ Long → s ≡ 16 → s + 1 ≡ seek s c
    unfolding long
    seek-long e u = rw (e, ← is-long, eq-eqb s 16 u)

    pub seek-no-long : c ≡ Long → (s ≡ 16 → ⊥) → 0 ≡ seek s c
    unfolding long
    seek-no-long e u = rw (e, ← is-long, ne_eqb s 16 u)

    pub seek-noise : c ≡ Noise → 0 ≡ seek s c
    seek-noise e = rw e is-noise

-- ---- What is said

module _ (n start : ℕ) (c : Checks) (a : ℕ) where
  pub outcome-accepted : a ≡ 0 → accepted (record { n = n; start = start; end = start + 40 * (n + 10) + 61 }) ≡ outcome_by n start a c
  unfolding outcome_by
  outcome-accepted e = let z : start + 40 * (n + 10) + 61 ≡ end_of start n = omega arith in rw (eq-eqb a 0 e, z)

  module _ {r : Refusal} where
    pub outcome-start : a ≡ 3 → r ≡ refusal_at NoStart 0 → refused_with r ≡ outcome_by n start a c
    unfolding outcome_by
    outcome-start e q = rw (e, q)

    pub outcome-cut : a ≡ 4 → r ≡ refusal_at CutShort start → refused_with r ≡ outcome_by n start a c
    unfolding outcome_by
    outcome-cut e q = rw (e, q)

    pub outcome-countdown : a ≡ 5 → r ≡ refusal_at WrongCountdown c.failed → refused_with r ≡ outcome_by n start a c
    unfolding outcome_by
    outcome-countdown e q = rw (e, q)

    pub outcome-lost : a ≡ 6 → r ≡ refusal_at (LostByte (record { one = c.one; two = c.two })) c.lost → refused_with r ≡ outcome_by n start a c
    unfolding outcome_by
    outcome-lost e q = rw (e, q)

    pub outcome-sum : (a ≡ 0 → ⊥) → (a ≡ 3 → ⊥) → (a ≡ 4 → ⊥) → (a ≡ 5 → ⊥) → (a ≡ 6 → ⊥) → r ≡ refusal_at WrongChecksum n
        → refused_with r ≡ outcome_by n start a c
    unfolding outcome_by
    outcome-sum e₀ e₃ e₄ e₅ e₆ q = rw (ne_eqb a 0 e₀, ne_eqb a 3 e₃, ne_eqb a 4 e₄, ne_eqb a 5 e₅, ne_eqb a 6 e₆, q)

module _ (d : Deck) {sound : Bool} (s : sound ≡ is_sound d) where
  abbrev is_refused : Bool
  is_refused = not sound || not (eqb d.refused 0)

  pub said-refused : is_refused ≡ true → {reason : Reason} → reason ≡ cond (eqb d.refused 2) NoRoom WrongSize → {r : Refusal} → r ≡ refusal_at reason 0
      → Denied (why_of r) ≡ said_by d
  unfolding said_by
  said-refused e p q = rw (← s, e, q, p)

  module _ (e : is_refused ≡ false) where
    pub said-silent : (ph : own.Phase) → doing ph ≡ phase_of d → ((start answer : ℕ) (checks : Checks) → ph ≡ own.Phase.Told start answer checks → ⊥)
        → Silent ≡ said_by d
    unfolding said_by
    said-silent ph q h = rw (← s, e, ← q) (go ph h)
      where
        go : (ph : own.Phase) → ((start answer : ℕ) (checks : Checks) → ph ≡ own.Phase.Told start answer checks → ⊥) → Silent ≡ said_in d.n (doing ph)
        go (own.Phase.Seeking matched) h = refl
        go (own.Phase.InOne start place heard frame) h = refl
        go (own.Phase.Between start heard) h = refl
        go (own.Phase.InTwo start place heard frame checks) h = refl
        go (own.Phase.Told start answer checks) h = absurd (h start answer checks refl)

    pub said-answer : {start answer : ℕ} {checks : Checks} → phase_of d ≡ Told start answer checks → {o : Outcome Extent}
        → o ≡ outcome_by d.n start answer checks → Answered o ≡ said_by d
    unfolding said_by
    said-answer h q = rw (← s, e, h, q)

-- ---- Calls that take nothing

-- what holds of a call that takes its pulses
pub record Admitted (d : Deck) (count work out : ℕ) : Type 0 where
  pub still : is_closed d ≡ false
  pub few : d.taken + count ≤ 4294967295
  pub room : fits d.n work out ≡ true

module _ (d : Deck) (count work out : ℕ) {r : Option Deck} (f : r ≡ turned_away d count work out) where
  pub admitted : r ≡ None → Admitted d count work out
  unfolding turned_away
  admitted e = go (is_closed d) refl (ltb 4294967295 (d.taken + count)) refl (fits d.n work out) refl (sym f ∙ e)
    where
      go : (closed : Bool) → is_closed d ≡ closed → (many : Bool) → ltb 4294967295 (d.taken + count) ≡ many → (room : Bool) → fits d.n work out ≡ room
          → cond {A = Option Deck} closed (Some d) (cond many (Some (deck_refusing 1 d)) (cond (not room) (Some (deck_refusing 2 d)) None)) ≡ None
          → Admitted d count work out
      go true c many m room q e = absurd (let z : ◌≡◌ {A = ℕ} 0 1 = cc in omega arith)
      go false c true m room q e = absurd (let z : ◌≡◌ {A = ℕ} 0 1 = cc in omega arith)
      go false c false m false q e = absurd (let z : ◌≡◌ {A = ℕ} 0 1 = cc in omega arith)
      go false c false m true q e = record { still = c; few = ltb-false 4294967295 (d.taken + count) m; room = q }

module _ (d : Deck) (work out : List ℕ) {r : Option Deck} where
  -- a run, and the end
  pub run-away : (cs : List Class) (count : ℕ) → length cs ≡ count → r ≡ turned_away d count (length work) (length out) → {d' : Deck} → r ≡ Some d'
      → lent d' work out ≡ take_run (lent d work out) cs
  unfolding turned_away take_run if_lent
  run-away cs count m f {d' = d'} e = rw m
      (go (is_closed d) (ltb 4294967295 (d.taken + count)) (fits d.n (length work) (length out)) (sym f ∙ e))
    where
      go : (closed many room : Bool)
          → cond {A = Option Deck} closed (Some d) (cond many (Some (deck_refusing 1 d)) (cond (not room) (Some (deck_refusing 2 d)) None)) ≡ Some d'
          → lent d' work out ≡ cond closed (lent d work out) (cond many (refusing 1 (lent d work out))
          (cond (not room) (refusing 2 (lent d work out)) (steps_lent (refusing 0 (lent d work out)) cs)))
      go true many room e = cc
      go false true room e = cc
      go false false false e = cc
      go false false true e = absurd (let z : ◌≡◌ {A = ℕ} 0 1 = cc in omega arith)

  pub end-away : d.taken ≤ 4294967295 → r ≡ turned_away d 0 (length work) (length out) → {d' : Deck} → r ≡ Some d'
      → lent d' work out ≡ take_end (lent d work out)
  unfolding turned_away take_end if_lent
  end-away l f {d' = d'} e =
      go (is_closed d) (fits d.n (length work) (length out)) (rw (le-ltb 4294967295 (d.taken + 0) (omega arith)) at (sym f ∙ e))
    where
      go : (closed room : Bool) → cond {A = Option Deck} closed (Some d) (cond (not room) (Some (deck_refusing 2 d)) None) ≡ Some d'
          → lent d' work out ≡ cond closed (lent d work out)
          (cond (not room) (refusing 2 (lent d work out)) (lent (deck_of d.n d.taken (ended_in (phase_of d))) work out))
      go true room e = cc
      go false false e = cc
      go false true e = absurd (let z : ◌≡◌ {A = ℕ} 0 1 = cc in omega arith)

  pub end-ends : r ≡ turned_away d 0 (length work) (length out) → r ≡ None → {d' : Deck} → d' ≡ deck_of d.n d.taken (ended_in (phase_of d))
      → lent d' work out ≡ take_end (lent d work out)
  unfolding take_end if_lent
  end-ends f e q = let a = admitted d 0 (length work) (length out) f e in rw (a.still, a.room, q)

-- ---- The payload that is filled in

abbrev pub payload_at : (work : List ℕ) → ℕ → ℕ
payload_at work i = get_or work (2 * (9 + i)) 0

module _ (out₀ work : List ℕ) (n : ℕ) where
  abbrev pub PayloadPut : List ℕ → ℕ → Type 0
  PayloadPut out i = Putting out₀ 0 (tabulate (payload_at work) n 0) out i (table_left (payload_at work) n i)

  module _ {out : List ℕ} {i : ℕ} (u : PayloadPut out i) where
    pub fill-next : i < n → PayloadPut (set out i (payload_at work i)) (i + 1)
    fill-next h = put_one u (payload_at work i) (table_left (payload_at work) n (i + 1)) (table-next (payload_at work) n i h) refl

    pub fill_done : n ≤ i → n ≤ length out₀ → out ≡ put_at out₀ 0 (payload_in n work)
    unfolding payload_in
    fill_done h l =
        put-done u (table-over (payload_at work) n i h)
        ∙ put-room out₀ 0 (tabulate (payload_at work) n 0) (rw (length-tabulate (payload_at work) n 0) (omega arith))

module _ (n : ℕ) (work out : List ℕ) {answer : ℕ} where
  pub filled-yes : answer ≡ 0 → {out' : List ℕ} → out' ≡ put_at out 0 (payload_in n work) → out' ≡ filled n answer work out
  unfolding filled
  filled-yes e q = rw (e, q)

  pub filled-no : (answer ≡ 0 → ⊥) → out ≡ filled n answer work out
  unfolding filled
  filled-no e = rw (ne_eqb answer 0 e)

-- ---- Where copy two's byte is not taken, the working buffer stays

pub mend-none : (work : List ℕ) (i : ℕ) (r : PlaceRead) → ((v : ℕ) → r ≡ Two v → ⊥) → work ≡ mended work i (place_read r)
mend-none work i (One v) h = refl
mend-none work i (Two v) h = absurd (h v refl)
mend-none work i (Neither causes) h = refl
