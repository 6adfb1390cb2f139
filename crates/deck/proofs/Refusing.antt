-- What a call that is refused says, and what it leaves.
use Prim.Native.Nat.{ℕ, suc, ◌+◌, ◌≤◌, ◌<◌}
use native.Mathlib.Omega.{arith}
use mathlib.Core.Path.{◌≡◌, refl}
use mathlib.Core.Bool.{true, false, cond}
use mathlib.Core.List.{List}
use borrow.Author.Tests.{ne_eqb}
use lib.Dec.{eqb, lit≤}
use lib.ListN.{length}
use Rattle.refusal.specs.declared.Reason.TheVariants.{WrongSize, NoRoom}
use Rattle.pulse.specs.declared.Class.{Class}
use Rattle.deck.specs.Limit.{outside}
use Rattle.deck.specs.Work.{fits}
use Rattle.deck.specs.Calls.{phase_of, is_sound, is_closed, Lent, deck_refusing, refusing, begin_deck, take_run, take_end, said_by}
use Rattle.deck.proofs.SoundLaws.{sane-sound, closed-open, open-refusing}
use Rattle.deck.specs.Claim.{has_room, refused_for, Refuses}
use Rattle.deck.proofs.CallLaws.{run-many, run_short}
use Rattle.deck.proofs.Claims.{end_short}

-- ---- The beginning

begin-size : (n work out : ℕ) → outside 65534 n ≡ true → said_by (begin_deck n work out) ≡ refused_for WrongSize
unfolding begin_deck said_by is_sound phase_of
begin-size n work out e = rw e

begin-room : (n work out : ℕ) → outside 65534 n ≡ false → fits n work out ≡ false → said_by (begin_deck n work out) ≡ refused_for NoRoom
unfolding begin_deck said_by is_sound phase_of
begin-room n work out e f = rw (e, f)

-- ---- Before an answer

module _ (l : Lent) (o : is_closed l.deck ≡ false) where
  said-refusing : (number : ℕ) → suc number ≤ 2
      → said_by (deck_refusing (suc number) l.deck) ≡ refused_for (cond (eqb (suc number) 2) NoRoom WrongSize)
  unfolding said_by
  said-refusing number h =
      let d = deck_refusing (suc number) l.deck in
      rw (sane-sound d (open-refusing (suc number) l.deck h (closed-open l.deck o)).sane, ne_eqb (suc number) 0 (λ e. omega arith))

  run-size : (cs : List Class) → 4294967295 < l.deck.taken + length cs
      → (take_run l cs ≡ refusing 1 l) × (said_by (take_run l cs).deck ≡ refused_for WrongSize)
  run-size cs h = rw (run-many l cs o h) (refl, said-refusing 0 (lit≤ tt))

  run_room_lem : (cs : List Class) → l.deck.taken + length cs ≤ 4294967295 → has_room l ≡ false
      → (take_run l cs ≡ refusing 2 l) × (said_by (take_run l cs).deck ≡ refused_for NoRoom)
  run_room_lem cs h f = rw (run_short l cs o h f) (refl, said-refusing 1 (lit≤ tt))

  end-room : has_room l ≡ false → (take_end l ≡ refusing 2 l) × (said_by (take_end l).deck ≡ refused_for NoRoom)
  end-room f = rw (end_short l o f) (refl, said-refusing 1 (lit≤ tt))

-- ---- The claim

pub refuses : Refuses
refuses = record {
  size = begin-size;
  room = begin-room;
  run_size = λ l cs o. run-size l o cs;
  run_room = λ l cs o. run_room_lem l o cs;
  end_room = λ l o. end-room l o;
}
