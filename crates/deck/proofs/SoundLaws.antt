-- Laws of the numbers of a state, and of sound states.
use Prim.Native.Nat.{ℕ, zero, suc, ◌≤◌, ◌<◌}
use native.Mathlib.Decide.{dec_lt}
use native.Mathlib.Omega.{arith}
use mathlib.Core.Path.{◌≡◌, refl}
use mathlib.Core.Bool.{Bool, true, false, not, ◌&&◌, ◌||◌}
use borrow.Author.Tests.{ne_eqb, eqb-false, le-leb, leb-true, not-true, not-false}
use lib.Dec.{eqb, leb}
use Rattle.lists.proofs.BoolLaws.{and-true, or-false, cond-second}
use Rattle.refusal.specs.Outcome.{Outcome}
use Rattle.block.specs.declared.Extent.{Extent}
use Rattle.deck.specs.Limit.{outside}
use Rattle.deck.specs.declared.Deck.{Deck}
use Rattle.deck.specs.Step.{Phase, Seeking, InOne, Between, InTwo, Told}
use Rattle.deck.specs.Calls.{deck_of, phase_of, sound_in, is_sound, is_closed, deck_refusing, Answered, said_in, said_by}

-- ---- The numbers of a state

module _ (n k : ℕ) where
  pub phase-of : (ph : Phase) → phase_of (deck_of n k ph) ≡ ph
  unfolding phase_of
  phase-of (Seeking matched) = refl
  phase-of (InOne start place heard frame) = refl
  phase-of (Between start heard) = refl
  phase-of (InTwo start place heard frame checks) = refl
  phase-of (Told start answer checks) = refl

  pub n-of : (ph : Phase) → (deck_of n k ph).n ≡ n
  n-of (Seeking matched) = refl
  n-of (InOne start place heard frame) = refl
  n-of (Between start heard) = refl
  n-of (InTwo start place heard frame checks) = refl
  n-of (Told start answer checks) = refl

  pub taken_of : (ph : Phase) → (deck_of n k ph).taken ≡ k
  taken_of (Seeking matched) = refl
  taken_of (InOne start place heard frame) = refl
  taken_of (Between start heard) = refl
  taken_of (InTwo start place heard frame checks) = refl
  taken_of (Told start answer checks) = refl

  pub refused-of : (ph : Phase) → (deck_of n k ph).refused ≡ 0
  refused-of (Seeking matched) = refl
  refused-of (InOne start place heard frame) = refl
  refused-of (Between start heard) = refl
  refused-of (InTwo start place heard frame checks) = refl
  refused-of (Told start answer checks) = refl

  small_of : (ph : Phase) → leb (deck_of n k ph).phase 4 ≡ true
  small_of (Seeking matched) = refl
  small_of (InOne start place heard frame) = refl
  small_of (Between start heard) = refl
  small_of (InTwo start place heard frame checks) = refl
  small_of (Told start answer checks) = refl

  pub sound-of : (ph : Phase) → outside 65534 n ≡ false → sound_in n k 0 ph ≡ true → is_sound (deck_of n k ph) ≡ true
  unfolding is_sound
  sound-of ph size s = rw (phase-of ph, n-of ph, taken_of ph, refused-of ph, small_of ph, size, s)

  pub said_of : (ph : Phase) → is_sound (deck_of n k ph) ≡ true → said_by (deck_of n k ph) ≡ said_in n ph
  unfolding said_by
  said_of ph s = rw (s, refused-of ph, phase-of ph, n-of ph)

-- ---- A sound state in words

pub record Sane (d : Deck) : Type 0 where
  pub size : outside 65534 d.n ≡ false
  pub refused : d.refused ≤ 2
  pub phase : d.phase ≤ 4
  pub numbers : sound_in d.n d.taken d.refused (phase_of d) ≡ true

pub sound-sane : (d : Deck) → is_sound d ≡ true → Sane d
unfolding is_sound
sound-sane d e =
    let inside = not (outside 65534 d.n) in
    let a = and-true (inside && leb d.refused 2 && leb d.phase 4) (sound_in d.n d.taken d.refused (phase_of d)) e in
    let b = and-true (inside && leb d.refused 2) (leb d.phase 4) a.0 in
    let c = and-true inside (leb d.refused 2) b.0 in
    record {
      size = not-true (outside 65534 d.n) c.0;
      refused = leb-true d.refused 2 c.1;
      phase = leb-true d.phase 4 b.1;
      numbers = a.1;
    }

pub sane-sound : (d : Deck) → Sane d → is_sound d ≡ true
unfolding is_sound
sane-sound d s = rw (s.size, le-leb d.refused 2 s.refused, le-leb d.phase 4 s.phase, s.numbers)

-- the reader has answered
abbrev pub is_told : Phase → Bool
is_told (Seeking matched) = false
is_told (InOne start place heard frame) = false
is_told (Between start heard) = false
is_told (InTwo start place heard frame checks) = false
is_told (Told start answer checks) = true

pub open-phase : (d : Deck) → d.phase < 4 → is_told (phase_of d) ≡ false
unfolding phase_of
open-phase d h = go d.phase refl h
  where
    go : (x : ℕ) → d.phase ≡ x → x < 4 → is_told (phase_of d) ≡ false
    go zero e l = rw e
    go (suc zero) e l = rw e
    go (suc (suc zero)) e l = rw e
    go (suc (suc (suc zero))) e l = rw e
    go (suc (suc (suc (suc x)))) e l = absurd (omega arith)

-- before an answer it does not matter what was refused
sound-refused : (n k r r' : ℕ) (ph : Phase) → is_told ph ≡ false → sound_in n k r ph ≡ true → sound_in n k r' ph ≡ true
sound-refused n k r r' (Seeking matched) t e = e
sound-refused n k r r' (InOne start place heard frame) t e = e
sound-refused n k r r' (Between start heard) t e = e
sound-refused n k r r' (InTwo start place heard frame checks) t e = e
sound-refused n k r r' (Told start answer checks) t e = absurd (let z : ◌≡◌ {A = ℕ} 0 1 = cc in omega arith)

-- ---- Open states

pub record Open (d : Deck) : Type 0 where
  pub sane : Sane d
  pub early : d.phase < 4

pub closed-open : (d : Deck) → is_closed d ≡ false → Open d
unfolding is_closed
closed-open d e =
    let h = or-false (not (is_sound d)) (eqb d.phase 4) e in
    let s = sound-sane d (not-false (is_sound d) h.0) in
    let other = eqb-false d.phase 4 h.1 in
    record { sane = s; early = elim (dec_lt d.phase 4) [ yes l ↦ l | no l ↦ absurd (other (omega (arith, s.phase))) ] }

pub open-closed : (d : Deck) → Open d → is_closed d ≡ false
unfolding is_closed
open-closed d o = rw (sane-sound d o.sane) (ne_eqb d.phase 4 (λ e. omega (arith, o.early)))

-- a refusal leaves it open
pub open-refusing : (number : ℕ) (d : Deck) → number ≤ 2 → Open d → Open (deck_refusing number d)
unfolding phase_of
open-refusing number d h o = record {
  sane = record {
    size = o.sane.size;
    refused = h;
    phase = o.sane.phase;
    numbers = sound-refused d.n d.taken d.refused number (phase_of d) (open-phase d o.early) o.sane.numbers;
  };
  early = o.early;
}

-- ---- A state that says an answer is closed

said-told : (n : ℕ) (ph : Phase) (o : Outcome Extent) → said_in n ph ≡ Answered o → is_told ph ≡ true
said-told n (Seeking matched) o e = absurd (let z : ◌≡◌ {A = ℕ} 0 1 = cc in omega arith)
said-told n (InOne start place heard frame) o e = absurd (let z : ◌≡◌ {A = ℕ} 0 1 = cc in omega arith)
said-told n (Between start heard) o e = absurd (let z : ◌≡◌ {A = ℕ} 0 1 = cc in omega arith)
said-told n (InTwo start place heard frame checks) o e = absurd (let z : ◌≡◌ {A = ℕ} 0 1 = cc in omega arith)
said-told n (Told start answer checks) o e = refl

pub answered-phase : (d : Deck) (o : Outcome Extent) → said_by d ≡ Answered o → d.phase ≡ 4
unfolding said_by
answered-phase d o e =
    let h = cond-second (not (is_sound d) || not (eqb d.refused 0)) _ _ (Answered o) (λ q. let z : ◌≡◌ {A = ℕ} 0 1 = cc in omega arith) e in
    let s = sound-sane d (not-false (is_sound d) (or-false (not (is_sound d)) (not (eqb d.refused 0)) h.0).0) in
    elim (dec_lt d.phase 4) [
      | yes l ↦ absurd (let t = said-told d.n (phase_of d) o h.1 in let f = open-phase d l in let z : ◌≡◌ {A = ℕ} 0 1 = cc in omega arith)
      | no l ↦ omega (arith, s.phase)
    ]
