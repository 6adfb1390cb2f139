-- What the calls come to, and the run of pulses on its way.
use Prim.Native.Nat.{ℕ, ◌+◌, ◌-◌, ◌≤◌, ◌<◌}
use native.Mathlib.Decide.{dec_lt}
use native.Mathlib.Omega.{arith}
use mathlib.Core.Path.{◌≡◌, refl, sym, ap, ◌∙◌}
use mathlib.Core.Logic.{inl, inr}
use mathlib.Core.Bool.{Bool, true, ◌&&◌}
use mathlib.Core.List.{List, [], ◌∷◌, ◌++◌}
use borrow.Author.Tests.{ne_eqb, lt-ltb, leb-true}
use lib.Dec.{leb, lit<}
use lib.ListN.{length, drop, get_or, length-drop, length-take, length-map, get_or-map, take-append-drop}
use lib.Seq.{drop-cons, drop-drop, drop-length}
use Rattle.lists.specs.Places.{part}
use Rattle.lists.proofs.BoolLaws.{and-true}
use Rattle.pulse.specs.declared.Class.{Class}
use Rattle.pulse.specs.declared.Thresholds.{Thresholds}
use Rattle.pulse.specs.Pulse.{class_of, fixed, classes}
use Rattle.byte.specs.declared.ByteRead.{ByteRead}
use Rattle.byte.specs.declared.ByteRead.TheVariants.{Good, Bad}
use Rattle.byte.specs.Byte.{byte_at}
use Rattle.byte.proofs.CauseLaws.{byte_at-most}
use Rattle.deck.specs.declared.Deck.{Deck}
use Rattle.deck.specs.Work.{cause_byte}
use Rattle.deck.specs.Step.{standing}
use Rattle.deck.specs.Calls.{phase_of, is_sound, Lent, lent, lent_of, deck_refusing, refusing, step_lent, steps_lent, take_run}
use Rattle.deck.specs.private.Ready.{Roomy, Settles, settles_in, settled, is_at_frame}
use Rattle.deck.proofs.SoundLaws.{sound-sane, Open, closed-open}
use Rattle.deck.proofs.CallLaws.{Went, run-steps, refusing-sound, steps-told, steps-append, steps-went}
use Rattle.deck.proofs.Stepping.{phase-one, phase-two, one-small, two-small, roomy, at-frame, frame-steps}
use Rattle.deck.proofs.Answering.{Admitted}

-- the class by the fixed thresholds
pub class-fixed : (pulse : ℕ) {t : Thresholds} {r : Class} → t ≡ fixed → r ≡ class_of t pulse → r ≡ class_of fixed pulse
class-fixed pulse e w = w ∙ ap (λ t. class_of t pulse) e

pub byte-fixed : (pulses : List ℕ) (at : ℕ) {t : Thresholds} {r : ByteRead} → t ≡ fixed → r ≡ byte_at (classes t pulses) at
    → r ≡ byte_at (classes fixed pulses) at
byte-fixed pulses at e w = w ∙ ap (λ t. byte_at (classes t pulses) at) e

-- ---- A call that takes its pulses

module _ (d : Deck) (work out : List ℕ) where
  pub take_steps : (cs : List Class) (count : ℕ) → length cs ≡ count → Admitted d count (length work) (length out)
      → {l : Lent} → l ≡ steps_lent (refusing 0 (lent d work out)) cs → l ≡ take_run (lent d work out) cs
  take_steps cs count m a s = let few = a.few in s ∙ sym (run-steps (lent d work out) cs a.still (omega arith) a.room)

  -- one pulse, whatever the last call said
  module _ (a : Admitted d 1 (length work) (length out)) where
    pub take-few : d.taken < 4294967295
    take-few = omega (arith, a.few)

    pub take-roomy : Roomy d.n (length work) (length out)
    take-roomy = roomy d.n (length work) (length out) (closed-open d a.still).sane.size a.room

    pub take-one : (c : Class) {c' : Class} {l : Lent} → c' ≡ c → l ≡ step_lent (lent d work out) c' → l ≡ take_run (lent d work out) (c ∷ [])
    unfolding steps_lent step_lent phase_of
    take-one c q s =
        let early = (closed-open d a.still).early in
        let other = ne_eqb d.phase 4 (λ z. omega arith) in
        take_steps (c ∷ []) 1 refl a (rw other (rw (q, other) at s))

byte-cause : (cs : List Class) (at : ℕ) → cause_byte (byte_at cs at) < 256
byte-cause cs at = go (byte_at cs at) refl
  where
    go : (r : ByteRead) → byte_at cs at ≡ r → cause_byte r < 256
    go (Good v) e = lit< tt
    go (Bad cause) e = let h = byte_at-most cs at e in omega arith

-- ---- A run on its way

-- the pulses from i on, from this state, come to what all of them do from the first
pub record Running (pulses : List ℕ) (d₀ : Deck) (work₀ out₀ : List ℕ) (d : Deck) (work out : List ℕ) (i : ℕ) : Type 0 where
  pub short : length pulses ≤ 4294967295
  pub within : i ≤ length pulses
  pub whole : steps_lent (lent d work out) (drop i (classes fixed pulses)) ≡ steps_lent (lent d₀ work₀ out₀) (classes fixed pulses)
  pub sound : is_sound d ≡ true
  pub room : Roomy d.n (length work) (length out)
  pub few : d.taken + (length pulses - i) ≤ 4294967295

pub running-begun : (pulses : List ℕ) (d : Deck) (work out : List ℕ) → Admitted d (length pulses) (length work) (length out)
    → Running pulses (deck_refusing 0 d) work out (deck_refusing 0 d) work out 0
running-begun pulses d work out a = record {
  short = omega (arith, a.few);
  within = omega arith;
  whole = refl;
  sound = refusing-sound (lent d work out) 0 a.still (omega arith);
  room = roomy d.n (length work) (length out) (closed-open d a.still).sane.size a.room;
  few = omega (arith, a.few);
}

-- the next pulse of a strip
next-class : (pulses : List ℕ) (i : ℕ) → i < length pulses → part (classes fixed pulses) i 1 ≡ class_of fixed (get_or pulses i 0) ∷ []
next-class pulses i h = rw (drop-cons (classes fixed pulses) i (class_of fixed 0) (rw (length-map pulses (class_of fixed)) h), get_or-map (class_of fixed) pulses i 0)

module _ (pulses : List ℕ) (d₀ : Deck) (work₀ out₀ : List ℕ) (d : Deck) (work out : List ℕ) (i : ℕ) (b : Running pulses d₀ work₀ out₀ d work out i) where
  abbrev cs : List Class
  cs = classes fixed pulses

  long : length cs ≡ length pulses
  long = length-map pulses (class_of fixed)

  -- m pulses more
  running_more : (m : ℕ) {d' : Deck} {work' out' : List ℕ} → i + m ≤ length pulses → lent d' work' out' ≡ steps_lent (lent d work out) (part cs i m)
      → Running pulses d₀ work₀ out₀ d' work' out' (i + m)
  running_more m {d' = d'} {work' = work'} {out' = out'} h e =
      let l : length (part cs i m) ≡ m = (let z = long in simp (length-take, length-drop) (omega arith)) in
      let w : Went m (lent d work out) (lent d' work' out') = rw (← e, l) at (steps-went (lent d work out) (part cs i m)) in
      let rest : part cs i m ++ drop (i + m) cs ≡ drop i cs = rw (← (drop-drop m i cs)) (take-append-drop m (drop i cs)) in
      let few = b.few in
      let few' = w.taken in
      let size = w.size in
      record {
        short = b.short;
        within = h;
        whole = rw e (sym (steps-append (lent d work out) (part cs i m) (drop (i + m) cs)) ∙ ap (steps_lent (lent d work out)) rest ∙ b.whole);
        sound = w.sound b.sound;
        room = rw (w.size, w.work, w.out) b.room;
        few = omega arith;
      }

  pub running-one : (c : Class) {d' : Deck} {work' out' : List ℕ} → i < length pulses → c ≡ class_of fixed (get_or pulses i 0)
      → lent d' work' out' ≡ step_lent (lent d work out) c → Running pulses d₀ work₀ out₀ d' work' out' (i + 1)
  unfolding steps_lent
  running-one c h q e = running_more 1 (omega arith) (rw (next-class pulses i h, ← q) e)

  -- a whole frame more; 20 pulses are counted at once
  abbrev later : Deck
  later = record {
    n = d.n;
    taken = d.taken + 20;
    start = d.start;
    place = d.place;
    phase = d.phase;
    heard = d.heard;
    answer = d.answer;
    refused = d.refused;
    frame = d.frame;
    checks = d.checks;
  }

  phase-later : phase_of later ≡ phase_of d
  unfolding phase_of
  phase-later = refl

  pub running-frame : {read : ByteRead} {d' : Deck} {work' out' : List ℕ} → is_at_frame d ≡ true → i + 20 ≤ length pulses → read ≡ byte_at cs i
      → lent d' work' out' ≡ lent_of d.n (settled d.n (standing (d.taken + 20) (phase_of later) work out) read)
      → Running pulses d₀ work₀ out₀ d' work' out' (i + 20)
  unfolding byte_at
  running-frame a h q e =
      let l : length (part cs i 20) ≡ 20 = (let z = long in simp (length-take, length-drop) (omega arith)) in
      running_more 20 h (rw (frame-steps d a work out (part cs i 20) l, ← q, ← phase-later) e)

  -- a frame that lies whole in the run
  pub frame-fits : (t : Bool) → (t && leb 20 (length pulses - i)) ≡ true → (i + 20 ≤ length pulses) × (d.taken + 20 ≤ 4294967295)
  frame-fits t e =
      let h = leb-true 20 (length pulses - i) (and-true t (leb 20 (length pulses - i)) e).1 in
      let w = b.within in
      let f = b.few in
      (omega arith, omega arith)

  pub frame_at : {t : Bool} → t ≡ is_at_frame d → (t && leb 20 (length pulses - i)) ≡ true → is_at_frame d ≡ true
  frame_at {t = t} q e = sym q ∙ (and-true t (leb 20 (length pulses - i)) e).0

  pub one-fits : i < length pulses → d.taken < 4294967295
  one-fits h = let f = b.few in omega arith

  -- what the functions called ask for
  pub running-open : (d.phase ≡ 4 → ⊥) → Open d
  running-open h =
      let s = sound-sane d b.sound in
      let l = s.phase in
      record { sane = s; early = elim (dec_lt d.phase 4) [ yes z ↦ z | no z ↦ absurd (h (omega arith)) ] }

  pub frame-settles : {read : ByteRead} → (d.phase ≡ 4 → ⊥) → is_at_frame d ≡ true → read ≡ byte_at cs i → Settles later read (length work) (length out)
  frame-settles h a q =
      let o = running-open h in
      let numbers : settles_in d.n (d.taken + 20) (phase_of later) ≡ true = elim (at-frame d a).copy [
        | inl e ↦ rw (phase-later, phase-one d e) (lt-ltb d.place (d.n + 10) (one-small d o (phase-one d e)).place)
        | inr e ↦ rw (phase-later, phase-two d e) (lt-ltb d.place (d.n + 10) (two-small d o (phase-two d e)).place)
      ] in
      record {
        room = b.room;
        numbers = numbers;
        cause = rw q (byte-cause cs i);
      }

  -- the end
  pub running-told : d.phase ≡ 4 → lent d work out ≡ steps_lent (lent d₀ work₀ out₀) cs
  running-told e = sym (steps-told (lent d work out) (drop i cs) e) ∙ b.whole

  pub running-done : (i < length pulses → ⊥) → lent d work out ≡ steps_lent (lent d₀ work₀ out₀) cs
  unfolding steps_lent
  running-done h =
      let w = b.within in
      let e : i ≡ length cs = (let z = long in omega arith) in
      let all : drop i cs ≡ [] = rw e (drop-length cs) in
      rw all at b.whole
