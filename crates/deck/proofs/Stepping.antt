-- What one pulse comes to: heard, and, where something is whole with it, settled.
use Prim.Native.Nat.{ℕ, suc, ◌+◌, ◌-◌, ◌*◌, ◌/◌, ◌%◌, ◌≤◌, ◌<◌}
use native.Mathlib.Decide.{ℕ_discrete}
use native.Mathlib.Omega.{arith}
use native.Mathlib.Numerals.{add-one}
use mathlib.Core.Path.{◌≡◌, refl, sym, ap, ◌∙◌}
use mathlib.Core.Logic.{◌⊎◌, inl, inr}
use mathlib.Core.Bool.{Bool, true, false, cond, ◌&&◌, ◌||◌}
use mathlib.Core.List.{List, [], ◌∷◌}
use borrow.Author.Tests.{eq-eqb, ne_eqb, lt-ltb, le-ltb, le-leb, ltb-true, ltb-false, leb-true, eqb-true}
use lib.Count.{ones}
use lib.Dec.{eqb, leb, ltb, lit<}
use lib.ListN.{length, get_or, drop}
use lib.Seq.{get_or-drop, drop-drop}
use Rattle.lists.proofs.BoolLaws.{and-true, or-true, or-false}
use Rattle.pulse.specs.declared.Class.{Class}
use Rattle.pulse.specs.declared.Class.TheVariants.{Noise}
use Rattle.byte.specs.declared.ByteRead.{ByteRead}
use Rattle.byte.specs.declared.ByteRead.TheVariants.{Good, Bad}
use Rattle.byte.specs.Byte.{is_odd, byte_of}
use Rattle.deck.specs.Limit.{outside}
use Rattle.block.specs.Reading.{Place, place_of, place_value}
use Rattle.deck.specs.declared.Frame.{Frame}
use Rattle.deck.specs.declared.Checks.{Checks}
use Rattle.deck.specs.declared.Deck.{Deck}
use Rattle.deck.specs.Frame.{frame_of, fresh, take_pulse, closed}
use Rattle.deck.specs.Lead.{seek}
use Rattle.deck.specs.Work.{fits, cause_byte, put_byte, get_byte}
use Rattle.deck.specs.Judge.{check_countdown, check_place, check_byte, mended, mend_byte, answer_by, filled}
use Rattle.deck.specs.Step.{Phase, Seeking, InOne, Between, InTwo, Told, Standing, standing, sought, placed, told, judged, step}
use Rattle.deck.specs.Calls.{deck_of, phase_of, lent, lent_of, step_lent, steps_lent}
use Rattle.deck.specs.private.Ready.{Roomy, Settles, settles_in, fed_in, whole_in, settled, is_at_frame}
use Rattle.deck.proofs.FrameLaws.{frame_after, closed_is, pulse-wrong}
use Rattle.deck.proofs.LeadLaws.{seek-le}
use Rattle.deck.proofs.Running.{steps}
use Rattle.deck.proofs.SoundLaws.{phase-of, n-of, taken_of, is_told, open-phase, Open}
use Rattle.deck.proofs.CallLaws.{Framed, framed, steps_of}

-- ---- The phase by its number

module _ (d : Deck) where
  pub phase-one : d.phase ≡ 1 → phase_of d ≡ InOne d.start d.place d.heard d.frame
  unfolding phase_of
  phase-one e = rw e

  pub phase-two : d.phase ≡ 3 → phase_of d ≡ InTwo d.start d.place d.heard d.frame d.checks
  unfolding phase_of
  phase-two e = rw e

  -- ---- The numbers of an open state

  module _ (o : Open d) where
    pub seeking-small : {matched : ℕ} → phase_of d ≡ Seeking matched → (matched < 36) × (matched ≤ d.taken)
    seeking-small {matched = matched} e =
        let h = and-true (ltb matched 36) (leb matched d.taken) (rw e at o.sane.numbers) in
        (ltb-true matched 36 h.0, leb-true matched d.taken h.1)

    pub between-small : {start heard : ℕ} → phase_of d ≡ Between start heard → heard < 61
    between-small {heard = heard} e = ltb-true heard 61 (rw e at o.sane.numbers)

    pub one-small : {start place heard : ℕ} {frame : Frame} → phase_of d ≡ InOne start place heard frame → Framed d.n place heard frame.wrong
    one-small {place = place} {heard = heard} {frame = frame} e = framed d.n place heard frame.wrong (rw e at o.sane.numbers)

    pub two-small : {start place heard : ℕ} {frame : Frame} {checks : Checks} → phase_of d ≡ InTwo start place heard frame checks
        → Framed d.n place heard frame.wrong
    two-small {place = place} {heard = heard} {frame = frame} e = framed d.n place heard frame.wrong (rw e at o.sane.numbers)

    pub none-told : {start answer : ℕ} {checks : Checks} → phase_of d ≡ Told start answer checks → ⊥
    none-told e = let h = open-phase d o.early in let z : ◌≡◌ {A = ℕ} 0 1 = cc in omega arith

-- ---- Something is settled

pub placed-next : (n k start i : ℕ) (read : ByteRead) (work out : List ℕ) {ph : Phase} {work' : List ℕ} → i + 1 < n + 10
    → work' ≡ put_byte work i read → ph ≡ InOne start (i + 1) 0 fresh → standing k ph work' out ≡ placed n k start i read work out
unfolding placed
placed-next n k start i read work out h w f = rw (ne_eqb (suc i) (n + 10) (λ z. omega arith), f, w, add-one)

pub placed-last : (n k start i : ℕ) (read : ByteRead) (work out : List ℕ) {work' : List ℕ} → i < n + 10 → (i + 1 < n + 10 → ⊥)
    → work' ≡ put_byte work i read → standing k (Between start 0) work' out ≡ placed n k start i read work out
unfolding placed
placed-last n k start i read work out l h w = rw (eq-eqb (suc i) (n + 10) (omega arith), w)

module _ (n k start i : ℕ) (two : ByteRead) (checks : Checks) (work out : List ℕ) where
  abbrev after : Standing
  after = judged n k start i (get_byte work i) two checks work out

  module _ {one : ByteRead} (e : one ≡ get_byte work i) {more : Checks} where
    pub judged-countdown : {ph : Phase} → i < 9 → more ≡ check_countdown i one two checks → ph ≡ InTwo start (i + 1) 0 fresh more
        → standing k ph work out ≡ after
    unfolding judged check_byte mend_byte
    judged-countdown h m f = rw (ne_eqb (suc i) (n + 10) (λ z. omega arith), lt-ltb i 9 h, f, m, e, add-one)

    module _ {p : Place} (s : p ≡ place_of one two) (h : 9 ≤ i) (m : more ≡ check_place n (i - 9) p checks) {work' : List ℕ} (w : work' ≡ mended work i p) where
      pub judged-next : {ph : Phase} → i - 9 < n → ph ≡ InTwo start (i + 1) 0 fresh more → standing k ph work' out ≡ after
      unfolding judged check_byte mend_byte
      judged-next l f = rw (ne_eqb (suc i) (n + 10) (λ z. omega arith), le-ltb i 9 h, f, m, w, s, e, add-one)

      pub judged-last : {answer value : ℕ} {out' : List ℕ} → i < n + 10 → n ≤ i - 9 → answer ≡ answer_by n value more → value ≡ place_value p
          → out' ≡ filled n answer work' out → standing k (Told start answer more) work' out' ≡ after
      unfolding judged check_byte mend_byte told
      judged-last b l a v q = rw (eq-eqb (suc i) (n + 10) (omega arith), le-ltb i 9 h, q, a, v, m, w, s, e)

-- ---- One pulse

-- it is heard, and what is whole with it is settled
step_is : (n k : ℕ) (ph : Phase) (work out : List ℕ) (c : Class) → is_told ph ≡ false
    → (whole_in (fed_in ph c) ≡ false → step n (standing k ph work out) c ≡ standing (suc k) (fed_in ph c) work out)
    × (whole_in (fed_in ph c) ≡ true → step n (standing k ph work out) c
    ≡ settled n (standing (suc k) (fed_in ph c) work out) (closed (deck_of n (suc k) (fed_in ph c)).frame))
unfolding step sought
step_is n k (Seeking matched) work out c t = (λ e. rw e, λ e. rw e)
step_is n k (InOne start i heard frame) work out c t = (λ e. rw e, λ e. rw e)
step_is n k (Between start heard) work out c t = (λ e. rw e, λ e. rw e)
step_is n k (InTwo start i heard frame checks) work out c t = (λ e. rw e, λ e. rw e)
step_is n k (Told start answer checks) work out c t = absurd (let z : ◌≡◌ {A = ℕ} 0 1 = cc in omega arith)

module _ (d : Deck) (early : d.phase < 4) (c : Class) (work out : List ℕ) {fed : Deck} (e : fed ≡ deck_of d.n (suc d.taken) (fed_in (phase_of d) c)) where
  fed-phase : phase_of fed ≡ fed_in (phase_of d) c
  fed-phase = ap phase_of e ∙ phase-of d.n (suc d.taken) (fed_in (phase_of d) c)

  fed-n : fed.n ≡ d.n
  fed-n = ap (λ (d : Deck). d.n) e ∙ n-of d.n (suc d.taken) (fed_in (phase_of d) c)

  fed-taken : fed.taken ≡ suc d.taken
  fed-taken = ap (λ (d : Deck). d.taken) e ∙ taken_of d.n (suc d.taken) (fed_in (phase_of d) c)

  pub step-heard : {t : Bool} → t ≡ whole_in (phase_of fed) → t ≡ false → lent fed work out ≡ step_lent (lent d work out) c
  unfolding step_lent
  step-heard w h =
      let s = (step_is d.n d.taken (phase_of d) work out c (open-phase d early)).0 (rw fed-phase at (sym w ∙ h)) in
      rw (ne_eqb d.phase 4 (λ z. omega arith), s, e)

  pub step-settled : {t : Bool} {read : ByteRead} {r : Deck} {work' out' : List ℕ} → t ≡ whole_in (phase_of fed) → t ≡ true → read ≡ closed fed.frame
      → lent r work' out' ≡ lent_of fed.n (settled fed.n (standing fed.taken (phase_of fed) work out) read)
      → lent r work' out' ≡ step_lent (lent d work out) c
  unfolding step_lent
  step-settled t h q w =
      let s = (step_is d.n d.taken (phase_of d) work out c (open-phase d early)).1 (rw fed-phase at (sym t ∙ h)) in
      rw (ne_eqb d.phase 4 (λ z. omega arith), s, ← (ap (λ (d : Deck). d.frame) e), ← q) (rw (fed-phase, fed-n, fed-taken) at w)

-- ---- What settling asks for

pub closed-cause : (f : Frame) → f.wrong ≤ 10 → cause_byte (closed f) < 256
unfolding closed
closed-cause f h = go (eqb f.wrong 10 && is_odd (ones (f.bits % 256) + f.bits / 256))
  where
    go : (t : Bool) → cause_byte (cond t (Good (f.bits % 256)) (Bad f.wrong)) < 256
    go true = lit< tt
    go false = omega arith

pub roomy : (n work out : ℕ) → outside 65534 n ≡ false → fits n work out ≡ true → Roomy n work out
roomy n work out e f =
    let h = or-false (eqb n 0) (ltb 65534 n) e in
    let g = and-true (leb (2 * (n + 10)) work) (leb n out) f in
    record { most = ltb-false 65534 n h.1; working = leb-true (2 * (n + 10)) work g.0; payload = leb-true n out g.1 }

-- after a pulse was heard that makes something whole
module _ (d : Deck) (o : Open d) (c : Class) (work out : ℕ) (room : Roomy d.n work out) where
  settles-in : (ph : Phase) → phase_of d ≡ ph → whole_in (fed_in ph c) ≡ true
      → (let fed = deck_of d.n (suc d.taken) (fed_in ph c) in
      (settles_in d.n (suc d.taken) (fed_in ph c) ≡ true) × (cause_byte (closed fed.frame) < 256))
  settles-in (Seeking matched) e h =
      let z = eqb-true (seek matched c) 36 h in
      let l = seek-le matched c in
      let b = seeking-small d o e in
      (le-leb 20 (suc d.taken) (omega (arith, b)), closed-cause (frame_of 0 0 0) (omega arith))
  settles-in (InOne start i heard frame) e h =
      let b = one-small d o e in
      (lt-ltb i (d.n + 10) b.place, closed-cause (take_pulse heard frame c) (pulse-wrong heard frame c b.wrong))
  settles-in (Between start heard) e h = (refl, closed-cause (frame_of 0 0 0) (omega arith))
  settles-in (InTwo start i heard frame checks) e h =
      let b = two-small d o e in
      (lt-ltb i (d.n + 10) b.place, closed-cause (take_pulse heard frame c) (pulse-wrong heard frame c b.wrong))
  settles-in (Told start answer checks) e h = absurd (let z : ◌≡◌ {A = ℕ} 0 1 = cc in omega arith)

  pub fed-settles : {fed : Deck} {t : Bool} {read : ByteRead} → fed ≡ deck_of d.n (suc d.taken) (fed_in (phase_of d) c)
      → t ≡ whole_in (phase_of fed) → t ≡ true → read ≡ closed fed.frame → Settles fed read work out
  fed-settles e t h q =
      let after = fed_in (phase_of d) c in
      let w : whole_in after ≡ true = rw (e, phase-of d.n (suc d.taken) after) at (sym t ∙ h) in
      let s = settles-in (phase_of d) refl w in
      rw (q, e) (record {
        room = rw (n-of d.n (suc d.taken) after) room;
        numbers = rw (phase-of d.n (suc d.taken) after, n-of d.n (suc d.taken) after, taken_of d.n (suc d.taken) after) s.0;
        cause = s.1;
      })

-- ---- A whole frame

steps-none : (n : ℕ) (s : Standing) (cs : List Class) → length cs ≡ 0 → steps n s cs ≡ s
unfolding steps
steps-none n s [] e = refl
steps-none n s (c ∷ cs) e = absurd (omega arith)

-- a phase that reads a frame: `mk` with the pulses heard, and `last` when the byte is known
module _ (n : ℕ) (work out : List ℕ) (mk : (heard : ℕ) → Frame → Phase) (last : (k : ℕ) → ByteRead → Standing)
    (law : (k heard : ℕ) (f : Frame) (c : Class) → step n (standing k (mk heard f) work out) c
    ≡ cond (eqb (suc heard) 20) (last (suc k) (closed (take_pulse heard f c))) (standing (suc k) (mk (suc heard) (take_pulse heard f c)) work out)) where
  steps-frame : (ys zs : List Class) (k j : ℕ) → drop j ys ≡ zs → j + length zs ≡ 20 → j < 20
      → steps n (standing k (mk j (frame_after ys j)) work out) zs ≡ last (k + length zs) (closed (frame_after ys 20))
  unfolding steps frame_after
  steps-frame ys [] k j e l h = absurd (omega arith)
  steps-frame ys (c ∷ zs) k j e l h =
      let z₀ : j + 0 ≡ j = omega arith in
      let z₁ : j + 1 ≡ suc j = omega arith in
      let here : get_or ys j Noise ≡ c = sym (rw z₀ at (get_or-drop j ys 0 Noise)) ∙ ap (λ (l : List Class). get_or l 0 Noise) e in
      let rest : drop (suc j) ys ≡ zs = sym (rw z₁ at (drop-drop 1 j ys)) ∙ ap (drop 1) e in
      let more : take_pulse j (frame_after ys j) c ≡ frame_after ys (suc j) = rw (← here) in
      rw (law k j (frame_after ys j) c, more)
      (elim (ℕ_discrete (suc j) 20) [
        | yes z ↦ (let k' : k + suc (length zs) ≡ suc k = omega arith in
            rw (eq-eqb (suc j) 20 z, k')
            (steps-none n (last (suc k) (closed (frame_after ys (suc j)))) zs (omega arith) ∙ ap (λ m. last (suc k) (closed (frame_after ys m))) z))
        | no z ↦ (let k' : k + suc (length zs) ≡ suc k + length zs = omega arith in
            rw (ne_eqb (suc j) 20 z, k') (steps-frame ys zs (suc k) (suc j) rest (omega arith) (omega arith)))
      ])

  -- from a frame with no pulse heard, whatever the last pulse before it was
  frame-run : (ys : List Class) (k last' : ℕ) → length ys ≡ 20
      → steps n (standing k (mk 0 (frame_of 0 last' 10)) work out) ys ≡ last (k + 20) (byte_of ys)
  unfolding steps frame_after take_pulse
  frame-run [] k last' l = absurd (omega arith)
  frame-run (c ∷ ys) k last' l =
      let r = steps-frame (c ∷ ys) (c ∷ ys) k 0 refl (omega arith) (lit< tt) in
      rw (law k 0 (frame_of 0 last' 10) c) (rw (law k 0 fresh c, l, closed_is (c ∷ ys)) at r)

-- such a state in words
pub record AtFrame (d : Deck) : Type 0 where
  pub copy : (d.phase ≡ 1) ⊎ (d.phase ≡ 3)
  pub heard : d.heard ≡ 0
  pub bits : d.frame.bits ≡ 0
  pub wrong : d.frame.wrong ≡ 10

pub at-frame : (d : Deck) → is_at_frame d ≡ true → AtFrame d
unfolding is_at_frame
at-frame d e =
    let one-or-two = eqb d.phase 1 || eqb d.phase 3 in
    let a = and-true ((one-or-two && eqb d.heard 0) && eqb d.frame.bits 0) (eqb d.frame.wrong 10) e in
    let b = and-true (one-or-two && eqb d.heard 0) (eqb d.frame.bits 0) a.0 in
    let c = and-true one-or-two (eqb d.heard 0) b.0 in
    record {
      copy = elim (or-true (eqb d.phase 1) (eqb d.phase 3) c.0) [
        | inl e ↦ inl (eqb-true d.phase 1 e)
        | inr e ↦ inr (eqb-true d.phase 3 e)
      ];
      heard = eqb-true d.heard 0 c.1;
      bits = eqb-true d.frame.bits 0 b.1;
      wrong = eqb-true d.frame.wrong 10 a.1;
    }

-- the first pulse that a state takes, before an answer
steps_first : (d : Deck) (work out : List ℕ) (c : Class) (cs : List Class) → d.phase < 4
    → steps_lent (lent d work out) (c ∷ cs) ≡ lent_of d.n (steps d.n (standing d.taken (phase_of d) work out) (c ∷ cs))
unfolding steps_lent step_lent steps
steps_first d work out c cs h =
    rw (ne_eqb d.phase 4 (λ z. omega arith)) (steps_of d.n (step d.n (standing d.taken (phase_of d) work out) c) cs)

frame-taken : (d : Deck) → AtFrame d → (work out : List ℕ) (ys : List Class) → length ys ≡ 20
    → steps d.n (standing d.taken (phase_of d) work out) ys ≡ settled d.n (standing (d.taken + 20) (phase_of d) work out) (byte_of ys)
frame-taken d a work out ys l =
    let f : d.frame ≡ frame_of 0 d.frame.last 10 = (let b = a.bits in let w = a.wrong in rw (← b, ← w)) in
    elim a.copy [
      | inl e ↦ rw (phase-one d e, a.heard)
          (ap (λ (f : Frame). steps d.n (standing d.taken (InOne d.start d.place 0 f) work out) ys) f
          ∙ frame-run d.n work out (InOne d.start d.place) (λ k r. placed d.n k d.start d.place r work out)
          (λ k heard f c. unfold step in refl) ys d.taken d.frame.last l)
      | inr e ↦ rw (phase-two d e, a.heard)
          (ap (λ (f : Frame). steps d.n (standing d.taken (InTwo d.start d.place 0 f d.checks) work out) ys) f
          ∙ frame-run d.n work out (λ heard f. InTwo d.start d.place heard f d.checks)
          (λ k r. judged d.n k d.start d.place (get_byte work d.place) r d.checks work out)
          (λ k heard f c. unfold step in refl) ys d.taken d.frame.last l)
    ]

-- twenty pulses at the beginning of a frame are the byte that they make
pub frame-steps : (d : Deck) → is_at_frame d ≡ true → (work out : List ℕ) (ys : List Class) → length ys ≡ 20
    → steps_lent (lent d work out) ys ≡ lent_of d.n (settled d.n (standing (d.taken + 20) (phase_of d) work out) (byte_of ys))
frame-steps d e work out [] l = absurd (omega arith)
frame-steps d e work out (c ∷ cs) l =
    let a = at-frame d e in
    let h : d.phase < 4 = elim a.copy [ inl e ↦ (omega arith) | inr e ↦ (omega arith) ] in
    rw (steps_first d work out c cs h, frame-taken d a work out (c ∷ cs) l)
