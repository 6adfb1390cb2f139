-- Laws of the calls, for any state: what a pulse and a run keep, and that cutting does not matter.
use Prim.Native.Nat.{ℕ, suc, ◌+◌, ◌-◌, ◌≤◌, ◌<◌}
use native.Mathlib.Decide.{dec_le}
use native.Mathlib.Omega.{arith}
use mathlib.Core.Path.{◌≡◌, refl, sym, ap, ◌∙◌}
use mathlib.Core.Logic.{◌⊎◌, inl, inr}
use mathlib.Core.Bool.{Bool, true, false, cond, ◌&&◌, ◌||◌}
use mathlib.Core.List.{List, [], ◌∷◌, ◌++◌, append-nil, append_assoc}
use borrow.Author.Tests.{eq-eqb, eqb-true, eqb-false, lt-ltb, le-ltb, ltb-true, le-leb, leb-true}
use lib.Dec.{eqb, leb, ltb, lit<, lit≤}
use lib.ListN.{length, length-append}
use Rattle.lists.specs.Buffer.{put_at}
use Rattle.lists.proofs.BoolLaws.{and-true}
use Rattle.lists.proofs.BufferLaws.{length-put}
use Rattle.refusal.specs.Outcome.{accepted}
use Rattle.pulse.specs.declared.Class.{Class}
use Rattle.byte.specs.declared.ByteRead.{ByteRead}
use Rattle.byte.specs.declared.ByteRead.TheVariants.{Good}
use Rattle.start.specs.Copies.{end_of}
use Rattle.block.specs.declared.Extent.{Extent}
use Rattle.block.specs.Reading.{place_of, place_value}
use Rattle.deck.specs.declared.Frame.{Frame}
use Rattle.deck.specs.declared.Checks.{Checks}
use Rattle.deck.specs.Frame.{fresh, take_pulse, closed}
use Rattle.deck.specs.Lead.{seek}
use Rattle.deck.specs.Work.{put_byte, get_byte, payload_in}
use Rattle.deck.specs.Judge.{no_checks, check_byte, mend_byte, answer_by, filled}
use Rattle.deck.specs.Step.{Phase, Seeking, InOne, Between, InTwo, Told, Standing, standing, sought, placed, told, judged, step}
use Rattle.deck.specs.Calls.{deck_of, phase_of, sound_in, is_sound, is_closed, Lent, lent, lent_of, deck_refusing, refusing, step_lent, steps_lent, if_lent, take_run, outcome_by, Answered, said_in, said_by}
use Rattle.deck.specs.Claim.{take_runs, joined, singles, has_room}
use Rattle.deck.proofs.FrameLaws.{pulse-wrong}
use Rattle.deck.proofs.LeadLaws.{seek-le}
use Rattle.deck.proofs.WorkLaws.{length-put_byte, length-mend}
use Rattle.deck.proofs.Running.{steps}
use Rattle.deck.proofs.SoundLaws.{n-of, taken_of, refused-of, sound-of, said_of, Sane, sound-sane, sane-sound, closed-open, open-closed, open-refusing, answered-phase}

-- ---- One pulse, by the phase

-- the output is as before, or the state says an acceptance
abbrev pub Filled : (out : List ℕ) → Lent → Type 0
Filled out l = (l.out ≡ out) ⊎ ((e : Extent) × (said_by l.deck ≡ Answered (accepted e)))

-- what m pulses keep
pub record Went (m : ℕ) (l l' : Lent) : Type 0 where
  pub size : l'.deck.n ≡ l.deck.n
  pub work : length l'.work ≡ length l.work
  pub out : length l'.out ≡ length l.out
  pub taken : l'.deck.taken ≤ l.deck.taken + m
  pub plain : l.deck.refused ≡ 0 → l'.deck.refused ≡ 0
  pub sound : is_sound l.deck ≡ true → is_sound l'.deck ≡ true
  pub filled : is_sound l.deck ≡ true → Filled l.out l'

-- a frame that is being read, at a place of a copy, in words
pub record Framed (n i j w : ℕ) : Type 0 where
  pub place : i < n + 10
  pub heard : j < 20
  pub wrong : w ≤ 10

pub framed : (n place heard wrong : ℕ) → (ltb place (n + 10) && ltb heard 20 && leb wrong 10) ≡ true → Framed n place heard wrong
framed n place heard wrong e =
    let a = and-true (ltb place (n + 10) && ltb heard 20) (leb wrong 10) e in
    let b = and-true (ltb place (n + 10)) (ltb heard 20) a.0 in
    record { place = ltb-true place (n + 10) b.0; heard = ltb-true heard 20 b.1; wrong = leb-true wrong 10 a.1 }

framed-test : (n place heard wrong : ℕ) → place < n + 10 → heard < 20 → wrong ≤ 10 → (ltb place (n + 10) && ltb heard 20 && leb wrong 10) ≡ true
framed-test n place heard wrong p h w = rw (lt-ltb place (n + 10) p, lt-ltb heard 20 h, le-leb wrong 10 w)

-- a count that is not at its end
next-lt : (a b : ℕ) → a < b → eqb (suc a) b ≡ false → suc a < b
next-lt a b h e = elim (dec_le (suc (suc a)) b) [ yes l ↦ l | no l ↦ absurd (eqb-false (suc a) b e (omega arith)) ]

answer-sound : (n x : ℕ) (c : Checks) → (let a = answer_by n x c in (eqb a 0 || (leb 3 a && leb a 7)) ≡ true)
unfolding answer_by
answer-sound n x c = go (ltb c.failed 9) (leb c.lost n) (eqb c.sum x)
  where
    go : (f l s : Bool) → (let a : ℕ = cond f 5 (cond l 6 (cond s 0 7)) in (eqb a 0 || (leb 3 a && leb a 7)) ≡ true)
    go true l s = refl
    go false true s = refl
    go false false true = refl
    go false false false = refl

module _ (l : Lent) where
  abbrev n : ℕ
  n = l.deck.n

  abbrev k : ℕ
  k = l.deck.taken

  -- one pulse comes to these numbers and buffers
  went_to : (ph : Phase) (w o : List ℕ) → length w ≡ length l.work → length o ≡ length l.out
      → (Sane l.deck → sound_in n (suc k) 0 ph ≡ true) → (o ≡ l.out) ⊎ ((start : ℕ) × (checks : Checks) × (ph ≡ Told start 0 checks))
      → Went 1 l (lent_of n (standing (suc k) ph w o))
  went_to ph w o a b s f =
      let sound : is_sound l.deck ≡ true → is_sound (deck_of n (suc k) ph) ≡ true =
      λ e. let t = sound-sane l.deck e in sound-of n (suc k) ph t.size (s t) in
      record {
        size = n-of n (suc k) ph;
        work = a;
        out = b;
        taken = rw (taken_of n (suc k) ph) (omega arith);
        plain = λ e. refused-of n (suc k) ph;
        sound = sound;
        filled = λ e. elim f [
          | inl q ↦ inl q
          | inr q ↦
              let told = said_of n (suc k) ph (sound e) ∙ ap (said_in n) q.2 in
              inr (record { n = n; start = q.0; end = end_of q.0 n }, told ∙ (unfold outcome_by in refl))
        ];
      }

  module _ (c : Class) where
    abbrev Goes : Phase → Type 0
    Goes ph = phase_of l.deck ≡ ph → Went 1 l (lent_of n (step n (standing k ph l.work l.out) c))

    goes-seeking : (matched : ℕ) → Goes (Seeking matched)
    unfolding step sought
    goes-seeking matched e = go (eqb (seek matched c) 36) refl
      where
        small : Sane l.deck → (matched < 36) × (matched ≤ k)
        small s =
            let h = and-true (ltb matched 36) (leb matched k) (rw e at s.numbers) in
            (ltb-true matched 36 h.0, leb-true matched k h.1)

        go : (t : Bool) → eqb (seek matched c) 36 ≡ t
            → Went 1 l (lent_of n (cond t (standing (suc k) (InOne (suc k - 20) 1 0 fresh) (put_byte l.work 0 (Good 0x89)) l.out)
            (standing (suc k) (Seeking (seek matched c)) l.work l.out)))
        go true t = went_to (InOne (suc k - 20) 1 0 fresh) (put_byte l.work 0 (Good 0x89)) l.out (length-put_byte l.work 0 (Good 0x89)) refl
            (λ s. framed-test n 1 0 10 (omega arith) (lit< tt) (lit≤ tt)) (inl refl)
        go false t = went_to (Seeking (seek matched c)) l.work l.out refl refl
            (λ s. let h = small s in let h₀ = h.0 in let h₁ = h.1 in let le = seek-le matched c in
            let ne = eqb-false (seek matched c) 36 t in
            rw (
              lt-ltb (seek matched c) 36 (elim (dec_le (seek matched c) 35) [ yes a ↦ omega arith | no a ↦ absurd (ne (omega arith)) ]),
              le-leb (seek matched c) (suc k) (omega arith),
            ))
            (inl refl)

    -- a frame with one pulse more, and not yet twenty
    framed-more : (i heard : ℕ) (frame : Frame) → Framed n i heard frame.wrong → eqb (suc heard) 20 ≡ false
        → (ltb i (n + 10) && ltb (suc heard) 20 && leb (take_pulse heard frame c).wrong 10) ≡ true
    framed-more i heard frame s t =
        framed-test n i (suc heard) (take_pulse heard frame c).wrong s.place (next-lt heard 20 s.heard t)
        (pulse-wrong heard frame c s.wrong)

    goes_one : (start i heard : ℕ) (frame : Frame) → Goes (InOne start i heard frame)
    unfolding step placed
    goes_one start i heard frame e = go (eqb (suc heard) 20) refl (eqb (suc i) (n + 10)) refl
      where
        f : Frame
        f = take_pulse heard frame c

        w : List ℕ
        w = put_byte l.work i (closed f)

        fine : Sane l.deck → Framed n i heard frame.wrong
        fine s = framed n i heard frame.wrong (rw e at s.numbers)

        go : (t : Bool) → eqb (suc heard) 20 ≡ t → (u : Bool) → eqb (suc i) (n + 10) ≡ u
            → Went 1 l (lent_of n (cond t (cond u (standing (suc k) (Between start 0) w l.out)
            (standing (suc k) (InOne start (suc i) 0 fresh) w l.out))
            (standing (suc k) (InOne start i (suc heard) f) l.work l.out)))
        go true t true u = went_to (Between start 0) w l.out (length-put_byte l.work i (closed f)) refl (λ s. refl) (inl refl)
        go true t false u = went_to (InOne start (suc i) 0 fresh) w l.out (length-put_byte l.work i (closed f)) refl
            (λ s. framed-test n (suc i) 0 10 (next-lt i (n + 10) (fine s).place u) (lit< tt) (lit≤ tt)) (inl refl)
        go false t u q = went_to (InOne start i (suc heard) f) l.work l.out refl refl
            (λ s. framed-more i heard frame (fine s) t) (inl refl)

    goes-between : (start heard : ℕ) → Goes (Between start heard)
    unfolding step
    goes-between start heard e = go (eqb (suc heard) 61) refl
      where
        go : (t : Bool) → eqb (suc heard) 61 ≡ t
            → Went 1 l (lent_of n (cond t (standing (suc k) (InTwo start 0 0 fresh (no_checks n)) l.work l.out)
            (standing (suc k) (Between start (suc heard)) l.work l.out)))
        go true t = went_to (InTwo start 0 0 fresh (no_checks n)) l.work l.out refl refl
            (λ s. framed-test n 0 0 10 (omega arith) (lit< tt) (lit≤ tt)) (inl refl)
        go false t = went_to (Between start (suc heard)) l.work l.out refl refl
            (λ s. lt-ltb (suc heard) 61 (next-lt heard 61 (ltb-true heard 61 (rw e at s.numbers)) t)) (inl refl)

    goes-two : (start i heard : ℕ) (frame : Frame) (checks : Checks) → Goes (InTwo start i heard frame checks)
    unfolding step judged told filled
    goes-two start i heard frame checks e = go (eqb (suc heard) 20) refl (eqb (suc i) (n + 10)) refl (eqb a 0) refl
      where
        f : Frame
        f = take_pulse heard frame c

        one : ByteRead
        one = get_byte l.work i

        checks' : Checks
        checks' = check_byte n i one (closed f) checks

        a : ℕ
        a = answer_by n (place_value (place_of one (closed f))) checks'

        w : List ℕ
        w = mend_byte l.work i one (closed f)

        same_length : length w ≡ length l.work
        same_length = length-mend l.work i one (closed f)

        fine : Sane l.deck → Framed n i heard frame.wrong
        fine s = framed n i heard frame.wrong (rw e at s.numbers)

        answered : Sane l.deck → sound_in n (suc k) 0 (Told start a checks') ≡ true
        answered s = answer-sound n (place_value (place_of one (closed f))) checks'

        go : (t : Bool) → eqb (suc heard) 20 ≡ t → (u : Bool) → eqb (suc i) (n + 10) ≡ u → (z : Bool) → eqb a 0 ≡ z
            → Went 1 l (lent_of n (cond t (cond u (standing (suc k) (Told start a checks') w (cond z (put_at l.out 0 (payload_in n w)) l.out))
            (standing (suc k) (InTwo start (suc i) 0 fresh checks') w l.out))
            (standing (suc k) (InTwo start i (suc heard) f checks) l.work l.out)))
        go true t true u true z =
            went_to (Told start a checks') w (put_at l.out 0 (payload_in n w)) same_length (length-put l.out 0 (payload_in n w)) answered
            (inr (start, checks', ap (λ x. Told start x checks') (eqb-true a 0 z)))
        go true t true u false z = went_to (Told start a checks') w l.out same_length refl answered (inl refl)
        go true t false u z y = went_to (InTwo start (suc i) 0 fresh checks') w l.out same_length refl
            (λ s. framed-test n (suc i) 0 10 (next-lt i (n + 10) (fine s).place u) (lit< tt) (lit≤ tt)) (inl refl)
        go false t u q z y = went_to (InTwo start i (suc heard) f checks) l.work l.out refl refl
            (λ s. framed-more i heard frame (fine s) t) (inl refl)

    goes-told : (start answer : ℕ) (checks : Checks) → Goes (Told start answer checks)
    unfolding step
    goes-told start answer checks e = record {
      size = refl;
      work = refl;
      out = refl;
      taken = omega arith;
      plain = λ q. refl;
      sound = λ q. (let s = sound-sane l.deck q in
          let h = and-true (eqb l.deck.refused 0) (eqb answer 0 || (leb 3 answer && leb answer 7)) (rw e at s.numbers) in
          sound-of n k (Told start answer checks) s.size h.1);
      filled = λ q. inl refl;
    }

    goes : (ph : Phase) → Goes ph
    goes (Seeking matched) e = goes-seeking matched e
    goes (InOne start i heard frame) e = goes_one start i heard frame e
    goes (Between start heard) e = goes-between start heard e
    goes (InTwo start i heard frame checks) e = goes-two start i heard frame checks e
    goes (Told start answer checks) e = goes-told start answer checks e

    pub step_went : Went 1 l (step_lent l c)
    unfolding step_lent
    step_went = go (eqb l.deck.phase 4)
      where
        go : (t : Bool) → Went 1 l (cond t l (lent_of n (step n (standing k (phase_of l.deck) l.work l.out) c)))
        go true = record { size = refl; work = refl; out = refl; taken = omega arith; plain = λ q. q; sound = λ q. q; filled = λ q. inl refl }
        go false = goes (phase_of l.deck) refl

-- ---- Pulses

-- after an answer nothing changes
pub steps-told : (l : Lent) (cs : List Class) → l.deck.phase ≡ 4 → steps_lent l cs ≡ l
unfolding steps_lent step_lent
steps-told l [] e = refl
steps-told l (c ∷ cs) e = rw (eq-eqb l.deck.phase 4 e) (steps-told l cs e)

pub steps-append : (l : Lent) (cs ds : List Class) → steps_lent l (cs ++ ds) ≡ steps_lent (steps_lent l cs) ds
unfolding steps_lent
steps-append l [] ds = refl
steps-append l (c ∷ cs) ds = steps-append (step_lent l c) cs ds

pub steps-went : (l : Lent) (cs : List Class) → Went (length cs) l (steps_lent l cs)
unfolding steps_lent
steps-went l [] = record { size = refl; work = refl; out = refl; taken = omega arith; plain = λ q. q; sound = λ q. q; filled = λ q. inl refl }
steps-went l (c ∷ cs) =
    let first = step_went l c in
    let later = steps-went (step_lent l c) cs in
    record {
      size = later.size ∙ first.size;
      work = later.work ∙ first.work;
      out = later.out ∙ first.out;
      taken = omega (arith, later.taken, first.taken);
      plain = λ q. later.plain (first.plain q);
      sound = λ q. later.sound (first.sound q);
      filled = λ q. elim (first.filled q) [
        | inl same ↦ elim (later.filled (first.sound q)) [ inl same' ↦ inl (same' ∙ same) | inr told ↦ inr told ]
        | inr told ↦ (let same = steps-told (step_lent l c) cs (answered-phase (step_lent l c).deck (accepted told.0) told.1) in
            inr (told.0, ap (λ (l : Lent). said_by l.deck) same ∙ told.1))
      ];
    }

-- the same of the numbers that a standing has
step_of : (n : ℕ) (s : Standing) (c : Class) → step_lent (lent_of n s) c ≡ lent_of n (step n s c)
unfolding step_lent phase_of
step_of n (standing k (Seeking matched) w o) c = refl
step_of n (standing k (InOne start i heard frame) w o) c = refl
step_of n (standing k (Between start heard) w o) c = refl
step_of n (standing k (InTwo start i heard frame checks) w o) c = refl
step_of n (standing k (Told start answer checks) w o) c = unfold step in refl

pub steps_of : (n : ℕ) (s : Standing) (cs : List Class) → steps_lent (lent_of n s) cs ≡ lent_of n (steps n s cs)
unfolding steps_lent steps
steps_of n s [] = refl
steps_of n s (c ∷ cs) = ap (λ (l : Lent). steps_lent l cs) (step_of n s c) ∙ steps_of n (step n s c) cs

-- ---- Runs

pub run-closed : (l : Lent) (cs : List Class) → is_closed l.deck ≡ true → take_run l cs ≡ l
unfolding take_run
run-closed l cs e = rw e

module _ (l : Lent) (cs : List Class) (o : is_closed l.deck ≡ false) where
  pub run-many : 4294967295 < l.deck.taken + length cs → take_run l cs ≡ refusing 1 l
  unfolding take_run
  run-many h = rw (o, lt-ltb 4294967295 (l.deck.taken + length cs) h)

  module _ (h : l.deck.taken + length cs ≤ 4294967295) where
    pub run_short : has_room l ≡ false → take_run l cs ≡ refusing 2 l
    unfolding take_run if_lent
    run_short f = rw (o, le-ltb 4294967295 (l.deck.taken + length cs) h, f)

    pub run-steps : has_room l ≡ true → take_run l cs ≡ steps_lent (refusing 0 l) cs
    unfolding take_run if_lent
    run-steps f = rw (o, le-ltb 4294967295 (l.deck.taken + length cs) h, f)

-- a refusal before leaves nothing behind
pub refusing-run : (l : Lent) (number : ℕ) (cs : List Class) → is_closed l.deck ≡ false → number ≤ 2
    → take_run (refusing number l) cs ≡ take_run l cs
unfolding take_run if_lent
refusing-run l number cs o h = rw (o, open-closed (deck_refusing number l.deck) (open-refusing number l.deck h (closed-open l.deck o)))

pub refusing-sound : (l : Lent) (number : ℕ) → is_closed l.deck ≡ false → number ≤ 2 → is_sound (refusing number l).deck ≡ true
refusing-sound l number o h = sane-sound (deck_refusing number l.deck) (open-refusing number l.deck h (closed-open l.deck o)).sane

-- a sound state that was not refused takes the pulses
pub run_on : (l : Lent) (cs : List Class) → is_sound l.deck ≡ true → l.deck.refused ≡ 0 → l.deck.taken + length cs ≤ 4294967295
    → has_room l ≡ true → take_run l cs ≡ steps_lent l cs
unfolding is_closed
run_on l cs s r h f = go (eqb l.deck.phase 4) refl
  where
    go : (t : Bool) → eqb l.deck.phase 4 ≡ t → take_run l cs ≡ steps_lent l cs
    go true e = run-closed l cs (rw (s, e)) ∙ sym (steps-told l cs (eqb-true l.deck.phase 4 e))
    go false e = run-steps l cs (rw (s, e)) h f ∙ ap (λ x. steps_lent (lent (deck_refusing x l.deck) l.work l.out) cs) (sym r)

-- ---- Cuts

-- a run is the same as two that make it up
pub two_runs : (l : Lent) (cs ds : List Class) → l.deck.taken + length (cs ++ ds) ≤ 4294967295 → take_run l (cs ++ ds) ≡ take_run (take_run l cs) ds
two_runs l cs ds h = go (is_closed l.deck) refl (has_room l) refl
  where
    all : length (cs ++ ds) ≡ length cs + length ds
    all = length-append cs ds

    l₀ : Lent
    l₀ = refusing 0 l

    l' : Lent
    l' = steps_lent l₀ cs

    w : Went (length cs) l₀ l'
    w = steps-went l₀ cs

    go : (t : Bool) → is_closed l.deck ≡ t → (f : Bool) → has_room l ≡ f → take_run l (cs ++ ds) ≡ take_run (take_run l cs) ds
    go true t f e = rw (run-closed l cs t) (run-closed l (cs ++ ds) t ∙ sym (run-closed l ds t))
    go false t false e =
        rw (run_short l cs t (omega (arith, all)) e, refusing-run l 2 ds t (lit≤ tt), run_short l ds t (omega (arith, all)) e)
        (run_short l (cs ++ ds) t h e)
    go false t true e =
        let fit : has_room l' ≡ true = rw (w.size, w.work, w.out) e in
        run-steps l (cs ++ ds) t h e ∙ steps-append l₀ cs ds
        ∙ sym (run_on l' ds (w.sound (refusing-sound l 0 t (lit≤ tt))) (w.plain refl) (omega (arith, all, w.taken)) fit)
        ∙ ap (λ (l : Lent). take_run l ds) (sym (run-steps l cs t (omega (arith, all)) e))

-- several runs are the same as one
pub runs-joined : (l : Lent) (cs : List Class) (runs : List (List Class)) → l.deck.taken + length (cs ++ joined runs) ≤ 4294967295
    → take_runs (take_run l cs) runs ≡ take_run l (cs ++ joined runs)
unfolding take_runs joined
runs-joined l cs [] h = ap (take_run l) (sym (append-nil cs))
runs-joined l cs (ds ∷ runs) h =
    let e = append_assoc cs ds (joined runs) in
    let shorter : length (cs ++ ds) ≤ length (cs ++ (ds ++ joined runs)) = omega (arith, ap length e, length-append (cs ++ ds) (joined runs)) in
    ap (λ (l : Lent). take_runs l runs) (sym (two_runs l cs ds (omega arith)))
    ∙ runs-joined l (cs ++ ds) runs (rw e h)
    ∙ ap (take_run l) e

pub joined-singles : (cs : List Class) → joined (singles cs) ≡ cs
unfolding joined singles
joined-singles [] = refl
joined-singles (c ∷ cs) = ap (λ (ds : List Class). c ∷ ds) (joined-singles cs)
