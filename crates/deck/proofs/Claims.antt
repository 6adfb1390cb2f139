-- The claims hold: `reads`, `tells`, `cuts`, `stays`, `sound` and `bears`.
use Prim.Native.Nat.{ℕ, ◌+◌, ◌*◌, ◌≤◌}
use native.Mathlib.Nat.{zero-add}
use native.Mathlib.Decide.{dec_le}
use native.Mathlib.Omega.{arith}
use mathlib.Core.Path.{◌≡◌, refl, sym, ap, ◌∙◌}
use mathlib.Core.Logic.{inl}
use mathlib.Core.Bool.{Bool, true, false, not, ◌&&◌, ◌||◌}
use mathlib.Core.List.{List, [], ◌∷◌, map, map-append}
use Rattle.std.specs.Prelude.{Option, None, Some}
use borrow.Author.Tests.{eq-eqb, le-ltb, ltb-false, leb-true}
use lib.Dec.{eqb, leb, ltb, lit≤}
use lib.ListN.{length, length-map}
use lib.Seq.{take_all}
use Rattle.lists.specs.Places.{part, Below}
use Rattle.lists.specs.Buffer.{put_at}
use Rattle.lists.proofs.BoolLaws.{and-true, or-false, or_right}
use Rattle.refusal.specs.Outcome.{Outcome, accepted, mapped, puts}
use Rattle.refusal.proofs.OutcomeLaws.{if_room-room, and_then-accepted}
use Rattle.pulse.specs.declared.Class.{Class}
use Rattle.pulse.specs.Pulse.{fixed, class_of, classes}
use Rattle.start.specs.Start.{start_of, start_at, find_start}
use Rattle.start.specs.Copies.{end_of}
use Rattle.start.proofs.CopiesLaws.{locate_copies-within}
use Rattle.block.specs.declared.Extent.{Extent}
use Rattle.block.specs.Block.{wrong_size, wrong_leader, block_length, block_pulses}
use Rattle.block.specs.Reading.{BlockRead, extent_of, payload_of, block_at, read_at, read_from, read_block}
use Rattle.block.specs.Damage.{Damaged}
use Rattle.block.proofs.BlockLaws.{wrong_size-within, wrong_leader-within, length-block, length-block_pulses}
use Rattle.block.proofs.ReadingLaws.{read_at-accepted}
use Rattle.block.proofs.DamageLaws.{read_from-damaged}
use Rattle.deck.specs.Limit.{outside, read_up_to}
use Rattle.deck.specs.declared.Deck.{Deck}
use Rattle.deck.specs.Work.{fits}
use Rattle.deck.specs.Step.{Phase, Seeking, InOne, Between, InTwo, Told, Standing, standing}
use Rattle.deck.specs.Calls.{deck_of, phase_of, sound_in, is_sound, is_closed, Lent, lent, lent_of, deck_refusing, refusing, steps_lent, begin_deck, if_lent, take_run, ended_in, take_end, Answered, said_by}
use Rattle.deck.specs.Claim.{take_runs, take_pulses, joined, singles, has_room, begun, Begins, told_after, saying_with, out_with, work_after, Reads, Tells, Cuts, Stays, Sound, Bears}
use Rattle.deck.proofs.Running.{steps, after-all}
use Rattle.deck.proofs.SoundLaws.{sound-of, said_of, sound-sane, closed-open, open-closed, open-refusing, answered-phase}
use Rattle.deck.proofs.CallLaws.{Filled, Went, steps-went, steps_of, run-closed, run-many, run_short, run-steps, refusing-run, refusing-sound, run_on, two_runs, runs-joined, joined-singles}
use Rattle.deck.proofs.Telling.{ShowsAt, after-shows, EndsAt, after-ends}

-- ---- Cuts

pub cuts : Cuts
unfolding take_runs singles
cuts = record {
  two = two_runs;
  each = λ l c cs h.
      sym (runs-joined l (c ∷ []) (singles cs) (rw (joined-singles cs) h) ∙ ap (λ (ds : List Class). take_run l (c ∷ ds)) (joined-singles cs));
}

-- ---- The end

end-closed : (l : Lent) → is_closed l.deck ≡ true → take_end l ≡ l
unfolding take_end
end-closed l e = rw e

pub end_short : (l : Lent) → is_closed l.deck ≡ false → has_room l ≡ false → take_end l ≡ refusing 2 l
unfolding take_end if_lent
end_short l o f = rw (o, f)

abbrev end_lent : Lent → Lent
end_lent l = lent (deck_of l.deck.n l.deck.taken (ended_in (phase_of l.deck))) l.work l.out

end-told : (l : Lent) → is_closed l.deck ≡ false → has_room l ≡ true → take_end l ≡ end_lent l
unfolding take_end if_lent
end-told l o f = rw (o, f)

-- in all three ways both buffers stay
end-buffers : (l : Lent) → ((take_end l).work ≡ l.work) × ((take_end l).out ≡ l.out)
end-buffers l = go (is_closed l.deck) refl (has_room l) refl
  where
    go : (t : Bool) → is_closed l.deck ≡ t → (f : Bool) → has_room l ≡ f → ((take_end l).work ≡ l.work) × ((take_end l).out ≡ l.out)
    go true t f e = rw (end-closed l t) (refl, refl)
    go false t false e = rw (end_short l t e) (refl, refl)
    go false t true e = rw (end-told l t e) (refl, refl)

-- what is ended is sound
ended-sound : (n k r : ℕ) (ph : Phase) → sound_in n k r ph ≡ true → sound_in n k 0 (ended_in ph) ≡ true
ended-sound n k r (Seeking matched) e = refl
ended-sound n k r (InOne start place heard frame) e = refl
ended-sound n k r (Between start heard) e = refl
ended-sound n k r (InTwo start place heard frame checks) e = refl
ended-sound n k r (Told start answer checks) e = (and-true (eqb r 0) (eqb answer 0 || (leb 3 answer && leb answer 7)) e).1

end-sound : (l : Lent) → is_sound l.deck ≡ true → is_sound (take_end l).deck ≡ true
end-sound l s = go (is_closed l.deck) refl (has_room l) refl
  where
    go : (t : Bool) → is_closed l.deck ≡ t → (f : Bool) → has_room l ≡ f → is_sound (take_end l).deck ≡ true
    go true t f e = rw (end-closed l t) s
    go false t false e = rw (end_short l t e) (refusing-sound l 2 t (lit≤ tt))
    go false t true e =
        let d = l.deck in
        let sane = sound-sane d s in
        rw (end-told l t e)
        (sound-of d.n d.taken (ended_in (phase_of d)) sane.size (ended-sound d.n d.taken d.refused (phase_of d) sane.numbers))

-- ---- Any state

run-went : (l : Lent) (cs : List Class) → (is_sound l.deck ≡ true → is_sound (take_run l cs).deck ≡ true) × Filled l.out (take_run l cs)
run-went l cs = go (is_closed l.deck) refl (has_room l) refl
  where
    go : (t : Bool) → is_closed l.deck ≡ t → (f : Bool) → has_room l ≡ f
        → (is_sound l.deck ≡ true → is_sound (take_run l cs).deck ≡ true) × Filled l.out (take_run l cs)
    go true t f e = rw (run-closed l cs t) (λ s. s, inl refl)
    go false t f e = elim (dec_le (l.deck.taken + length cs) 4294967295) [
      | no h ↦ rw (run-many l cs t (omega arith)) (λ s. refusing-sound l 1 t (lit≤ tt), inl refl)
      | yes h ↦ ways h f e
    ]
      where
        ways : l.deck.taken + length cs ≤ 4294967295 → (f : Bool) → has_room l ≡ f
            → (is_sound l.deck ≡ true → is_sound (take_run l cs).deck ≡ true) × Filled l.out (take_run l cs)
        ways h false e = rw (run_short l cs t h e) (λ s. refusing-sound l 2 t (lit≤ tt), inl refl)
        ways h true e =
            let w = steps-went (refusing 0 l) cs in
            let s₀ = refusing-sound l 0 t (lit≤ tt) in
            rw (run-steps l cs t h e) (λ s. w.sound s₀, w.filled s₀)

-- after an answer, and where it is not sound, a state is closed
said-closed : (d : Deck) (o : Outcome Extent) → said_by d ≡ Answered o → is_closed d ≡ true
unfolding is_closed
said-closed d o e = or_right (not (is_sound d)) (eqb d.phase 4) (eq-eqb d.phase 4 (answered-phase d o e))

unsound-closed : (d : Deck) → is_sound d ≡ false → is_closed d ≡ true
unfolding is_closed
unsound-closed d e = rw e

refusing-end : (l : Lent) (number : ℕ) → is_closed l.deck ≡ false → number ≤ 2 → take_end (refusing number l) ≡ take_end l
unfolding take_end if_lent phase_of
refusing-end l number o h = rw (o, open-closed (deck_refusing number l.deck) (open-refusing number l.deck h (closed-open l.deck o)))

pub stays : Stays
stays = record {
  answered = λ d work out o e. let c = said-closed d o e in (λ cs. run-closed (lent d work out) cs c, end-closed (lent d work out) c);
  unsound = λ d work out e. let c = unsound-closed d e in (λ cs. run-closed (lent d work out) cs c, end-closed (lent d work out) c);
  refused = λ l number o h. (λ cs. refusing-run l number cs o h, refusing-end l number o h);
}

-- ---- A beginning

module _ (n : ℕ) (work out : List ℕ) (b : Begins n work out) where
  begin-is : begin_deck n (length work) (length out) ≡ deck_of n 0 (Seeking 0)
  unfolding begin_deck
  begin-is = rw (b.size, b.room)

  begin-sound : is_sound (deck_of n 0 (Seeking 0)) ≡ true
  begin-sound = sound-of n 0 (Seeking 0) b.size refl

  -- all pulses of several runs, one after the other
  module _ (cs : List Class) (h : length cs ≤ 4294967295) where
    abbrev last : Standing
    last = steps n (standing 0 (Seeking 0) work out) cs

    runs-begun : (runs : List (List Class)) → joined runs ≡ cs → take_runs (begun n work out) runs ≡ lent_of n last
    unfolding steps_lent
    runs-begun runs e =
        let l = lent (deck_of n 0 (Seeking 0)) work out in
        rw begin-is (ap (λ (l : Lent). take_runs l runs) (sym (run_on l [] begin-sound refl (lit≤ tt) b.room))
        ∙ runs-joined l [] runs (rw e (omega arith))
        ∙ ap (take_run l) e
        ∙ run_on l cs begin-sound refl (omega arith) b.room
        ∙ steps_of n (standing 0 (Seeking 0) work out) cs)

    last-went : Went (length cs) (lent (deck_of n 0 (Seeking 0)) work out) (lent_of n last)
    last-went = rw (steps_of n (standing 0 (Seeking 0) work out) cs) at (steps-went (lent (deck_of n 0 (Seeking 0)) work out) cs)

pub sound : Sound
sound = record {
  begins = λ n work out b.
      let s = begin-sound n work out b in
      rw (begin-is n work out b) (said_of n 0 (Seeking 0) s, s);
  runs = λ l cs. (run-went l cs).0;
  ends = end-sound;
  out = λ l cs. (run-went l cs).1;
}

-- ---- The strip reader

-- the end, told to the numbers of a standing
end-of : (n k : ℕ) (ph : Phase) (w o : List ℕ) → is_sound (deck_of n k ph) ≡ true → fits n (length w) (length o) ≡ true
    → take_end (lent (deck_of n k ph) w o) ≡ lent (deck_of n k (ended_in ph)) w o
unfolding take_end if_lent is_closed phase_of
end-of n k (Seeking matched) w o s f = rw (s, f)
end-of n k (InOne start place heard frame) w o s f = rw (s, f)
end-of n k (Between start heard) w o s f = rw (s, f)
end-of n k (InTwo start place heard frame checks) w o s f = rw (s, f)
end-of n k (Told start answer checks) w o s f = rw s

module _ (n : ℕ) (work out : List ℕ) (b : Begins n work out) (cs : List Class) (h : length cs ≤ 4294967295) where
  abbrev final : Standing
  final = last n work out b cs h

  room : (2 * (n + 10) ≤ length work) × (n ≤ length out)
  room = let r = and-true (leb (2 * (n + 10)) (length work)) (leb n (length out)) b.room in
      (leb-true (2 * (n + 10)) (length work) r.0, leb-true n (length out) r.1)

  went : Went (length cs) (lent (deck_of n 0 (Seeking 0)) work out) (lent_of n final)
  went = last-went n work out b cs h

  final-sound : is_sound (lent_of n final).deck ≡ true
  final-sound = went.sound (begin-sound n work out b)

  final-shows : (said_by (lent_of n final).deck ≡ saying_with (told_after cs n)) × ((lent_of n final).out ≡ out_with (told_after cs n) out)
      × ((lent_of n final).work ≡ work_after cs n work)
  final-shows = go final (after-shows cs n work out final (after-all cs n work out room.0)) final-sound
    where
      go : (s : Standing) → ShowsAt cs n work out s → is_sound (lent_of n s).deck ≡ true
          → (said_by (lent_of n s).deck ≡ saying_with (told_after cs n)) × ((lent_of n s).out ≡ out_with (told_after cs n) out)
          × ((lent_of n s).work ≡ work_after cs n work)
      go (standing k ph w o) t s = (said_of n k ph s ∙ t.says, t.out, t.work)

  final-ends : (said_by (take_end (lent_of n final)).deck ≡ Answered (mapped extent_of (read_from cs 0 n)))
      × ((take_end (lent_of n final)).out ≡ put_at out 0 (puts (mapped payload_of (read_from cs 0 n))))
  final-ends = go final (after-ends cs n work out final (after-all cs n work out room.0)) final-sound (rw (went.work, went.out) b.room)
    where
      go : (s : Standing) → EndsAt cs n work out s → is_sound (lent_of n s).deck ≡ true
          → fits n (length (lent_of n s).work) (length (lent_of n s).out) ≡ true
          → (said_by (take_end (lent_of n s)).deck ≡ Answered (mapped extent_of (read_from cs 0 n)))
          × ((take_end (lent_of n s)).out ≡ put_at out 0 (puts (mapped payload_of (read_from cs 0 n))))
      go (standing k ph w o) t s f =
          let e = end-of n k ph w o s f in
          let s' : is_sound (deck_of n k (ended_in ph)) ≡ true = rw e at (end-sound (lent (deck_of n k ph) w o) s) in
          rw e (said_of n k (ended_in ph) s' ∙ t.says, t.out)

  -- the rule with the limit 65,534
  read_is : read_up_to 65534 cs (length out) 0 n ≡ read_from cs 0 n
  read_is = rw (b.size, if_room-room (length out) n (read_from cs 0 n) room.1)

-- runs of pulses as runs of classes
joined-map : {A B : Type 0} (f : A → B) (runs : List (List A)) → joined (map (map f) runs) ≡ map f (joined runs)
unfolding joined
joined-map f [] = refl
joined-map f (xs ∷ runs) = rw (joined-map f runs) (sym (map-append f xs (joined runs)))

module _ (n : ℕ) (work out : List ℕ) (runs : List (List ℕ)) (b : Begins n work out) (h : length (joined runs) ≤ 4294967295) where
  abbrev cs : List Class
  cs = classes fixed (joined runs)

  few : length cs ≤ 4294967295
  few = rw (length-map (joined runs) (class_of fixed)) h

  pulses-are : take_pulses (begun n work out) runs ≡ lent_of n (final n work out b cs few)
  pulses-are = runs-begun n work out b cs few (map (classes fixed) runs) (joined-map (class_of fixed) runs)

  tells-after : (let l = take_pulses (begun n work out) runs in
      (said_by l.deck ≡ saying_with (told_after cs n)) × (l.out ≡ out_with (told_after cs n) out) × (l.work ≡ work_after cs n work))
  tells-after = rw pulses-are (final-shows n work out b cs few)

  reads-rule : (let l = take_end (take_pulses (begun n work out) runs) in
      let o = read_up_to 65534 cs (length out) 0 n in
      (said_by l.deck ≡ Answered (mapped extent_of o)) × (l.out ≡ put_at out 0 (puts (mapped payload_of o))))
  reads-rule = rw (pulses-are, read_is n work out b cs few) (final-ends n work out b cs few)

pub tells : Tells
tells = record { after = tells-after; end = end-buffers }

size-right : (n : ℕ) → n ≤ 65534 → wrong_size n ≡ false → outside 65534 n ≡ false
size-right n l e = rw ((or-false (eqb n 0) (ltb 8192 n) e).0, le-ltb 65534 n l)

pub reads : Reads
unfolding read_block
reads = record {
  rule = reads-rule;
  strip = λ cs room n e. (let w = wrong_size-within n e in rw (e, size-right n (omega (arith, w.high)) e));
  limit = λ cs room from n. refl;
}

-- ---- Damage

-- a block that the rule accepts is told without the end
told-read : (cs : List Class) (n : ℕ) (b : BlockRead) → read_from cs 0 n ≡ accepted b → told_after cs n ≡ Some (accepted b)
unfolding read_from find_start read_at told_after
told-read cs n b e =
    let s = and_then-accepted (start_at (start_of cs 0)) (λ p. read_at cs p n) b e in
    let p = s.0 in
    let within : end_of p n ≤ length cs = (read_at-accepted cs n b p s.2).0 in
    rw (found (start_of cs 0) p s.1, le-ltb (length cs) (end_of p n) within) (ap Some (rw (locate_copies-within (length cs) p n within) at s.2))
  where
    found : (o : Option ℕ) (p : ℕ) → start_at o ≡ accepted p → o ≡ Some p
    found None p q = absurd (let z : ◌≡◌ {A = ℕ} 0 1 = cc in omega arith)
    found (Some r) p q = cc

module _ (k : ℕ) (payload work out : List ℕ) (runs : List (List ℕ)) (leader : wrong_leader k ≡ false) (below : Below 256 payload)
    (b : Begins (length payload) work out) (d : Damaged fixed k payload (joined runs)) where
  abbrev m : ℕ
  m = length payload

  abbrev strip : List ℕ
  strip = joined runs

  long : length strip ≡ block_length k m
  long = d.long ∙ length-block k payload

  short : length strip ≤ 4294967295
  short =
      let n : m ≤ 65534 = ltb-false 65534 m (or-false (eqb m 0) (ltb 65534 m) b.size).1 in
      omega (arith, long, (wrong_leader-within k leader).high)

  accepts : read_from (classes fixed strip) 0 m ≡ accepted (block_at k m payload)
  accepts =
      let count = length (block_pulses k payload) in
      let whole : part strip 0 count ≡ strip = take_all count strip (omega (arith, long, length-block_pulses k payload)) in
      let far = (wrong_leader-within k leader).low in
      rw zero-add at
      (read_from-damaged fixed strip 0 k payload refl (rw whole d) below 0 (omega arith) (omega arith) (λ i a b. absurd (omega arith)))

  bears-damage : (let l = take_pulses (begun m work out) runs in
      (said_by l.deck ≡ Answered (accepted (record { n = m; start = k; end = end_of k m }))) × (l.out ≡ put_at out 0 payload))
  bears-damage =
      let t = rw (told-read (classes fixed strip) m (block_at k m payload) accepts) at (tells-after m work out runs b short) in
      (t.0, t.1)

pub bears : Bears
bears = record { damage = bears-damage }
