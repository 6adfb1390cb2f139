-- Laws of damage: every strip within the damage of a block is accepted, with the payload; the block as written is one of them.
use Prim.Native.Nat.{ℕ, suc, ◌+◌, ◌-◌, ◌*◌, ◌≤◌, ◌<◌}
use native.Mathlib.Nat.{zero-add}
use native.Mathlib.Decide.{dec_lt}
use native.Mathlib.Omega.{arith}
use mathlib.Core.Path.{◌≡◌, refl, sym, ap, ◌∙◌}
use mathlib.Core.Logic.{◌⊎◌, inl, inr}
use mathlib.Core.Bool.{true, false, ◌||◌}
use mathlib.Core.List.{List, [], ◌∷◌, ◌++◌}
use Rattle.std.specs.Prelude.{Some}
use borrow.Author.Tests.{eq-eqb}
use lib.Dec.{lit<, lit≤}
use lib.ListN.{length, get_or, length-map, length-take, length-drop, get_or-replicate, get_or-append, get_or-map}
use lib.Seq.{get_or-take, get_or_at}
use Rattle.lists.specs.Places.{tabulate, part, Below}
use Rattle.lists.specs.Buffer.{put_at}
use Rattle.lists.proofs.BoolLaws.{or_right}
use Rattle.lists.proofs.PlaceLaws.{first-none, tabulate-is}
use Rattle.lists.proofs.PartLaws.{part-part, get_d_part, part-map}
use Rattle.lists.proofs.BufferLaws.{part-put}
use Rattle.refusal.specs.Outcome.{accepted}
use Rattle.refusal.proofs.OutcomeLaws.{and_then-accepted, if_room-accepted}
use Rattle.pulse.specs.declared.Thresholds.{Thresholds}
use Rattle.pulse.specs.declared.Class.{Class}
use Rattle.pulse.specs.declared.Class.TheVariants.{Short, Noise}
use Rattle.pulse.specs.Pulse.{fixed, class_of, classes, written_as}
use Rattle.pulse.proofs.PulseLaws.{class-at, written-lt, classes-pulses}
use Rattle.byte.specs.declared.ByteRead.{ByteRead}
use Rattle.byte.specs.declared.ByteRead.TheVariants.{Good}
use Rattle.byte.specs.Byte.{byte_classes, twenty, byte_at, is_good, is_bad}
use Rattle.byte.proofs.ByteLaws.{byte_at-written}
use Rattle.byte.proofs.DamageLaws.{differ_self, byte_at-differ}
use Rattle.start.specs.Start.{start_of, find_start}
use Rattle.start.specs.Copies.{copy_two, end_of}
use Rattle.start.proofs.StartLaws.{start_of-short}
use Rattle.start.proofs.CopiesLaws.{locate_copies-within}
use Rattle.block.specs.Block.{checksum, copy_bytes, trailer, block_classes, block_pulses, wrong_size, measure_block, write_block, block_length}
use Rattle.block.specs.Reading.{is_counted, is_miscounted, Place, no_value, place_value, place_of, place_at, is_lost, value_at, values_at, block_at, read_copies, read_at, read_from, read_block}
use Rattle.block.specs.Damage.{OneSound, DamagedClasses, Damaged}
use Rattle.block.proofs.BlockLaws.{copy-countdown, copy-value, below_copy, length-block_pulses, wrong_leader-within, measure_block-accepted, leader-at, one-at, two_at_lem, after-at}
use Rattle.block.proofs.ReadingLaws.{place_of-one, place_of-two, read_block-room}

-- ---- A byte place of which one copy is sound

-- the place has this value
abbrev HasValue : (a : ℕ) → Place → Type 0
HasValue a p = (no_value p ≡ false) × (place_value p ≡ a)

HasValue-one : (a : ℕ) (one two : ByteRead) → one ≡ Good a → HasValue a (place_of one two)
HasValue-one a one two e = rw (place_of-one a one two e) (refl, refl)

HasValue-two : (a : ℕ) (one two : ByteRead) → (is_bad one ≡ true) ⊎ (one ≡ Good a) → two ≡ Good a → HasValue a (place_of one two)
HasValue-two a one two (inl h) e = rw (place_of-two a one two h e) (refl, refl)
HasValue-two a one two (inr h) e = HasValue-one a one two h

module _ (cs : List Class) (one two a : ℕ) (small : a < 256) where
  -- in the countdown, with the value of each copy
  sound-counted : (b : ℕ) → b < 256 → OneSound (byte_classes a) (twenty cs one) (byte_classes b) (twenty cs two)
      → (is_good a (byte_at cs one) || is_good b (byte_at cs two)) ≡ true
  sound-counted b small' (inl s) = rw (byte_at-written cs one a small s.0, eq-eqb a a refl)
  sound-counted b small' (inr s) =
      or_right (is_good a (byte_at cs one)) (is_good b (byte_at cs two)) (rw (byte_at-written cs two b small' s.0) (eq-eqb b b refl))

  -- after it, with one value
  sound-place : one + 20 ≤ length cs → OneSound (byte_classes a) (twenty cs one) (byte_classes a) (twenty cs two)
      → HasValue a (place_of (byte_at cs one) (byte_at cs two))
  sound-place within (inl s) = HasValue-one a (byte_at cs one) (byte_at cs two) (byte_at-written cs one a small s.0)
  sound-place within (inr s) =
      HasValue-two a (byte_at cs one) (byte_at cs two) (byte_at-differ cs one a small within s.1) (byte_at-written cs two a small s.0)

-- ---- On classes

-- The strip cs holds, from place o on, what lies within the damage of a block with leader k and n payload bytes.
module _ (cs : List Class) (o k : ℕ) (payload : List ℕ) {n : ℕ} (long : length payload ≡ n) (below : Below 256 payload)
    (fits : o + (block_length k n) ≤ length cs)
    (d : DamagedClasses k n (block_classes k payload) (part cs o (block_length k n))) where
  abbrev size : ℕ
  size = block_length k n

  abbrev one : ℕ
  one = o + k

  abbrev two : ℕ
  two = copy_two one n

  sound : (i : ℕ) → i < n + 10
      → OneSound (byte_classes (get_or (copy_bytes 0 payload) i 0)) (twenty cs (one + 20 * i)) (byte_classes (get_or (copy_bytes 1 payload) i 0)) (twenty cs (two + 20 * i))
  sound i h =
      let e₁ : one + 20 * i ≡ o + (k + 20 * i) = omega arith in
      let e₂ : two + 20 * i ≡ o + (copy_two k n + 20 * i) = omega arith in
      let w₂ : twenty (block_classes k payload) (copy_two k n + 20 * i) ≡ byte_classes (get_or (copy_bytes 1 payload) i 0) = rw (← long) (two_at_lem k payload i (omega arith)) in
      rw (e₁, e₂, ← (part-part cs o size (k + 20 * i) 20 (omega arith)), ← (part-part cs o size (copy_two k n + 20 * i) 20 (omega arith)))
      (rw (one-at k payload i (omega arith), w₂) at (d.places i h))

  first_good : byte_at cs one ≡ Good 0x89
  first_good =
      let e : one ≡ o + (k + 20 * 0) = omega arith in
      byte_at-written cs one 0x89 (lit< tt)
      (ap (twenty cs) e ∙ sym (part-part cs o size (k + 20 * 0) 20 (omega arith)) ∙ d.first ∙ one-at k payload 0 (omega arith)
      ∙ ap byte_classes (copy-countdown 0 payload 0 (lit< tt)))

  leader-short : (i : ℕ) → o ≤ i → i < one → get_or cs i Noise ≡ Short
  leader-short i a b =
      let e : o + (i - o) ≡ i = omega arith in
      let h : i - o < k = omega arith in
      ap (λ j. get_or cs j Noise) (sym e) ∙ sym (get_d_part cs o size (i - o) Noise (omega arith)) ∙ sym (get_or-take k (part cs o size) (i - o) Noise h)
      ∙ ap (λ (l : List Class). get_or l (i - o) Noise) (d.outside.leader ∙ leader-at k payload) ∙ get_or-replicate k (i - o) Short Noise h

  counted-ok : (i : ℕ) → i < 9 → is_counted cs one two i ≡ true
  unfolding is_counted
  counted-ok i h =
      rw (← (copy-countdown 0 payload i h), ← (copy-countdown 1 payload i h))
      (sound-counted cs (one + 20 * i) (two + 20 * i) _ (below_copy 0 payload below i) _ (below_copy 1 payload below i) (sound i (omega arith)))

  place_ok : (i : ℕ) → i < n + 1 → HasValue (get_or (payload ++ (checksum payload ∷ [])) i 0) (place_at cs one two i)
  unfolding place_at
  place_ok i h =
      let s = sound (9 + i) (omega arith) in
      let b = below_copy 0 payload below (9 + i) in
      sound-place cs (one + 20 * (9 + i)) (two + 20 * (9 + i)) (get_or (payload ++ (checksum payload ∷ [])) i 0) (rw copy-value at b)
      (omega arith) (rw (copy-value 0 payload i, copy-value 1 payload i) at s)

  values-ok : values_at cs one two n ≡ payload
  values-ok =
      ap (λ count. tabulate (value_at cs one two) count 0) (sym long)
      ∙ tabulate-is (value_at cs one two) payload 0 (λ i h. rw (zero-add, (place_ok i (omega arith)).1) (get_or-append payload (checksum payload ∷ []) 0 i h))

  -- rules 2 to 5, at the end of the leader
  pub read_at-there : read_at cs one n ≡ accepted (block_at one n payload)
  unfolding read_at read_copies
  read_at-there =
      rw (
        locate_copies-within (length cs) one n (omega arith),
        first-none (is_miscounted cs one two) 9 0 (λ i _ h. rw (counted-ok i (omega arith))),
        first-none (is_lost cs one two) (n + 1) 0 (λ i _ h. (place_ok i (omega arith)).0),
        values-ok,
        (place_ok n (omega arith)).1,
        get_or_at payload (checksum payload) [] 0 n long,
        eq-eqb (checksum payload) (checksum payload) refl,
      )

  -- all five rules, where after `from` only short pulses stand before the block
  module _ (from : ℕ) (lead : 16 ≤ k) (far : from + 16 ≤ one) (before : (i : ℕ) → from < i → i < o → get_or cs i Noise ≡ Short) where
    start-found : start_of cs from ≡ Some one
    start-found = start_of-short cs from one far (λ i a b. leader-short i (omega arith) b) short first_good
      where
        short : (i : ℕ) → from < i → i < one → get_or cs i Noise ≡ Short
        short i a b = elim (dec_lt i o) [ yes h ↦ before i a h | no h ↦ leader-short i (omega arith) b ]

    pub read_from-there : read_from cs from n ≡ accepted (block_at one n payload)
    unfolding read_from find_start
    read_from-there = rw start-found read_at-there

-- ---- On pulses

-- The same of a strip of pulses, each any 32-bit count, classed with any thresholds: it holds from place o on a stretch within the
-- damage of a written block.
module _ (t : Thresholds) (strip : List ℕ) (o k : ℕ) (payload : List ℕ) {n : ℕ} (long : length payload ≡ n)
    (d : Damaged t k payload (part strip o (length (block_pulses k payload)))) where
  size-block : length (block_pulses k payload) ≡ block_length k n
  size-block = rw (← long) (length-block_pulses k payload)

  fits : o + (block_length k n) ≤ length strip
  fits = let l = simp (length-take, length-drop) at d.long in omega (arith, size-block, length-map (block_classes k payload) written_as)

  kept : DamagedClasses k n (block_classes k payload) (part (classes t strip) o (block_length k n))
  kept = rw (part-map (class_of t) strip o (block_length k n), ← size-block) (rw long at d.kept)

  -- between the pulse after the block's end and the end of its trailer only short pulses stand
  pub after-short : (i : ℕ) → end_of (o + k) n < i → i < o + (block_length k n) → class_of t (get_or strip i 0) ≡ Short
  unfolding trailer
  after-short i a b =
      let cs = classes t strip in
      let j = i - (o + end_of k n) - 1 in
      let e : o + end_of k n + suc j ≡ i = omega arith in
      let w : part (block_classes k payload) (end_of k n) 61 ≡ trailer = rw (← long) (after-at k payload) in
      let kept-after : part cs (o + end_of k n) 61 ≡ trailer = sym (part-part cs o (block_length k n) (end_of k n) 61 (omega arith)) ∙ kept.outside.after ∙ w in
      sym (class-at t strip i (omega (arith, fits)))
      ∙ ap (λ p. get_or cs p Noise) (sym e) ∙ sym (get_d_part cs (o + end_of k n) 61 (suc j) Noise (omega arith))
      ∙ ap (λ (l : List Class). get_or l (suc j) Noise) kept-after ∙ get_or-replicate 60 j Short Noise (omega arith)

  -- Where after `from` only short pulses stand before that block,
  module _ (below : Below 256 payload) (from : ℕ) (lead : 16 ≤ k) (far : from + 16 ≤ o + k)
      (before : (i : ℕ) → from < i → i < o → class_of t (get_or strip i 0) ≡ Short) where
    -- the rules accept it, with p, end and payload
    pub read_from-damaged : read_from (classes t strip) from n ≡ accepted (block_at (o + k) n payload)
    read_from-damaged =
        read_from-there (classes t strip) o k payload long below (rw (length-map strip (class_of t)) fits) kept from lead far
        (λ i a b. class-at t strip i (omega (arith, fits)) ∙ before i a b)

    -- and so does the reader, for a payload of a right size and enough room
    pub read_block-damaged : (room : ℕ) → wrong_size n ≡ false → n ≤ room → read_block (classes t strip) room from n ≡ accepted (block_at (o + k) n payload)
    read_block-damaged room size enough = read_block-room (classes t strip) room from n size enough ∙ read_from-damaged

-- ---- The block as written

damaged-self : (k n : ℕ) (w : List Class) → DamagedClasses k n w w
damaged-self k n w = record {
  outside = record { leader = refl; between = refl; after = refl };
  first = refl;
  places = λ i h. inl (refl, rw (differ_self (twenty w (copy_two k n + 20 * i))) (lit≤ tt));
}

-- it lies within its own damage
pub undamaged : (k : ℕ) (payload : List ℕ) → Damaged fixed k payload (block_pulses k payload)
undamaged k payload = record {
  long = length-map (block_classes k payload) written_as;
  counts = λ i. rw (get_or-map written_as (block_classes k payload) i Noise) (written-lt (get_or (block_classes k payload) i Noise));
  kept = rw (classes-pulses (block_classes k payload)) (damaged-self k (length payload) (block_classes k payload));
}

-- what the writer accepts
written : (room k : ℕ) (payload strip : List ℕ) → write_block room k payload ≡ accepted strip
    → (wrong_size (length payload) ≡ false) × (64 ≤ k) × (length (block_pulses k payload) ≤ room) × (block_pulses k payload ≡ strip)
unfolding write_block
written room k payload strip e =
    let a = and_then-accepted (measure_block k (length payload)) _ strip e in
    let m = measure_block-accepted k (length payload) a.0 a.1 in
    let b = if_room-accepted room a.0 _ strip a.2 in
    let fits = b.0 in
    (m.size, (wrong_leader-within k m.leader).low, rw (length-block_pulses k payload ∙ m.count) fits, cc)

-- what the writer put is read, from place 0 on
pub read_block-written : (room k : ℕ) (payload strip out : List ℕ) → write_block room k payload ≡ accepted strip → Below 256 payload → length out ≡ room
    → (enough : ℕ) → length payload ≤ enough
    → read_block (classes fixed (put_at out 0 strip)) enough 0 (length payload) ≡ accepted (block_at k (length payload) payload)
read_block-written room k payload strip out e below long enough h =
    let w = written room k payload strip e in
    let there = part-put out 0 (block_pulses k payload) (omega arith) in
    rw (← w.3)
    (read_block-damaged fixed (put_at out 0 (block_pulses k payload)) 0 k payload refl (rw there (undamaged k payload)) below 0 (omega arith) (omega arith) (λ i a b. absurd (omega arith))
    enough w.0 h
    ∙ ap (λ start. accepted (block_at start (length payload) payload)) (zero-add k))
