-- Laws of the data of a TAP file: one form after the other.
use Prim.Native.Nat.{ℕ, zero, suc, ◌+◌, ◌-◌, ◌*◌, ◌≤◌, ◌<◌}
use native.Mathlib.Nat.{add-zero}
use native.Mathlib.Omega.{arith}
use mathlib.Core.Path.{◌≡◌, refl, sym, ap, ◌∙◌}
use mathlib.Core.Bool.{true}
use mathlib.Core.List.{List, [], ◌∷◌, ◌++◌, map}
use borrow.Author.Tests.{eq-eqb, ne_eqb}
use lib.ListN.{length, drop, get_or, length-drop, length-map, drop_of_length-le, take-append-drop}
use lib.Seq.{drop-drop, get_or-drop, length-take-le}
use Rattle.lists.specs.Places.{part}
use Rattle.lists.specs.Text.{from_low}
use Rattle.refusal.specs.declared.Reason.TheVariants.{CutLongForm}
use Rattle.refusal.specs.Outcome.{Outcome, refused, accepted, refuse, mapped, and_then}
use Rattle.refusal.proofs.OutcomeLaws.{and_then-accepted, mapped-accepted, if_room-room}
use Rattle.pulse.specs.Units.{unit_cycles}
use Rattle.tap.specs.Reading.{tap_version, durations_in, Tap, tap_with, tap_of, fitting, read_tap}
use Rattle.tap.specs.private.Forms.{no_zeros, lone_cycles, long_cycles}
use Rattle.tap.specs.private.Reader.{durations_from, Cut}
use Rattle.tap.proofs.GroupLaws.{no_zeros-cons}

-- ---- Bytes that are a form each

module _ (b : ℕ) where
  pub lone_cycles-zero : b ≡ 0 → lone_cycles b ≡ 2048
  unfolding lone_cycles
  lone_cycles-zero z = rw (eq-eqb b 0 z)

  pub lone_cycles-units : (b ≡ 0 → ⊥) → lone_cycles b ≡ b * unit_cycles
  unfolding lone_cycles
  lone_cycles-units n = rw (ne_eqb b 0 n)

-- version 0: every byte
pub durations_in-version0 : (at : ℕ) (bs : List ℕ) → durations_in 0 at bs ≡ accepted (map lone_cycles bs)
unfolding durations_in
durations_in-version0 at [] = refl
durations_in-version0 at (suc b ∷ bs) = rw (durations_in-version0 (at + 1) bs, lone_cycles-units (suc b) (λ z. omega arith))
durations_in-version0 at (zero ∷ bs) = rw (durations_in-version0 (at + 1) bs, lone_cycles-zero 0 refl)

-- any other is read as version 1
pub durations_in-version1 : (v : ℕ) → (v ≡ 0 → ⊥) → (at : ℕ) (bs : List ℕ) → durations_in v at bs ≡ durations_in 1 at bs
unfolding durations_in
durations_in-version1 zero n at bs = absurd (n refl)
durations_in-version1 (suc v) n at [] = refl
durations_in-version1 (suc v) n at (suc b ∷ bs) = rw (durations_in-version1 (suc v) n (at + 1) bs)
durations_in-version1 (suc v) n at (zero ∷ []) = refl
durations_in-version1 (suc v) n at (zero ∷ a ∷ []) = refl
durations_in-version1 (suc v) n at (zero ∷ a ∷ b ∷ []) = refl
durations_in-version1 (suc v) n at (zero ∷ a ∷ b ∷ c ∷ bs) = rw (durations_in-version1 (suc v) n (at + 4) bs)

-- ---- Version 1: what stands in front

mapped-append : (xs ys : List ℕ) (o : Outcome (List ℕ)) → mapped (λ ds. xs ++ ds) (mapped (λ ds. ys ++ ds) o) ≡ mapped (λ ds. xs ++ (ys ++ ds)) o
mapped-append xs ys (refused why) = refl
mapped-append xs ys (accepted ds) = refl

mapped-none : (o : Outcome (List ℕ)) → o ≡ mapped (λ ds. [] ++ ds) o
mapped-none (refused why) = refl
mapped-none (accepted ds) = refl

durations_in-byte : (at : ℕ) (bs : List ℕ) → 0 < length bs → (get_or bs 0 0 ≡ 0 → ⊥)
    → durations_in 1 at bs ≡ mapped (λ ds. (get_or bs 0 0 * unit_cycles ∷ []) ++ ds) (durations_in 1 (at + 1) (drop 1 bs))
unfolding durations_in
durations_in-byte at [] h n = absurd (omega arith)
durations_in-byte at (zero ∷ bs) h n = absurd (n refl)
durations_in-byte at (suc b ∷ bs) h n = refl

durations_in-long : (at : ℕ) (bs : List ℕ) → 4 ≤ length bs → get_or bs 0 0 ≡ 0
    → durations_in 1 at bs ≡ mapped (λ ds. (from_low (part bs 1 3) ∷ []) ++ ds) (durations_in 1 (at + 4) (drop 4 bs))
unfolding durations_in
durations_in-long at [] h z = absurd (omega arith)
durations_in-long at (suc b ∷ bs) h z = absurd (omega arith)
durations_in-long at (zero ∷ []) h z = absurd (omega arith)
durations_in-long at (zero ∷ a ∷ []) h z = absurd (omega arith)
durations_in-long at (zero ∷ a ∷ b ∷ []) h z = absurd (omega arith)
durations_in-long at (zero ∷ a ∷ b ∷ c ∷ bs) h z = refl

durations_in-cut : (at : ℕ) (bs : List ℕ) → 0 < length bs → length bs < 4 → get_or bs 0 0 ≡ 0 → durations_in 1 at bs ≡ refuse CutLongForm at
unfolding durations_in
durations_in-cut at [] h w z = absurd (omega arith)
durations_in-cut at (suc b ∷ bs) h w z = absurd (omega arith)
durations_in-cut at (zero ∷ []) h w z = refl
durations_in-cut at (zero ∷ a ∷ []) h w z = refl
durations_in-cut at (zero ∷ a ∷ b ∷ []) h w z = refl
durations_in-cut at (zero ∷ a ∷ b ∷ c ∷ bs) h w z = absurd (omega arith)

durations_in-run : (at : ℕ) (bs rest : List ℕ) → no_zeros bs ≡ true → durations_in 1 at (bs ++ rest) ≡ mapped (λ ds. map lone_cycles bs ++ ds) (durations_in 1 (at + length bs) rest)
durations_in-run at [] rest e = rw add-zero (mapped-none (durations_in 1 at rest))
durations_in-run at (b ∷ bs) rest e =
    let n = no_zeros-cons b bs e in
    let l : at + 1 + length bs ≡ at + suc (length bs) = omega arith in
    durations_in-byte at (b ∷ bs ++ rest) (omega arith) n.0
    ∙ ap (mapped (λ ds. b * unit_cycles ∷ ds)) (durations_in-run (at + 1) bs rest n.1)
    ∙ mapped-append (b * unit_cycles ∷ []) (map lone_cycles bs) (durations_in 1 (at + 1 + length bs) rest)
    ∙ rw (l, lone_cycles-units b n.0)

-- ---- Version 1: what stands at a place

-- these durations stand from place i to place i'
pub record DurationsBetween (bytes : List ℕ) (i i' : ℕ) (xs : List ℕ) : Type 0 where
  pub within : i' ≤ length bytes
  pub few : i + length xs ≤ i'
  pub durations : durations_from bytes i ≡ mapped (λ ds. xs ++ ds) (durations_from bytes i')

module _ (bytes : List ℕ) (i : ℕ) where
  get_or-first : get_or (drop i bytes) 0 0 ≡ get_or bytes i 0
  get_or-first = get_or-drop i bytes 0 0 ∙ ap (λ k. get_or bytes k 0) (add-zero i)

  pub durations_from-byte : i < length bytes → (get_or bytes i 0 ≡ 0 → ⊥) → DurationsBetween bytes i (i + 1) (get_or bytes i 0 * unit_cycles ∷ [])
  durations_from-byte h n =
      let l = length-drop i bytes in
      let e = durations_in-byte i (drop i bytes) (omega arith) (λ z. n (sym get_or-first ∙ z)) in
      record { within = omega arith; few = omega arith; durations = rw (get_or-first, drop-drop) at e }

  pub durations_from-long : get_or bytes i 0 ≡ 0 → i + 4 ≤ length bytes → DurationsBetween bytes i (i + 4) (long_cycles bytes i ∷ [])
  durations_from-long z w =
      let l = length-drop i bytes in
      let e = durations_in-long i (drop i bytes) (omega arith) (get_or-first ∙ z) in
      record { within = w; few = omega arith; durations = rw (drop-drop 1 i bytes, drop-drop 4 i bytes) at e }

  -- bytes that are a form each, to place `end`
  module _ (end : ℕ) (h : i ≤ end) (w : end ≤ length bytes) where
    pub length_run : length (map lone_cycles (part bytes i (end - i))) ≡ end - i
    length_run = length-map (part bytes i (end - i)) lone_cycles ∙ length-take-le (end - i) (drop i bytes) (rw length-drop (omega arith))

    pub durations_from-run : no_zeros (part bytes i (end - i)) ≡ true → DurationsBetween bytes i end (map lone_cycles (part bytes i (end - i)))
    durations_from-run e =
        let l = length-drop i bytes in
        let p = length-take-le (end - i) (drop i bytes) (omega arith) in
        let q : i + (end - i) ≡ end = omega arith in
        let r = durations_in-run i (part bytes i (end - i)) (drop (end - i) (drop i bytes)) e in
        record { within = w; few = rw length_run (omega arith); durations = rw (take-append-drop (end - i) (drop i bytes), p, drop-drop, q) at r }

  pub durations_from-cut : i < length bytes → Cut bytes i → durations_from bytes i ≡ refuse CutLongForm i
  durations_from-cut h w = let l = length-drop i bytes in durations_in-cut i (drop i bytes) (omega arith) (omega (arith, w.short)) (get_or-first ∙ w.zero)

  pub durations_from-over : length bytes ≤ i → durations_from bytes i ≡ accepted []
  unfolding durations_in
  durations_from-over h = rw (drop_of_length-le bytes {i = i} h)

-- ---- How many durations there are

mapped-width : (d : ℕ) (o : Outcome (List ℕ)) (n : ℕ) → ((ds : List ℕ) → o ≡ accepted ds → length ds ≤ n)
    → (ds : List ℕ) → mapped (λ es. d ∷ es) o ≡ accepted ds → length ds ≤ suc n
mapped-width d (refused why) n h ds e = absurd (let z : ◌≡◌ {A = ℕ} 0 1 = cc in omega arith)
mapped-width d (accepted es) n h ds e = let q : d ∷ es ≡ ds = cc in rw (← q) (omega (arith, h es refl))

-- no more than bytes
pub width-durations_in : (v at : ℕ) (bs ds : List ℕ) → durations_in v at bs ≡ accepted ds → length ds ≤ length bs
unfolding durations_in
width-durations_in v at [] ds e = let q : [] ≡ ds = cc in rw (← q) (omega arith)
width-durations_in v at (suc b ∷ bs) ds e = mapped-width (suc b * unit_cycles) (durations_in v (at + 1) bs) (length bs) (width-durations_in v (at + 1) bs) ds e
width-durations_in zero at (zero ∷ bs) ds e = mapped-width 2048 (durations_in zero (at + 1) bs) (length bs) (width-durations_in zero (at + 1) bs) ds e
width-durations_in (suc v) at (zero ∷ []) ds e = absurd (let z : ◌≡◌ {A = ℕ} 0 1 = cc in omega arith)
width-durations_in (suc v) at (zero ∷ a ∷ []) ds e = absurd (let z : ◌≡◌ {A = ℕ} 0 1 = cc in omega arith)
width-durations_in (suc v) at (zero ∷ a ∷ b ∷ []) ds e = absurd (let z : ◌≡◌ {A = ℕ} 0 1 = cc in omega arith)
width-durations_in (suc v) at (zero ∷ a ∷ b ∷ c ∷ bs) ds e =
    let w = mapped-width (from_low (a ∷ b ∷ c ∷ [])) (durations_in (suc v) (at + 4) bs) (length bs) (width-durations_in (suc v) (at + 4) bs) ds e in
    omega arith

fitting-room : (room : ℕ) (t : Tap) → length t.durations ≤ room → fitting room t ≡ accepted t
unfolding fitting
fitting-room room t h = rw (if_room-room room (length t.durations) _ h)

module _ (file : List ℕ) where
  pub width-tap : (t : Tap) → tap_of file ≡ accepted t → length t.durations ≤ length file - 20
  unfolding tap_of
  width-tap t e =
      let h = and_then-accepted (tap_version file) (λ v. mapped (tap_with v) (durations_in v 0 (drop 20 file))) t e in
      let m = mapped-accepted (tap_with h.0) (durations_in h.0 0 (drop 20 file)) (sym h.2) in
      let w = width-durations_in h.0 0 (drop 20 file) m.0 m.1 in
      let l = length-drop 20 file in
      rw (← m.2) (omega arith)

  -- with room for a duration for each data byte, what is read is what the file holds
  pub read-enough : (room : ℕ) → length file - 20 ≤ room → read_tap room file ≡ tap_of file
  unfolding read_tap
  read-enough room h = go (tap_of file) (width-tap)
    where
      go : (o : Outcome Tap) → ((t : Tap) → o ≡ accepted t → length t.durations ≤ length file - 20) → and_then o (fitting room) ≡ o
      go (refused why) w = refl
      go (accepted t) w = fitting-room room t (omega (arith, w t refl))
