-- Laws of bytes: reading undoes writing, and a good byte is the byte as written.
use Rattle.std.proofs.Common.{◌≡◌, ℕ, zero, suc, ◌+◌, ◌-◌, ◌*◌, ◌/◌, ◌%◌, ◌<◌, ◌≤◌, true, cond, ◌&&◌, List, [], ◌∷◌, ◌++◌, length, get_or, take, drop, sym, refl, ap, ◌∙◌, ap₂, inl, inr, add-zero, add-one, arith, lit<, lit≤, length-drop, length-take, get_or-drop, drop-cons, get_or-take, take-take, eq-eqb, ne_eqb, eqb-true}
use native.Mathlib.Numerals.{add-two}
use native.Mathlib.Decide.{dec_le}
use Rattle.std.specs.Prelude.{Option, None, Some}
use borrow.Author.Tests.{not-true, not-false}
use lib.Count.{ones}
use lib.ListN.{length-map}
use Rattle.lists.specs.Places.{first_from, tabulate, part}
use Rattle.lists.proofs.BoolLaws.{and-true, or-true, cond-first}
use Rattle.lists.proofs.PlaceLaws.{none_first, tabulate-snoc}
use Rattle.lists.proofs.PartLaws.{part-map}
use Rattle.lists.proofs.Table.{every-at}
use Rattle.pulse.specs.declared.Thresholds.{Thresholds}
use Rattle.pulse.specs.declared.Class.{Class}
use Rattle.pulse.specs.declared.Class.TheVariants.{Short, Medium, Long, Noise}
use Rattle.pulse.specs.Pulse.{class_of, classes, same}
use Rattle.pulse.proofs.PulseLaws.{same-eq}
use Rattle.byte.specs.declared.ByteRead.{ByteRead}
use Rattle.byte.specs.declared.ByteRead.TheVariants.{Good, Bad}
use Rattle.byte.specs.Byte.{is_odd, bits, parity_bit, coded, byte_classes, pair_of, is_sound, bit_of, pair_at, nth_pair, nth_bit, wrong_pair, value_of, checked, byte_of, value_in, read_frame, twenty, byte_at, is_good, is_bad}
use Rattle.byte.proofs.PairLaws.{bit-lt, pair-past}
use Rattle.byte.proofs.CodingLaws.{coded-append, value-lt}

-- ---- A byte as written is read

pub is_good-true : (v : ℕ) (r : ByteRead) → is_good v r ≡ true → r ≡ Good v
is_good-true v (Good w) e = ap Good (eqb-true w v e)
is_good-true v (Bad cause) e = absurd (let z : ◌≡◌ {A = ℕ} 0 1 = cc in omega arith)

pub byte_of-written : (b : ℕ) → b < 256 → byte_of (byte_classes b) ≡ Good b
unfolding byte_of first_from tabulate pair_at pair_of same value_of byte_classes coded bits parity_bit is_odd ones
byte_of-written b h = is_good-true b (byte_of (byte_classes b)) (every-at (λ v. is_good v (byte_of (byte_classes v))) 256 refl b h)

-- ---- Sound pairs

-- two pulses of two classes
two-same : (a b c d : Class) → (same a c && same b d) ≡ true → (a ≡ c) × (b ≡ d)
two-same a b c d e = let h = and-true (same a c) (same b d) e in (same-eq a c h.0, same-eq b d h.1)

sound-marker : (a b : Class) → is_sound 0 (pair_of a b) ≡ true → a ∷ b ∷ [] ≡ Long ∷ Medium ∷ []
unfolding pair_of
sound-marker a b s = let h = two-same a b Long Medium s in rw (h.0, h.1)

sound-bit : (i : ℕ) (a b : Class) → 1 ≤ i → is_sound i (pair_of a b) ≡ true → a ∷ b ∷ [] ≡ coded (bit_of (pair_of a b) ∷ [])
unfolding pair_of same coded
sound-bit i a b h s =
    elim (or-true (same a Short && same b Medium) (same a Medium && same b Short) (rw (ne_eqb i 0 (λ q. omega arith)) at s)) [
      | inl z ↦ (let h = two-same a b Short Medium z in rw (h.0, h.1))
      | inr o ↦ (let h = two-same a b Medium Short o in rw (h.0, h.1))
    ]

-- ---- The parity bit

odd-parity : (n d : ℕ) → d < 2 → is_odd (n + d) ≡ true → d ≡ cond (is_odd n) 0 1
unfolding is_odd
odd-parity n zero h s = rw (rw add-zero at s)
odd-parity n (suc zero) h s = rw (not-true (is_odd n) (rw add-one at s))
odd-parity n (suc (suc d)) h s = absurd (omega arith)

-- ---- A good byte is the byte as written

two-more : (ys : List Class) (j c : ℕ) → j + 1 < length ys → take (2 + c) (drop j ys) ≡ (get_or ys j Noise ∷ get_or ys (j + 1) Noise ∷ []) ++ take c (drop (j + 2) ys)
two-more ys j c h =
    let e : 2 + c ≡ suc (suc c) = omega arith in
    simp (e, add-one, add-two) (rw (drop-cons ys j Noise (omega arith), drop-cons ys (suc j) Noise (omega arith)))

-- bits that are the digits of a value are the bits of that value
bits-value : (f : ℕ → ℕ) → ((j : ℕ) → f j < 2) → (count at : ℕ) → bits count (value_of (tabulate f count at)) ≡ tabulate f count at
unfolding tabulate bits value_of
bits-value f h zero at = refl
bits-value f h (suc count) at =
    let w = value_of (tabulate f count (suc at)) in
    let m : (f at + 2 * w) % 2 ≡ f at = omega (arith, h at) in
    let q : (f at + 2 * w) / 2 ≡ w = omega (arith, h at) in
    rw (m, q, bits-value f h count (suc at))

checked-good : (o : Option ℕ) (w d v : ℕ) → checked o w d ≡ Good v → (o ≡ None) × (w ≡ v) × (is_odd (ones w + d) ≡ true)
checked-good None w d v e =
    let h = cond-first (is_odd (ones w + d)) (Good w) (Bad 10) (Good v) (λ n. let z : ◌≡◌ {A = ℕ} 0 1 = cc in omega arith) e in
    (refl, cc, h.0)
checked-good (Some i) w d v e = absurd (let z : ◌≡◌ {A = ℕ} 0 1 = cc in omega arith)

module _ (ys : List Class) (v : ℕ) (e : byte_of ys ≡ Good v) where
  abbrev value : ℕ
  value = value_of (tabulate (nth_bit ys) 8 1)

  pub good-parts : (first_from (wrong_pair ys) 10 0 ≡ None) × (value ≡ v) × (is_odd (ones value + nth_bit ys 9) ≡ true)
  unfolding byte_of
  good-parts = checked-good (first_from (wrong_pair ys) 10 0) value (nth_bit ys 9) v e

  pub good-sound : (i : ℕ) → i < 10 → is_sound i (nth_pair ys i) ≡ true
  good-sound i h = not-false (is_sound i (nth_pair ys i)) (none_first (wrong_pair ys) 10 0 good-parts.0 i (omega arith) (omega arith))

  -- it has twenty pulses
  good-long : 20 ≤ length ys
  good-long = elim (dec_le 20 (length ys)) [
    | yes l ↦ l
    | no l ↦ absurd (let s = rw (pair-past ys 18 (omega arith)) at (good-sound 9 (lit< tt)) in let z : ◌≡◌ {A = ℕ} 0 1 = cc in omega arith)
  ]

  good-marker : get_or ys 0 Noise ∷ get_or ys 1 Noise ∷ [] ≡ Long ∷ Medium ∷ []
  unfolding pair_at
  good-marker = sound-marker (get_or ys 0 Noise) (get_or ys 1 Noise) (good-sound 0 (lit< tt))

  -- pairs i to i + c - 1, after the marker, are the code of their bits
  good-coded : (c i : ℕ) → 1 ≤ i → i + c ≤ 10 → take (2 * c) (drop (2 * i) ys) ≡ coded (tabulate (nth_bit ys) c i)
  unfolding tabulate coded pair_at
  good-coded zero i l h = refl
  good-coded (suc c) i l h =
      let s : 2 * suc c ≡ 2 + 2 * c = omega arith in
      let s' : 2 * i + 2 ≡ 2 * suc i = omega arith in
      rw (s, two-more ys (2 * i) (2 * c) (omega (arith, good-long)), s', good-coded c (suc i) (omega arith) (omega arith))
      (ap (λ (cs : List Class). cs ++ coded (tabulate (nth_bit ys) c (suc i)))
      (sound-bit i (get_or ys (2 * i) Noise) (get_or ys (2 * i + 1) Noise) l (good-sound i (omega arith)))
      ∙ sym (coded-append (nth_bit ys i ∷ []) (tabulate (nth_bit ys) c (suc i))))

  good-parity : nth_bit ys 9 ≡ parity_bit value
  unfolding parity_bit
  good-parity = odd-parity (ones value) (nth_bit ys 9) (bit-lt (nth_pair ys 9)) good-parts.2

  pub byte_of-good-lt : v < 256
  byte_of-good-lt = rw (← good-parts.1) (value-lt (nth_bit ys) (λ j. bit-lt (nth_pair ys j)) 8 1)

  pub byte_of-good : take 20 ys ≡ byte_classes v
  unfolding byte_classes
  byte_of-good =
      two-more ys 0 18 (omega (arith, good-long))
      ∙ ap₂ (λ (a b : List Class). a ++ b) good-marker (good-coded 9 1 (lit≤ tt) (lit≤ tt))
      ∙ ap (λ (ds : List ℕ). Long ∷ Medium ∷ coded ds)
      (tabulate-snoc (nth_bit ys) 8 1 ∙ ap₂ (λ (a : List ℕ) (d : ℕ). a ++ (d ∷ [])) (sym (bits-value (nth_bit ys) (λ j. bit-lt (nth_pair ys j)) 8 1)) good-parity
      ∙ ap (λ w. bits 8 w ++ (parity_bit w ∷ [])) good-parts.1)

-- ---- Bad bytes

-- what is not good with any value is bad
not_good : (r : ByteRead) → ((v : ℕ) → r ≡ Good v → ⊥) → is_bad r ≡ true
not_good (Good v) h = absurd (h v refl)
not_good (Bad cause) h = refl

-- fewer than twenty pulses
byte_of-fewer : (ys : List Class) → length ys < 20 → is_bad (byte_of ys) ≡ true
byte_of-fewer ys h = not_good (byte_of ys) (λ v e. omega (arith, good-long ys v e))

-- a first pulse that is short
byte_of-short : (ys : List Class) → get_or ys 0 Noise ≡ Short → is_bad (byte_of ys) ≡ true
byte_of-short ys s = not_good (byte_of ys) (λ v e. let m = good-marker ys v e in let z : ◌≡◌ {A = ℕ} 0 1 = cc in omega arith)

-- ---- On a strip

module _ (cs : List Class) (p : ℕ) where
  -- the byte as written is read
  pub byte_at-written : (b : ℕ) → b < 256 → twenty cs p ≡ byte_classes b → byte_at cs p ≡ Good b
  unfolding byte_at
  byte_at-written b h e = rw e (byte_of-written b h)

  -- a good byte's twenty pulses are the ones written for its value, which is a byte's
  pub byte_at-good : (v : ℕ) → byte_at cs p ≡ Good v → (twenty cs p ≡ byte_classes v) × (v < 256)
  unfolding byte_at
  byte_at-good v e = (sym (take-take 20 20 (drop p cs) (lit≤ tt)) ∙ byte_of-good (twenty cs p) v e, byte_of-good-lt (twenty cs p) v e)

  pub byte_at-fewer : length cs < p + 20 → is_bad (byte_at cs p) ≡ true
  unfolding byte_at
  byte_at-fewer h = byte_of-fewer (twenty cs p) (simp (length-take, length-drop) (omega arith))

  pub byte_at-short : get_or cs p Noise ≡ Short → is_bad (byte_at cs p) ≡ true
  unfolding byte_at
  byte_at-short s = byte_of-short (twenty cs p) (get_or-take 20 (drop p cs) 0 Noise (lit< tt) ∙ get_or-drop p cs 0 Noise ∙ rw add-zero s)

  -- a good byte lies within the strip
  pub byte_at-within : (v : ℕ) → byte_at cs p ≡ Good v → p + 20 ≤ length cs
  byte_at-within v e = elim (dec_le (p + 20) (length cs)) [
    | yes h ↦ h
    | no h ↦ absurd (let b = rw e at (byte_at-fewer (omega arith)) in let z : ◌≡◌ {A = ℕ} 0 1 = cc in omega arith)
  ]

-- the frame from a place of a strip on, cut out of it
pub read_frame-part : (t : Thresholds) (strip : List ℕ) (at : ℕ) → at + 20 ≤ length strip
    → read_frame (classes t (part strip at (at + 20 - at))) ≡ value_in (byte_at (classes t strip) at)
unfolding read_frame byte_at
read_frame-part t strip at h =
    let e : at + 20 - at ≡ 20 = omega arith in
    let n : length (part strip at 20) ≡ 20 = simp (length-take, length-drop) (omega arith) in
    rw (e, length-map (part strip at 20) (class_of t), eq-eqb (length (part strip at 20)) 20 n) (ap (λ (ys : List Class). value_in (byte_of ys)) (sym (part-map (class_of t) strip at 20)))
