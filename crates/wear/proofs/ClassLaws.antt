-- Laws of the counts of the four classes, and the count one pulse after the other.
use Prim.Native.Nat.{ℕ, ◌+◌, ◌-◌, ◌≤◌, ◌<◌}
use native.Mathlib.Numerals.{add-one}
use native.Mathlib.Omega.{arith}
use mathlib.Core.Path.{◌≡◌, refl, ap, ◌∙◌}
use mathlib.Core.Bool.{Bool, cond}
use mathlib.Core.List.{List, [], ◌∷◌}
use mir.Val.{bool_byte}
use lib.ListN.{length, drop, get_or, length-map}
use lib.Seq.{drop-cons, drop-length}
use Rattle.pulse.specs.declared.Thresholds.{Thresholds}
use Rattle.pulse.specs.declared.Class.{Class}
use Rattle.pulse.specs.declared.Class.TheVariants.{Short, Medium, Long, Noise}
use Rattle.pulse.specs.Pulse.{class_of, classes, same}
use Rattle.pulse.proofs.PulseLaws.{class-at}
use Rattle.byte.proofs.PairLaws.{flag-lt, flag-number}
use Rattle.wear.specs.declared.count.Pulses.{Pulses}
use Rattle.wear.specs.Report.{count_of}
use Rattle.wear.specs.private.Counts.{pulses_of}

-- ---- Every pulse has one of the four classes

one-of-four : (c : Class) → cond (same c Short) 1 0 + cond (same c Medium) 1 0 + cond (same c Long) 1 0 + cond (same c Noise) 1 0 ≡ 1
unfolding same
one-of-four Short = refl
one-of-four Medium = refl
one-of-four Long = refl
one-of-four Noise = refl

pub classes-whole : (cs : List Class) → count_of Short cs + count_of Medium cs + count_of Long cs + count_of Noise cs ≡ length cs
unfolding count_of
classes-whole [] = refl
classes-whole (c ∷ cs) = omega (arith, one-of-four c, classes-whole cs)

pub count_most : (c : Class) (cs : List Class) → count_of c cs ≤ length cs
unfolding count_of
count_most c [] = omega arith
count_most c (x ∷ cs) = omega (arith, flag-lt (same x c), count_most c cs)

-- so at most one of three tests holds
at_most_one : (x : Class) {a b c : Bool} → a ≡ same x Short → b ≡ same x Medium → c ≡ same x Long → bool_byte a + bool_byte b + bool_byte c ≤ 1
at_most_one x e f g = rw (e, f, g, flag-number (same x Short), flag-number (same x Medium), flag-number (same x Long)) (omega (arith, one-of-four x))

-- ---- One pulse after the other

-- what was counted before place i, with what is left, is all
pub record Sorting (t : Thresholds) (strip : List ℕ) (shorts mediums longs i : ℕ) : Type 0 where
  pub few : shorts + mediums + longs ≤ i
  pub short : shorts + count_of Short (drop i (classes t strip)) ≡ count_of Short (classes t strip)
  pub medium : mediums + count_of Medium (drop i (classes t strip)) ≡ count_of Medium (classes t strip)
  pub long : longs + count_of Long (drop i (classes t strip)) ≡ count_of Long (classes t strip)

module _ (t : Thresholds) (strip : List ℕ) (i : ℕ) (h : i < length strip) where
  count_next : (c : Class) (n : ℕ) {b : Bool} → b ≡ same (class_of t (get_or strip i 0)) c → n + count_of c (drop i (classes t strip)) ≡ count_of c (classes t strip)
      → n + bool_byte b + count_of c (drop (i + 1) (classes t strip)) ≡ count_of c (classes t strip)
  unfolding count_of
  count_next c n {b} e w =
      let l = length-map strip (class_of t) in
      let k = drop-cons (classes t strip) i Noise (omega arith) in
      let s : count_of c (drop i (classes t strip)) ≡ bool_byte b + count_of c (drop (i + 1) (classes t strip)) =
      rw (add-one, e, flag-number (same (class_of t (get_or strip i 0)) c)) (ap (count_of c) k ∙ rw (class-at t strip i h))
      in
      omega arith

  pub sorting-next : {shorts mediums longs : ℕ} {a b c : Bool} → Sorting t strip shorts mediums longs i
      → a ≡ same (class_of t (get_or strip i 0)) Short → b ≡ same (class_of t (get_or strip i 0)) Medium → c ≡ same (class_of t (get_or strip i 0)) Long
      → Sorting t strip (shorts + bool_byte a) (mediums + bool_byte b) (longs + bool_byte c) (i + 1)
  sorting-next {shorts} {mediums} {longs} u is-a is-b is-c = record {
    few = omega (arith, u.few, at_most_one (class_of t (get_or strip i 0)) is-a is-b is-c);
    short = count_next Short shorts is-a u.short;
    medium = count_next Medium mediums is-b u.medium;
    long = count_next Long longs is-c u.long;
  }

module _ {t : Thresholds} {strip : List ℕ} {shorts mediums longs i : ℕ} (u : Sorting t strip shorts mediums longs i) where
  pub sorting-done : i ≡ length strip
      → ◌≡◌ {A = Pulses} (record { shorts = shorts; mediums = mediums; longs = longs; noises = length strip - shorts - mediums - longs }) (pulses_of (classes t strip))
  unfolding pulses_of count_of
  sorting-done h =
      let l = length-map strip (class_of t) in
      let j : i ≡ length (classes t strip) = omega arith in
      let z : drop i (classes t strip) ≡ [] = ap (λ k. drop k (classes t strip)) j ∙ drop-length (classes t strip) in
      let s : shorts ≡ count_of Short (classes t strip) = omega (arith, rw z at u.short) in
      let m : mediums ≡ count_of Medium (classes t strip) = omega (arith, rw z at u.medium) in
      let k : longs ≡ count_of Long (classes t strip) = omega (arith, rw z at u.long) in
      let n : length strip - shorts - mediums - longs ≡ count_of Noise (classes t strip) = omega (arith, classes-whole (classes t strip)) in
      rw (n, s, m, k)
