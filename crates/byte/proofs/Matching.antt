-- Laws of `pair_fits`: what stands at a place is the byte with a value exactly where each of the ten pairs is as in that byte.
use Rattle.std.proofs.Common.{◌≡◌, ℕ, zero, suc, ◌+◌, ◌*◌, ◌/◌, ◌%◌, ◌^◌, ◌<◌, ◌≤◌, Bool, true, false, cond, ◌&&◌, eqb, ltb, List, length, get_or, drop, sym, refl, ap, ◌∙◌, ap₂, add_assoc, arith, length-drop, length-take-le, ext_get_or, le-ltb, lt-ltb, eq-eqb, ne_eqb}
use native.Mathlib.Decide.{ℕ_discrete}
use lib.Count.{ones}
use Rattle.lists.proofs.BoolLaws.{and-true}
use Rattle.lists.proofs.PartLaws.{get_d_part}
use Rattle.lists.proofs.Table.{every, every-at}
use Rattle.pulse.specs.declared.Thresholds.{Thresholds}
use Rattle.pulse.specs.declared.Class.{Class}
use Rattle.pulse.specs.declared.Class.TheVariants.{Short, Medium, Long, Noise}
use Rattle.pulse.specs.Pulse.{class_of, classes, code, same}
use Rattle.pulse.proofs.PulseLaws.{class-at, same-eq}
use Rattle.byte.specs.declared.ByteRead.{ByteRead}
use Rattle.byte.specs.declared.ByteRead.TheVariants.{Good, Bad}
use Rattle.byte.specs.Byte.{is_odd, bits, parity_bit, coded, byte_classes, twenty, byte_at, pair_fits, is_good}
use Rattle.byte.specs.private.Frame.{code_of}
use Rattle.byte.proofs.CodingLaws.{length-byte}
use Rattle.byte.proofs.ByteLaws.{byte_at-written, byte_at-good}

-- ---- A pair of the byte as written

-- pair i has these classes
abbrev has_pair : (v i : ℕ) → Class → Class → Bool
has_pair v i a b = same (get_or (byte_classes v) (2 * i) Noise) a && same (get_or (byte_classes v) (2 * i + 1) Noise) b

-- it has those of the bit at place i of the code
abbrev bit_in : (v i : ℕ) → ℕ
bit_in v i = code_of v / 2 ^ i % 2

abbrev has_bit : (v i : ℕ) → Bool
has_bit v i = cond (eqb (bit_in v i) 0) (has_pair v i Short Medium) (has_pair v i Medium Short)

-- every pair after the marker has
bit-written : (v : ℕ) → v < 256 → (i : ℕ) → i < 9 → has_bit v (suc i) ≡ true
unfolding same byte_classes coded bits parity_bit is_odd ones code_of
bit-written v h = every-at (λ i. has_bit v (suc i)) 9 (every-at (λ w. every (λ i. has_bit w (suc i)) 9) 256 refl v h)

-- ---- pair_fits, by its cases

module _ (v : ℕ) (a b : Class) where
  pub pair_fits-past : (i : ℕ) → 10 ≤ i → false ≡ pair_fits v i a b
  unfolding pair_fits
  pair_fits-past i h = rw (le-ltb i 10 h)

  fits-pair : (i : ℕ) (c d : Class) → i < 10 → has_pair v i c d ≡ true → (same a c && same b d) ≡ pair_fits v i a b
  unfolding pair_fits
  fits-pair i c d h e =
      let s = and-true (same (get_or (byte_classes v) (2 * i) Noise) c) (same (get_or (byte_classes v) (2 * i + 1) Noise) d) e in
      rw (lt-ltb i 10 h, same-eq _ c s.0, same-eq _ d s.1)

  pub pair_fits-marker : (i : ℕ) → i ≡ 0 → (same a Long && same b Medium) ≡ pair_fits v i a b
  unfolding byte_classes same
  pair_fits-marker i e = rw e (fits-pair 0 Long Medium (omega arith) refl)

  module _ (small : v < 256) where
    pub pair_fits-zero : (i : ℕ) → (i ≡ 0 → ⊥) → i < 10 → bit_in v i ≡ 0 → (same a Short && same b Medium) ≡ pair_fits v i a b
    pair_fits-zero zero l h e = absurd (l refl)
    pair_fits-zero (suc i) l h e = fits-pair (suc i) Short Medium h (rw (eq-eqb _ 0 e) at (bit-written v small i (omega arith)))

    pub pair_fits-one : (i : ℕ) → (i ≡ 0 → ⊥) → i < 10 → (bit_in v i ≡ 0 → ⊥) → (same a Medium && same b Short) ≡ pair_fits v i a b
    pair_fits-one zero l h e = absurd (l refl)
    pair_fits-one (suc i) l h e = fits-pair (suc i) Medium Short h (rw (ne_eqb _ 0 e) at (bit-written v small i (omega arith)))

-- ---- On a strip

same_self : (c : Class) → same c c ≡ true
unfolding same
same_self c = eq-eqb (code c) (code c) refl

good-other : (v : ℕ) (r : ByteRead) → (r ≡ Good v → ⊥) → is_good v r ≡ false
good-other v (Good w) h = ne_eqb w v (λ e. h (ap Good e))
good-other v (Bad cause) h = refl

-- pair i from a place on is as in this byte
abbrev pub fits_at : (cs : List Class) (p v i : ℕ) → Bool
fits_at cs p v i = pair_fits v i (get_or cs (p + 2 * i) Noise) (get_or cs (p + 2 * i + 1) Noise)

-- two pulses read where they lie
pub fits-there : (t : Thresholds) (strip : List ℕ) (p v i : ℕ) → p + 2 * i + 1 < length strip
    → pair_fits v i (class_of t (get_or strip (p + 2 * i) 0)) (class_of t (get_or strip (p + 2 * i + 1) 0)) ≡ fits_at (classes t strip) p v i
fits-there t strip p v i h = ap₂ (pair_fits v i) (sym (class-at t strip (p + 2 * i) (omega arith))) (sym (class-at t strip (p + 2 * i + 1) h))

module _ (cs : List Class) (p v : ℕ) where
  abbrev place : ℕ → Class
  place j = get_or cs (p + j) Noise

  abbrev written : ℕ → Class
  written j = get_or (byte_classes v) j Noise

  -- the second pulse of a pair
  second : (i : ℕ) → get_or cs (p + 2 * i + 1) Noise ≡ place (2 * i + 1)
  second i = ap (λ j. get_or cs j Noise) (add_assoc p (2 * i) 1)

  fits-classes : (i : ℕ) → fits_at cs p v i ≡ true → (place (2 * i) ≡ written (2 * i)) × (place (2 * i + 1) ≡ written (2 * i + 1))
  unfolding pair_fits
  fits-classes i e =
      let one = same (place (2 * i)) (written (2 * i)) in
      let two = same (get_or cs (p + 2 * i + 1) Noise) (written (2 * i + 1)) in
      let s = and-true (ltb i 10 && one) two e in
      (same-eq _ _ (and-true (ltb i 10) one s.0).1, sym (second i) ∙ same-eq _ _ s.1)

  -- all ten pairs are as in the byte
  pub is_good-fits : v < 256 → p + 20 ≤ length cs → {i : ℕ} → 10 ≤ i → ((j : ℕ) → j < i → fits_at cs p v j ≡ true) → is_good v (byte_at cs p) ≡ true
  is_good-fits small long last all =
      let e : (j : ℕ) → j < 20 → place j ≡ written j = λ j h. elim (ℕ_discrete (j % 2) 0) [
        | yes q ↦ (let z : 2 * (j / 2) ≡ j = omega arith in rw z at (fits-classes (j / 2) (all (j / 2) (omega arith))).0)
        | no q ↦ (let z : 2 * (j / 2) + 1 ≡ j = omega arith in rw z at (fits-classes (j / 2) (all (j / 2) (omega arith))).1)
      ] in
      let n : length (twenty cs p) ≡ 20 = length-take-le 20 (drop p cs) (rw length-drop (omega arith)) in
      let w : twenty cs p ≡ byte_classes v = ext_get_or Noise (twenty cs p) (byte_classes v) (n ∙ sym (length-byte v)) (λ j h. get_d_part cs p 20 j Noise (omega arith) ∙ e j (omega arith)) in
      rw (byte_at-written cs p v small w) (eq-eqb v v refl)

  -- a pair is not
  pub is_good-unfit : (i : ℕ) → i < 10 → fits_at cs p v i ≡ false → is_good v (byte_at cs p) ≡ false
  unfolding pair_fits
  is_good-unfit i h e = good-other v (byte_at cs p) (λ g.
      let w : (j : ℕ) → j < 20 → place j ≡ written j = λ j l. sym (get_d_part cs p 20 j Noise l) ∙ ap (λ ys. get_or ys j Noise) (byte_at-good cs p v g).0 in
      let t : fits_at cs p v i ≡ true = rw (lt-ltb i 10 h, w (2 * i) (omega arith), second i, w (2 * i + 1) (omega arith), same_self (written (2 * i)), same_self (written (2 * i + 1))) in
      let z : ◌≡◌ {A = ℕ} 0 1 = cc in omega arith)
