-- Laws of the cause of a bad byte.
use Rattle.std.proofs.Common.{◌≡◌, ℕ, zero, suc, ◌+◌, ◌-◌, ◌*◌, ◌<◌, ◌≤◌, Bool, true, false, cond, not, ◌&&◌, ◌||◌, List, [], ◌∷◌, length, get_or, drop, sym, refl, ap, ◌∙◌, arith, lit≤, length-drop, length-take, take_all, eq-eqb, ne_eqb}
use Rattle.std.specs.Prelude.{Option, None, Some}
use lib.Count.{ones}
use lib.ListN.{length-map}
use Rattle.lists.specs.Places.{first_from, part}
use Rattle.lists.proofs.PlaceLaws.{some_first}
use Rattle.lists.proofs.PartLaws.{part-map}
use Rattle.pulse.specs.declared.Thresholds.{Thresholds}
use Rattle.pulse.specs.declared.Class.{Class}
use Rattle.pulse.specs.declared.Class.TheVariants.{Short, Medium, Long}
use Rattle.pulse.specs.Pulse.{class_of, classes, same}
use Rattle.byte.specs.declared.ByteRead.{ByteRead}
use Rattle.byte.specs.declared.ByteRead.TheVariants.{Good, Bad}
use Rattle.byte.specs.Byte.{is_odd, pair_of, is_sound, pair_at, wrong_pair, checked, byte_of, value_in, read_frame, or_ten, first_wrong, twenty, byte_at, is_bad}
use Rattle.byte.proofs.PairLaws.{pair-past, pair-there}
use Rattle.byte.proofs.ByteLaws.{byte_at-fewer, read_frame-part}

-- ---- The cause of a bad byte is its first wrong pair, or 10

checked-bad : (o : Option ℕ) (w d : ℕ) → is_bad (checked o w d) ≡ true → checked o w d ≡ Bad (or_ten o)
checked-bad None w d e = go (is_odd (ones w + d)) e
  where
    go : (odd : Bool) → is_bad (cond odd (Good w) (Bad 10)) ≡ true → cond odd (Good w) (Bad 10) ≡ Bad 10
    go true e = absurd (let z : ◌≡◌ {A = ℕ} 0 1 = cc in omega arith)
    go false e = refl
checked-bad (Some i) w d e = refl

pub byte_of-bad : (ys : List Class) → is_bad (byte_of ys) ≡ true → byte_of ys ≡ Bad (first_wrong ys)
unfolding byte_of first_wrong
byte_of-bad ys e = checked-bad (first_from (wrong_pair ys) 10 0) _ _ e

-- the same at a place of a strip; a cause is at most 10
pub byte_at-bad : (cs : List Class) (p : ℕ) → is_bad (byte_at cs p) ≡ true → byte_at cs p ≡ Bad (first_wrong (twenty cs p))
unfolding byte_at
byte_at-bad cs p e = byte_of-bad (twenty cs p) e

or_ten-most : (o : Option ℕ) → ((i : ℕ) → o ≡ Some i → i < 10) → or_ten o ≤ 10
or_ten-most None h = lit≤ tt
or_ten-most (Some i) h = omega (arith, h i refl)

pub first_wrong-most : (ys : List Class) → first_wrong ys ≤ 10
unfolding first_wrong
first_wrong-most ys = or_ten-most (first_from (wrong_pair ys) 10 0) (λ i e. let f = (some_first (wrong_pair ys) 10 0 i e).high in omega arith)

pub byte_at-most : (cs : List Class) (p : ℕ) {cause : ℕ} → byte_at cs p ≡ Bad cause → cause ≤ 10
byte_at-most cs p {cause} e =
    let b = sym (byte_at-bad cs p (ap is_bad e)) ∙ e in
    let q : first_wrong (twenty cs p) ≡ cause = cc in
    omega (arith, first_wrong-most (twenty cs p))

-- ---- Values

pub value_in-none : (r : ByteRead) → None ≡ value_in r → is_bad r ≡ true
value_in-none (Good v) e = absurd (let z : ◌≡◌ {A = ℕ} 0 1 = cc in omega arith)
value_in-none (Bad cause) e = refl

pub value_in-good : (r : ByteRead) (v : ℕ) → Some v ≡ value_in r → Good v ≡ r
value_in-good (Good w) v e = cc
value_in-good (Bad cause) v e = absurd (let z : ◌≡◌ {A = ℕ} 0 1 = cc in omega arith)

-- ---- A pair that is read where it lies

-- one that is not whole is wrong
pub wrong-past : (cs : List Class) (i : ℕ) → length cs < 2 * i + 2 → true ≡ wrong_pair cs i
wrong-past cs i h = rw (pair-past cs (2 * i) (omega arith)) (go i)
  where
    go : (i : ℕ) → true ≡ not (is_sound i (record { marker = false; zero = false; one = false }))
    go zero = refl
    go (suc i) = rw (ne_eqb (suc i) 0 (λ q. omega arith))

-- the marker's, and a bit's
module _ (t : Thresholds) (frame : List ℕ) (i : ℕ) (h : 2 * i + 2 ≤ length frame) where
  abbrev first : Class
  first = class_of t (get_or frame (2 * i) 0)

  abbrev second : Class
  second = class_of t (get_or frame (2 * i + 1) 0)

  pub wrong-marker : i ≡ 0 → not (same first Long && same second Medium) ≡ wrong_pair (classes t frame) i
  unfolding pair_of
  wrong-marker e = rw (← pair-there t frame (2 * i) (omega arith), eq-eqb i 0 e)

  pub wrong-bit : (i ≡ 0 → ⊥) → not ((same first Short && same second Medium) || (same first Medium && same second Short)) ≡ wrong_pair (classes t frame) i
  unfolding pair_of
  wrong-bit e = rw (← pair-there t frame (2 * i) (omega arith), ne_eqb i 0 e)

-- ---- A byte on a strip, by its frame

module _ (t : Thresholds) (strip : List ℕ) (at : ℕ) where
  abbrev cs : List Class
  cs = classes t strip

  -- the frame of twenty pulses
  frame-there : classes t (part strip at (at + 20 - at)) ≡ twenty cs at
  frame-there = let n : at + 20 - at ≡ 20 = omega arith in rw n (sym (part-map (class_of t) strip at 20))

  pub wrong-there : first_wrong (classes t (part strip at (at + 20 - at))) ≡ first_wrong (twenty cs at)
  wrong-there = ap first_wrong frame-there

  bad-there : (count : ℕ) → classes t (part strip at count) ≡ twenty cs at → is_bad (byte_at cs at) ≡ true
      → Bad (first_wrong (classes t (part strip at count))) ≡ byte_at cs at
  unfolding byte_at
  bad-there count e b = rw e (sym (byte_of-bad (twenty cs at) b))

  -- fewer than twenty pulses are left
  pub cut-there : at < length strip → length strip < at + 20 → Bad (first_wrong (classes t (part strip at (length strip - at)))) ≡ byte_at cs at
  cut-there l h = bad-there (length strip - at)
      (sym (part-map (class_of t) strip at (length strip - at))
      ∙ take_all (length strip - at) (drop at cs) (simp (length-drop, length-map) (omega arith))
      ∙ sym (take_all 20 (drop at cs) (simp (length-drop, length-map) (omega arith))))
      (byte_at-fewer cs at (omega (arith, length-map strip (class_of t))))

  -- a frame without a value
  pub none-there : at + 20 ≤ length strip → None ≡ read_frame (classes t (part strip at (at + 20 - at)))
      → Bad (first_wrong (classes t (part strip at (at + 20 - at)))) ≡ byte_at cs at
  none-there h e =
      bad-there (at + 20 - at) frame-there (value_in-none (byte_at cs at) (e ∙ read_frame-part t strip at h))

  -- one with a value
  pub value_there : (v : ℕ) → at + 20 ≤ length strip → Some v ≡ read_frame (classes t (part strip at (at + 20 - at))) → Good v ≡ byte_at cs at
  value_there v h e = value_in-good (byte_at cs at) v (e ∙ read_frame-part t strip at h)

-- no pulse is left
no-pulse : (ys : List Class) → length ys ≡ 0 → is_bad (byte_of ys) ≡ true → Bad 0 ≡ byte_of ys
unfolding first_wrong first_from pair_at pair_of same
no-pulse [] e b = sym (byte_of-bad [] b)
no-pulse (c ∷ ys) e b = absurd (omega arith)

pub past-there : (t : Thresholds) (strip : List ℕ) (at : ℕ) → length strip ≤ at → Bad 0 ≡ byte_at (classes t strip) at
unfolding byte_at
past-there t strip at h =
    no-pulse (twenty (classes t strip) at) (simp (length-take, length-drop, length-map) (omega arith))
    (byte_at-fewer (classes t strip) at (omega (arith, length-map strip (class_of t))))
