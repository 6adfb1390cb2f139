-- Laws of a frame that is read pulse by pulse: after twenty pulses it is the byte of these pulses.
use Prim.Native.Nat.{ℕ, zero, suc, ◌+◌, ◌*◌, ◌/◌, ◌%◌, ◌^◌, ◌≤◌, ◌<◌}
use native.Mathlib.Nat.{zero-add, mul_assoc, mul_left_comm, add-mul}
use native.Mathlib.Decide.{dec_lt}
use native.Mathlib.Omega.{arith}
use mathlib.Core.Path.{◌≡◌, refl, sym, ap, ◌∙◌}
use mathlib.Core.Bool.{Bool, true, false, cond, not, ◌&&◌}
use mathlib.Core.List.{List}
use Rattle.std.specs.Prelude.{Option, None, Some}
use borrow.Author.Tests.{ne_eqb, lt-ltb, le-ltb}
use lib.Count.{ones}
use lib.Dec.{eqb, ltb, lit≤}
use lib.ListN.{get_or}
use lib.Pow.{pow-add}
use Rattle.lists.specs.Places.{first_from, tabulate}
use Rattle.lists.proofs.PlaceLaws.{first-snoc, some_first, or_else}
use Rattle.lists.proofs.PartLaws.{get_d_part}
use Rattle.pulse.specs.declared.Class.{Class}
use Rattle.pulse.specs.declared.Class.TheVariants.{Short, Medium, Long, Noise}
use Rattle.pulse.specs.Pulse.{code}
use Rattle.byte.specs.declared.ByteRead.TheVariants.{Good, Bad}
use Rattle.byte.specs.Byte.{is_odd, pair_of, is_sound, pair_at, nth_pair, nth_bit, wrong_pair, value_of, checked, byte_of, twenty, byte_at}
use Rattle.byte.proofs.CodingLaws.{value-next, value-lt}
use Rattle.byte.proofs.PairLaws.{bit-lt}
use Rattle.deck.specs.declared.Frame.{Frame}
use Rattle.deck.specs.Frame.{class_named, frame_of, fresh, earlier, with_bit, take_pair, take_pulse, closed}

-- ---- The first place that fails, as a number

-- a place that was found, or `most` where there is none
abbrev pub or_most : (most : ℕ) → Option ℕ → ℕ
or_most most None = most
or_most most (Some i) = i

-- one place more, at the end
pub first_more : (f : ℕ → Bool) (i : ℕ) → first_from f (suc i) 0 ≡ or_else (first_from f i 0) (cond (f i) (Some i) None)
unfolding first_from
first_more f i = rw zero-add at (first-snoc f i 0)

pub first-lt : (f : ℕ → Bool) (count i : ℕ) → first_from f count 0 ≡ Some i → i < count
first-lt f count i e = omega (arith, (some_first f count 0 i e).high)

-- it is kept as the smaller one
pub first-earlier : (f : ℕ → Bool) (most i : ℕ) → i < most
    → or_most most (first_from f (suc i) 0) ≡ earlier (or_most most (first_from f i 0)) i (f i)
unfolding earlier
first-earlier f most i h = rw (first_more f i) (go (f i) (first_from f i 0) (first-lt f i))
  where
    go : (t : Bool) (o : Option ℕ) → ((j : ℕ) → o ≡ Some j → j < i)
        → or_most most (or_else o (cond t (Some i) None)) ≡ cond (t && ltb i (or_most most o)) i (or_most most o)
    go true None l = rw (lt-ltb i most h)
    go true (Some j) l = rw (le-ltb i j (omega (arith, l j refl)))
    go false None l = refl
    go false (Some j) l = refl

-- it is no larger than before
pub earlier-le : (first i : ℕ) (fails : Bool) → earlier first i fails ≤ first
unfolding earlier
earlier-le first i false = omega arith
earlier-le first i true = elim (dec_lt i first) [
  | yes h ↦ rw (lt-ltb i first h) (omega arith)
  | no h ↦ rw (le-ltb i first (omega arith)) (omega arith)
]

-- ---- Two pulses of a frame

-- the frame after j pulses of ys
unfoldable pub frame_after : (ys : List Class) (j : ℕ) → Frame
frame_after ys zero = fresh
frame_after ys (suc j) = take_pulse j (frame_after ys j) (get_or ys j Noise)

pub named-code : (c : Class) → class_named (code c) ≡ c
named-code Short = refl
named-code Medium = refl
named-code Long = refl
named-code Noise = refl

pair-more : (ys : List Class) (i : ℕ) → frame_after ys (2 * suc i) ≡ take_pair i (nth_pair ys i) (frame_after ys (2 * i)) (get_or ys (2 * i + 1) Noise)
unfolding frame_after take_pulse pair_at
pair-more ys i =
    let e : 2 * suc i ≡ suc (suc (2 * i)) = omega arith in
    let e' : 2 * i + 1 ≡ suc (2 * i) = omega arith in
    let m : 2 * i % 2 ≡ 0 = omega arith in
    let m' : suc (2 * i) % 2 ≡ 1 = omega arith in
    let h : suc (2 * i) / 2 ≡ i = omega arith in
    rw (e, e', m, m', h, named-code (get_or ys (2 * i) Noise))

-- the first wrong pair so far, or 10
wrong-after : (ys : List Class) (i : ℕ) → i ≤ 10 → (frame_after ys (2 * i)).wrong ≡ or_most 10 (first_from (wrong_pair ys) i 0)
unfolding frame_after first_from
wrong-after ys zero h = refl
wrong-after ys (suc i) h =
    rw (pair-more ys i, wrong-after ys i (omega arith)) (sym (first-earlier (wrong_pair ys) 10 i (omega arith)))

-- a bit comes in above others that stand at the top
bit-more : (v m w b : ℕ) → w * m ≡ 256 → with_bit (v * (2 * m)) b ≡ (v + b * w) * m
unfolding with_bit
bit-more v m w b e =
    let twice : v * (2 * m) ≡ 2 * (v * m) = mul_left_comm v 2 m in
    let whole : (v + b * w) * m ≡ v * m + b * 256 = simp (add-mul, mul_assoc, e) in
    rw (twice, whole) (omega arith)

-- the bits so far stand at the top of nine
bits-after : (ys : List Class) (i j : ℕ) → i + j ≡ 9 → (frame_after ys (2 * i)).bits ≡ value_of (tabulate (nth_bit ys) i 0) * 2 ^ j
unfolding frame_after tabulate value_of
bits-after ys zero j e = omega arith
bits-after ys (suc i) j e =
    let top : 2 ^ i * 2 ^ j ≡ 256 = sym (pow-add 2 i j) ∙ ap (λ x. 2 ^ x) (let z : i + j ≡ 8 = omega arith in z) in
    let next : 2 ^ suc j ≡ 2 * 2 ^ j = ap (λ x. 2 ^ x) (let z : suc j ≡ 1 + j = omega arith in z) ∙ pow-add 2 1 j in
    rw (pair-more ys i, bits-after ys i (suc j) (omega arith), value-next (nth_bit ys) i 0, zero-add, next)
    (bit-more (value_of (tabulate (nth_bit ys) i 0)) (2 ^ j) (2 ^ i) (nth_bit ys i) top)

-- ---- The byte of twenty pulses

pub closed_is : (ys : List Class) → closed (frame_after ys 20) ≡ byte_of ys
unfolding closed byte_of
closed_is ys =
    let v = value_of (tabulate (nth_bit ys) 8 1) in
    let small : v < 256 = value-lt (nth_bit ys) (λ j. bit-lt (nth_pair ys j)) 8 1 in
    let nine : (frame_after ys 18).bits ≡ nth_bit ys 0 + 2 * v = unfold tabulate value_of in (bits-after ys 9 0 refl ∙ omega arith) in
    let bits : (frame_after ys 20).bits ≡ v + 256 * nth_bit ys 9 =
    rw (pair-more ys 9, nine) (unfold with_bit in omega (arith, bit-lt (nth_pair ys 0))) in
    let value : (frame_after ys 20).bits % 256 ≡ v = rw bits (omega arith) in
    let parity : (frame_after ys 20).bits / 256 ≡ nth_bit ys 9 = rw bits (omega arith) in
    rw (value, parity, wrong-after ys 10 (lit≤ tt)) (go v (nth_bit ys 9) (first_from (wrong_pair ys) 10 0) (first-lt (wrong_pair ys) 10))
  where
    go : (v d : ℕ) (o : Option ℕ) → ((i : ℕ) → o ≡ Some i → i < 10)
        → cond (eqb (or_most 10 o) 10 && is_odd (ones v + d)) (Good v) (Bad (or_most 10 o)) ≡ checked o v d
    go v d None l = refl
    go v d (Some i) l = rw (ne_eqb i 10 (λ e. omega (arith, l i refl)))

-- the same at a place of a strip
pub closed_at : (cs : List Class) (at : ℕ) → closed (frame_after (twenty cs at) 20) ≡ byte_at cs at
unfolding byte_at
closed_at cs at = closed_is (twenty cs at)

-- one pulse more of the strip
pub pulse-at : (cs : List Class) (at j k : ℕ) → j < 20 → k ≡ at + j
    → take_pulse j (frame_after (twenty cs at) j) (get_or cs k Noise) ≡ frame_after (twenty cs at) (suc j)
unfolding frame_after
pulse-at cs at j k h e = rw (e, ← (get_d_part cs at 20 j Noise h))

-- ---- The first wrong pair is at most 10

pub pulse-wrong : (heard : ℕ) (f : Frame) (c : Class) → f.wrong ≤ 10 → (take_pulse heard f c).wrong ≤ 10
unfolding take_pulse
pulse-wrong heard f c h = go (eqb (heard % 2) 0)
  where
    go : (t : Bool) → (cond t (frame_of f.bits (code c) f.wrong) (take_pair (heard / 2) (pair_of (class_named f.last) c) f c)).wrong ≤ 10
    go true = h
    go false = omega (arith, earlier-le f.wrong (heard / 2) (not (is_sound (heard / 2) (pair_of (class_named f.last) c))))
