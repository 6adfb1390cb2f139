-- Laws of the bits by their pairs' first pulses: those of a good byte are its value.
use Prim.Native.Nat.{ℕ, ◌+◌, ◌*◌, ◌%◌, ◌^◌, ◌≤◌, ◌<◌}
use native.Mathlib.Numerals.{add-one}
use native.Mathlib.Omega.{arith}
use mathlib.Core.Path.{◌≡◌, refl, sym, ap, ◌∙◌}
use mathlib.Core.Bool.{Bool, true, false, cond, not, ◌||◌}
use mathlib.Core.List.{List}
use mir.Val.{bool_byte}
use borrow.Author.Tests.{ne_eqb}
use lib.Bits.{bit_or}
use lib.Dec.{leb, ltb}
use lib.ListN.{length, get_or, length-map}
use lib.Pow.{shl_exact}
use Rattle.lists.specs.Places.{tabulate}
use Rattle.lists.proofs.BoolLaws.{leb-not}
use Rattle.lists.proofs.PlaceLaws.{tabulate-same}
use Rattle.pulse.specs.declared.Thresholds.{Thresholds}
use Rattle.pulse.specs.declared.Class.{Class}
use Rattle.pulse.specs.declared.Class.TheVariants.{Short, Medium, Long, Noise}
use Rattle.pulse.specs.Pulse.{class_of, classes, same}
use Rattle.byte.specs.declared.ByteRead.TheVariants.{Good}
use Rattle.byte.specs.Byte.{pair_of, is_sound, bit_of, nth_pair, nth_bit, value_of, twenty, byte_at}
use Rattle.byte.proofs.CodingLaws.{value-or}
use Rattle.byte.proofs.PairLaws.{flag-lt, flag-number, pair-there, pair-twenty}
use Rattle.byte.proofs.ByteLaws.{good-parts, good-sound, byte_at-within}
use Rattle.block.specs.private.Values.{lead_bit, bits_at}

-- ---- A good byte

-- the first pulse of a pair that is a bit, by the four tests of its class
lead-tests : (s m l n : Bool) (b : Class)
    → (let p = pair_of (cond s Noise (cond m Short (cond l Medium (cond n Long Noise)))) b in (p.zero || p.one) ≡ true → bit_of p ≡ cond (not m) 1 0)
unfolding pair_of same
lead-tests true m l n b e = absurd (let z : ◌≡◌ {A = ℕ} 0 1 = cc in omega arith)
lead-tests false true l n b e = refl
lead-tests false false true n b e = rw e
lead-tests false false false true b e = absurd (let z : ◌≡◌ {A = ℕ} 0 1 = cc in omega arith)
lead-tests false false false false b e = absurd (let z : ◌≡◌ {A = ℕ} 0 1 = cc in omega arith)

lead-sound : (t : Thresholds) (x : ℕ) (b : Class) (i : ℕ) → 1 ≤ i → is_sound i (pair_of (class_of t x) b) ≡ true → bit_of (pair_of (class_of t x) b) ≡ cond (leb t.medium.0 x) 1 0
unfolding class_of
lead-sound t x b i h e =
    rw (leb-not t.medium.0 x)
    (lead-tests (ltb x t.short.0) (ltb x t.medium.0) (ltb x t.long.0) (ltb x t.noise.0) b (rw (ne_eqb i 0 (λ q. omega arith)) at e))

module _ (t : Thresholds) (strip : List ℕ) (at : ℕ) where
  lead-bit : (i : ℕ) → 1 ≤ i → i < 10 → at + 20 ≤ length strip → is_sound i (nth_pair (twenty (classes t strip) at) i) ≡ true
      → lead_bit t strip at i ≡ nth_bit (twenty (classes t strip) at) i
  lead-bit i h l w s =
      let p = at + 2 * i in
      let q : nth_pair (twenty (classes t strip) at) i ≡ pair_of (class_of t (get_or strip p 0)) (class_of t (get_or strip (p + 1) 0)) =
      pair-twenty (classes t strip) at i l ∙ sym (pair-there t strip p (omega arith))
      in
      rw q (sym (lead-sound t (get_or strip p 0) (class_of t (get_or strip (p + 1) 0)) i h (rw q at s)))

  pub good-bits : {v : ℕ} → byte_at (classes t strip) at ≡ Good v → bits_at t strip at ≡ v
  unfolding byte_at bits_at
  good-bits {v} e =
      let cs = classes t strip in
      let ys = twenty cs at in
      let w : at + 20 ≤ length strip = omega (arith, byte_at-within cs at v e, length-map strip (class_of t)) in
      ap value_of (tabulate-same (lead_bit t strip at) (nth_bit ys) 8 1 (λ i a b. lead-bit i a (omega arith) w (good-sound ys v e i (omega arith)))) ∙ (good-parts ys v e).1

  -- ---- The eight bits, one after the other

  abbrev pub BitsRead : ℕ → ℕ → Type 0
  BitsRead value i = value ≡ value_of (tabulate (lead_bit t strip at) i 1)

  pub bits-begun : BitsRead 0 0
  unfolding tabulate value_of
  bits-begun = refl

  pub bits-next : {value i : ℕ} → i < 8 → BitsRead value i
      → BitsRead (bit_or value (bool_byte (leb t.medium.0 (get_or strip (at + 2 * (1 + i)) 0)) * 2 ^ i % 2 ^ 8)) (i + 1)
  bits-next {value} {i} h e =
      let f = lead_bit t strip at in
      let small : (j : ℕ) → f j < 2 = λ j. flag-lt (leb t.medium.0 (get_or strip (at + 2 * j) 0)) in
      rw (add-one, flag-number (leb t.medium.0 (get_or strip (at + 2 * (1 + i)) 0)), shl_exact {a = f (1 + i)} 1 i 8 (small (1 + i)) (omega arith), e) (value-or f small i 1)

  pub bits-done : {value i : ℕ} → i ≡ 8 → BitsRead value i → value ≡ bits_at t strip at
  unfolding bits_at
  bits-done n e = rw n at e
