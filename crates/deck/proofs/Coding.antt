-- What the small functions come to: a frame's pulses, the marks of the working buffer, the checks of copy two.
use Prim.Native.Nat.{ℕ, zero, suc, ◌+◌, ◌-◌, ◌*◌, ◌/◌, ◌%◌, ◌<◌}
use native.Mathlib.Omega.{arith}
use mathlib.Core.Path.{◌≡◌, refl, sym, ◌∙◌}
use mathlib.Core.Bool.{Bool, cond, not, ◌&&◌, ◌||◌}
use mathlib.Core.List.{List}
use borrow.Author.Tests.{eq-eqb, ne_eqb}
use lib.Count.{ones}
use lib.Dec.{eqb, lit<}
use lib.ListN.{get_or}
use Rattle.pulse.specs.declared.Class.{Class}
use Rattle.pulse.specs.Pulse.{code, same}
use Rattle.byte.specs.declared.ByteRead.TheVariants.{Good, Bad}
use Rattle.byte.specs.Byte.{pair_of, is_sound}
use Rattle.byte.proofs.Parity.{odd-mod}
use Rattle.deck.specs.declared.Frame.{Frame}
use Rattle.deck.specs.Frame.{class_named, frame_of, earlier, with_bit, take_pulse, closed}
use Rattle.deck.specs.Work.{byte_by, get_byte}
use Rattle.deck.proofs.FrameLaws.{named-code}

-- ---- A frame

-- whether a number is a class's, by the class that it names
named-is : (number k : ℕ) → k < 3 → eqb (code (class_named number)) k ≡ eqb number k
named-is zero k h = refl
named-is (suc zero) k h = refl
named-is (suc (suc zero)) k h = refl
named-is (suc (suc (suc number))) k h = ne_eqb 3 k (λ e. omega arith) ∙ sym (ne_eqb (suc (suc (suc number))) k (λ e. omega arith))

pub sound-marker : (i a b : ℕ) → i ≡ 0 → (eqb a 2 && eqb b 1) ≡ is_sound i (pair_of (class_named a) (class_named b))
unfolding pair_of same
sound-marker i a b e = rw (e, named-is a 2 (lit< tt), named-is b 1 (lit< tt))

pub sound-bit : (i a b : ℕ) → (i ≡ 0 → ⊥) → ((eqb a 0 && eqb b 1) || (eqb a 1 && eqb b 0)) ≡ is_sound i (pair_of (class_named a) (class_named b))
unfolding pair_of same
sound-bit i a b e = rw (ne_eqb i 0 e, named-is a 0 (lit< tt), named-is b 1 (lit< tt), named-is a 1 (lit< tt), named-is b 0 (lit< tt))

pub pulse-first : (heard : ℕ) (f : Frame) (c : Class) {last : ℕ} → last ≡ code c → heard % 2 ≡ 0 → frame_of f.bits last f.wrong ≡ take_pulse heard f c
unfolding take_pulse
pulse-first heard f c e h = rw (eq-eqb (heard % 2) 0 h, e)

pub pulse-second : (heard : ℕ) (f : Frame) (c : Class) {last bits wrong : ℕ} {sound : Bool} → last ≡ code c → (heard % 2 ≡ 0 → ⊥)
    → bits ≡ with_bit f.bits (cond (eqb f.last 1 && eqb last 0) 1 0)
    → sound ≡ is_sound (heard / 2) (pair_of (class_named f.last) (class_named last))
    → wrong ≡ earlier f.wrong (heard / 2) (not sound)
    → frame_of bits last wrong ≡ take_pulse heard f c
unfolding take_pulse
pulse-second heard f c e h b s w =
    rw (ne_eqb (heard % 2) 0 h, w, s, b, e, named-code c)
    (unfold pair_of same in (rw (named-is f.last 1 (lit< tt))))

pub closed-by : (f : Frame) {t : Bool} → (eqb f.wrong 10 && eqb ((ones (f.bits % 256) + f.bits / 256) % 2) 1) ≡ t
    → cond t (Good (f.bits % 256)) (Bad f.wrong) ≡ closed f
unfolding closed
closed-by f e = rw (← e, odd-mod (ones (f.bits % 256) + f.bits / 256))

-- ---- The working buffer

pub get-good : (work : List ℕ) (i : ℕ) → get_or work (2 * i + 1) 0 ≡ 0 → Good (get_or work (2 * i) 0) ≡ get_byte work i
unfolding get_byte
get-good work i e = rw e

pub get-bad : (work : List ℕ) (i : ℕ) → (get_or work (2 * i + 1) 0 ≡ 0 → ⊥) → Bad (get_or work (2 * i + 1) 0 - 1) ≡ get_byte work i
unfolding get_byte
get-bad work i e = go (get_or work (2 * i + 1) 0) e
  where
    go : (mark : ℕ) → (mark ≡ 0 → ⊥) → Bad (mark - 1) ≡ byte_by (get_or work (2 * i) 0) mark
    go zero e = absurd (e refl)
    go (suc mark) e = let z : suc mark - 1 ≡ mark = omega arith in rw z
