-- Laws of damage: at most three pulses of a byte in another class make no other byte. A bit that changes turns two pulses, and with
-- one bit changed the number of ones is even; so two good bytes are four pulses apart.
use Rattle.std.proofs.Common.{◌≡◌, ℕ, zero, suc, ◌+◌, ◌%◌, ◌<◌, ◌≤◌, true, eqb, ◌⊎◌, List, [], ◌∷◌, ◌++◌, length, sym, refl, ap, ◌∙◌, inl, inr, arith, length-drop, length-take, take_all, eq-eqb, eqb-true}
use lib.Count.{ones}
use Rattle.lists.proofs.Table.{every-at}
use Rattle.pulse.specs.declared.Class.{Class}
use Rattle.pulse.specs.Pulse.{code, same}
use Rattle.byte.specs.declared.ByteRead.{ByteRead}
use Rattle.byte.specs.declared.ByteRead.TheVariants.{Good, Bad}
use Rattle.byte.specs.Byte.{is_odd, bits, parity_bit, coded, byte_classes, byte_of, is_bad, twenty, byte_at}
use Rattle.byte.specs.Damage.{differ}
use Rattle.byte.proofs.ByteLaws.{byte_of-written, byte_of-good-lt, byte_of-good}

-- ---- differ

pub differ_self : (cs : List Class) → differ cs cs ≡ 0
unfolding differ same
differ_self [] = refl
differ_self (c ∷ cs) = rw (eq-eqb (code c) (code c) refl, differ_self cs)

-- ---- Coded bits

-- the number of ones among some bits
count : List ℕ → ℕ
count [] = 0
count (zero ∷ ds) = count ds
count (suc d ∷ ds) = suc (count ds)

-- at most one pulse apart: the same pulses
close-one : (ds es : List ℕ) → length ds ≡ length es → differ (coded ds) (coded es) ≤ 1 → (coded ds ≡ coded es) × (count ds ≡ count es)
unfolding coded count differ same
close-one [] [] l h = (refl, refl)
close-one [] (e ∷ es) l h = absurd (omega arith)
close-one (d ∷ ds) [] l h = absurd (omega arith)
close-one (zero ∷ ds) (zero ∷ es) l h = let r = close-one ds es (omega arith) (omega arith) in (cc, cc)
close-one (zero ∷ ds) (suc e ∷ es) l h = absurd (omega arith)
close-one (suc d ∷ ds) (zero ∷ es) l h = absurd (omega arith)
close-one (suc d ∷ ds) (suc e ∷ es) l h = let r = close-one ds es (omega arith) (omega arith) in (cc, cc)

-- at most three apart, with ones that are both odd or both even in number: the same pulses
close-three : (ds es : List ℕ) → length ds ≡ length es → count ds % 2 ≡ count es % 2 → differ (coded ds) (coded es) ≤ 3 → coded ds ≡ coded es
unfolding coded count differ same
close-three [] [] l p h = refl
close-three [] (e ∷ es) l p h = absurd (omega arith)
close-three (d ∷ ds) [] l p h = absurd (omega arith)
close-three (zero ∷ ds) (zero ∷ es) l p h = let r = close-three ds es (omega arith) (omega arith) (omega arith) in cc
close-three (zero ∷ ds) (suc e ∷ es) l p h = let r = close-one ds es (omega arith) (omega arith) in absurd (omega arith)
close-three (suc d ∷ ds) (zero ∷ es) l p h = let r = close-one ds es (omega arith) (omega arith) in absurd (omega arith)
close-three (suc d ∷ ds) (suc e ∷ es) l p h = let r = close-three ds es (omega arith) (omega arith) (omega arith) in cc

-- ---- Bytes

-- the bits of a byte with the parity bit
abbrev nine_bits : ℕ → List ℕ
nine_bits b = bits 8 b ++ (parity_bit b ∷ [])

nine-odd : (b : ℕ) → b < 256 → count (nine_bits b) % 2 ≡ 1
unfolding count bits parity_bit is_odd ones
nine-odd b h = eqb-true (count (nine_bits b) % 2) 1 (every-at (λ v. eqb (count (nine_bits v) % 2) 1) 256 refl b h)

differ-byte : (b v : ℕ) → b < 256 → v < 256 → differ (byte_classes b) (byte_classes v) ≤ 3 → b ≡ v
unfolding byte_classes bits differ same
differ-byte b v hb hv h =
    let e : coded (nine_bits b) ≡ coded (nine_bits v) = close-three (nine_bits b) (nine_bits v) refl (nine-odd b hb ∙ sym (nine-odd v hv)) (omega arith) in
    let r = byte_of-written b hb in
    let r' = byte_of-written v hv in
    let w : byte_classes b ≡ byte_classes v = cc in
    cc

-- a byte with at most three of its twenty pulses in another class is bad, or the same byte
byte_of-differ : (b : ℕ) (ys : List Class) → b < 256 → length ys ≡ 20 → differ (byte_classes b) ys ≤ 3 → (is_bad (byte_of ys) ≡ true) ⊎ (byte_of ys ≡ Good b)
byte_of-differ b ys hb l h = go (byte_of ys) refl
  where
    go : (r : ByteRead) → byte_of ys ≡ r → (is_bad r ≡ true) ⊎ (r ≡ Good b)
    go (Bad cause) e = inl refl
    go (Good v) e =
        let w : ys ≡ byte_classes v = sym (take_all 20 ys (omega arith)) ∙ byte_of-good ys v e in
        inr (ap Good (sym (differ-byte b v hb (byte_of-good-lt ys v e) (rw w at h))))

-- the same at a place of a strip
pub byte_at-differ : (cs : List Class) (p b : ℕ) → b < 256 → p + 20 ≤ length cs → differ (byte_classes b) (twenty cs p) ≤ 3
    → (is_bad (byte_at cs p) ≡ true) ⊎ (byte_at cs p ≡ Good b)
unfolding byte_at
byte_at-differ cs p b h l d = byte_of-differ b (twenty cs p) h (simp (length-take, length-drop) (omega arith)) d
