-- Laws of bits as pulses: how many there are, where they stand, and that none is noise; and of the number that they make.
use Rattle.std.proofs.Common.{◌≡◌, ℕ, zero, suc, ◌+◌, ◌*◌, ◌^◌, ◌<◌, Bool, true, false, cond, List, [], ◌∷◌, ◌++◌, length, sym, refl, ap, ◌∙◌, ap₂, add_comm, pow-suc, arith, length-append}
use lib.Bits.{bit_or, or_shifted_r}
use lib.Count.{ones, ones_cat}
use lib.ListN.{length-map}
use Rattle.lists.specs.Places.{count_below, tabulate}
use Rattle.lists.proofs.PlaceLaws.{tabulate-snoc, length-tabulate}
use Rattle.pulse.specs.declared.Class.{Class}
use Rattle.pulse.specs.declared.Class.TheVariants.{Short, Medium, Long}
use Rattle.pulse.specs.Pulse.{same, written_as, NoNoise}
use Rattle.pulse.proofs.PulseLaws.{NoNoise-none, NoNoise-cons, NoNoise-append}
use Rattle.byte.specs.Byte.{bits, parity_bit, coded, byte_classes, byte_pulses, bytes_classes, bytes_pulses, value_of}
use Rattle.byte.proofs.PairLaws.{flag-lt}

-- ---- coded

pub coded-append : (ds es : List ℕ) → coded (ds ++ es) ≡ coded ds ++ coded es
unfolding coded
coded-append [] es = refl
coded-append (zero ∷ ds) es = ap (λ (cs : List Class). Short ∷ Medium ∷ cs) (coded-append ds es)
coded-append (suc d ∷ ds) es = ap (λ (cs : List Class). Medium ∷ Short ∷ cs) (coded-append ds es)

length-coded : (ds : List ℕ) → length (coded ds) ≡ 2 * length ds
unfolding coded
length-coded [] = refl
length-coded (zero ∷ ds) = let r = length-coded ds in omega arith
length-coded (suc d ∷ ds) = let r = length-coded ds in omega arith

coded-NoNoise : (ds : List ℕ) → NoNoise (coded ds)
unfolding coded same
coded-NoNoise [] = NoNoise-none
coded-NoNoise (zero ∷ ds) = NoNoise-cons Short (Medium ∷ coded ds) refl (NoNoise-cons Medium (coded ds) refl (coded-NoNoise ds))
coded-NoNoise (suc d ∷ ds) = NoNoise-cons Medium (Short ∷ coded ds) refl (NoNoise-cons Short (coded ds) refl (coded-NoNoise ds))

-- ---- bits

length-bits : (k v : ℕ) → length (bits k v) ≡ k
unfolding bits
length-bits zero v = refl
length-bits (suc k) v = ap suc (length-bits k _)

pub length-coded_bits : (k v : ℕ) → length (coded (bits k v)) ≡ 2 * k
length-coded_bits k v = length-coded (bits k v) ∙ ap (λ n. 2 * n) (length-bits k v)

-- ---- byte_classes

pub length-byte : (b : ℕ) → length (byte_classes b) ≡ 20
unfolding byte_classes
length-byte b = simp (length-coded, length-append, length-bits)

pub length-byte_pulses : (b : ℕ) → length (byte_pulses b) ≡ 20
length-byte_pulses b = length-map (byte_classes b) written_as ∙ length-byte b

byte-NoNoise : (b : ℕ) → NoNoise (byte_classes b)
unfolding byte_classes same
byte-NoNoise b =
    let ds = bits 8 b ++ (parity_bit b ∷ []) in
    NoNoise-cons Long (Medium ∷ coded ds) refl (NoNoise-cons Medium (coded ds) refl (coded-NoNoise ds))

-- ---- bytes_classes

pub length-bytes : (bs : List ℕ) → length (bytes_classes bs) ≡ 20 * length bs
unfolding bytes_classes
length-bytes [] = refl
length-bytes (b ∷ bs) = simp (length-append, length-byte, length-bytes bs) (omega arith)

pub length-bytes_pulses : (bs : List ℕ) → length (bytes_pulses bs) ≡ 20 * length bs
length-bytes_pulses bs = length-map (bytes_classes bs) written_as ∙ length-bytes bs

pub bytes-NoNoise : (bs : List ℕ) → NoNoise (bytes_classes bs)
unfolding bytes_classes
bytes-NoNoise [] = NoNoise-none
bytes-NoNoise (b ∷ bs) = NoNoise-append (byte_classes b) (bytes_classes bs) (byte-NoNoise b) (bytes-NoNoise bs)

-- ---- value_of

value-snoc : (ds : List ℕ) (d : ℕ) → value_of (ds ++ (d ∷ [])) ≡ value_of ds + d * 2 ^ length ds
unfolding value_of
value-snoc [] d = omega arith
value-snoc (e ∷ ds) d = let r = value-snoc ds d in rw (pow-suc 2 (length ds)) (omega arith)

pub value-next : (f : ℕ → ℕ) (count at : ℕ) → value_of (tabulate f (suc count) at) ≡ value_of (tabulate f count at) + f (at + count) * 2 ^ count
value-next f count at =
    ap value_of (tabulate-snoc f count at) ∙ value-snoc (tabulate f count at) (f (at + count))
    ∙ ap (λ n. value_of (tabulate f count at) + f (at + count) * 2 ^ n) (length-tabulate f count at)

pub value-lt : (f : ℕ → ℕ) → ((j : ℕ) → f j < 2) → (count at : ℕ) → value_of (tabulate f count at) < 2 ^ count
unfolding tabulate value_of
value-lt f h zero at = omega arith
value-lt f h (suc count) at = let r = value-lt f h count (suc at) in rw (pow-suc 2 count) (omega (arith, h at))

-- one bit more, shifted to its place above the others
pub value-or : (f : ℕ → ℕ) → ((j : ℕ) → f j < 2) → (count at : ℕ)
    → bit_or (value_of (tabulate f count at)) (f (at + count) * 2 ^ count) ≡ value_of (tabulate f (suc count) at)
value-or f h count at =
    let d = f (at + count) in
    let v = value_of (tabulate f count at) in
    or_shifted_r d count v (value-lt f h count at) ∙ add_comm (d * 2 ^ count) v ∙ sym (value-next f count at)

-- ---- ones

ones-flag : (t : Bool) → ones (cond t 1 0) ≡ cond t 1 0
unfolding ones
ones-flag true = refl
ones-flag false = refl

-- the number whose bits are flags has as many ones as flags are set
pub ones_value : (f : ℕ → Bool) (count at : ℕ) → ones (value_of (tabulate (λ i. cond (f i) 1 0) count at)) ≡ count_below (λ i. f (at + i)) count
unfolding count_below tabulate value_of ones
ones_value f zero at = refl
ones_value f (suc count) at =
    let g : ℕ → ℕ = λ i. cond (f i) 1 0 in
    ap ones (value-next g count at ∙ add_comm (value_of (tabulate g count at)) (g (at + count) * 2 ^ count))
    ∙ ones_cat count (g (at + count)) (value_of (tabulate g count at)) (value-lt g (λ j. flag-lt (f j)) count at)
    ∙ ap₂ (λ (a b : ℕ). a + b) (ones-flag (f (at + count))) (ones_value f count at)
