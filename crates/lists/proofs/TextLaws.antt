-- Laws of numbers as bytes and of equal lists.
use Prim.Native.Nat.{ℕ, zero, suc, ◌+◌, ◌*◌, ◌/◌, ◌^◌, ◌<◌}
use native.Mathlib.Nat.{pow-suc}
use native.Mathlib.Omega.{arith}
use mathlib.Core.Path.{◌≡◌, refl, sym, ap, ap₂}
use mathlib.Core.Bool.{Bool, true, false}
use mathlib.Core.List.{List, [], ◌∷◌}
use borrow.Author.Tests.{eqb-true, eq-eqb}
use lib.Dec.{eqb}
use Rattle.std.proofs.Math.Nat.{div-div-eq-div-mul}
use Rattle.std.specs.Int.{w32, to_le_bytes}
use lib.ListN.{length, take, get_or}
use Rattle.lists.specs.Text.{low_first, from_low, equal}
use Rattle.lists.proofs.BoolLaws.{and-true, not-holds}

-- ---- low_first, from_low

pub length-low : (width n : ℕ) → length (low_first width n) ≡ width
unfolding low_first
length-low zero n = refl
length-low (suc width) n = ap suc (length-low width (n / 256))

-- the four bytes of the library's method
pub le_bytes-low : (n : ℕ) → to_le_bytes w32 n ≡ low_first 4 n
unfolding low_first
le_bytes-low n = rw (div-div-eq-div-mul n 256 256, div-div-eq-div-mul n (256 * 256) 256) refl

-- bytes hold every number that is not too large for them
pub from_low_lem : (width n : ℕ) → n < 256 ^ width → from_low (low_first width n) ≡ n
unfolding low_first from_low
from_low_lem zero n h = omega arith
from_low_lem (suc width) n h =
    let b : n < 256 ^ width * 256 = rw (pow-suc 256 width) at h in
    let r = from_low_lem width (n / 256) (omega arith) in
    rw r (omega arith)

-- four bytes at the most, those past the end 0
pub from_low-four : (bytes : List ℕ) → from_low (take 4 bytes) ≡ get_or bytes 0 0 + 256 * (get_or bytes 1 0 + 256 * (get_or bytes 2 0 + 256 * get_or bytes 3 0))
unfolding from_low
from_low-four [] = refl
from_low-four (a ∷ []) = omega arith
from_low-four (a ∷ b ∷ []) = omega arith
from_low-four (a ∷ b ∷ c ∷ []) = omega arith
from_low-four (a ∷ b ∷ c ∷ d ∷ bytes) = omega arith

-- ---- equal

equal-same : (xs ys : List ℕ) → equal xs ys ≡ true → xs ≡ ys
unfolding equal
equal-same [] [] e = refl
equal-same [] (y ∷ ys) e = absurd (let z : ◌≡◌ {A = ℕ} 0 1 = cc in omega arith)
equal-same (x ∷ xs) [] e = absurd (let z : ◌≡◌ {A = ℕ} 0 1 = cc in omega arith)
equal-same (x ∷ xs) (y ∷ ys) e =
    let s = and-true (eqb x y) (equal xs ys) e in
    ap₂ (λ z (zs : List ℕ). z ∷ zs) (eqb-true x y s.0) (equal-same xs ys s.1)

pub same-equal : (xs : List ℕ) → equal xs xs ≡ true
unfolding equal
same-equal [] = refl
same-equal (x ∷ xs) = rw (eq-eqb x x refl) (same-equal xs)

-- an answer that says whether two lists are the same
pub equal_is : (r : Bool) (xs ys : List ℕ) → (r ≡ true → xs ≡ ys) × (xs ≡ ys → r ≡ true) → r ≡ equal xs ys
equal_is true xs ys s = sym (rw (← (s.0 refl)) (same-equal xs))
equal_is false xs ys s = sym (not-holds (equal xs ys) (λ e. let q = s.1 (equal-same xs ys e) in let z : ◌≡◌ {A = ℕ} 0 1 = cc in omega arith))
