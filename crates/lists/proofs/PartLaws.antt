-- Laws of parts of lists.
use Prim.Native.Nat.{ℕ, zero, suc, ◌+◌, ◌≤◌, ◌<◌}
use native.Mathlib.Omega.{arith}
use mathlib.Core.Path.{◌≡◌, refl, ap, ◌∙◌}
use mathlib.Core.List.{List, [], ◌∷◌, ◌++◌, map}
use lib.ListN.{length, take, drop, get_or}
use lib.Seq.{take-take, take-nil, drop-nil, drop-drop, drop-append-add, get_or-take, get_or-drop}
use Rattle.lists.specs.Places.{part}

part-take : {A : Type 0} (xs : List A) (m at count : ℕ) → at + count ≤ m → part (take m xs) at count ≡ part xs at count
part-take xs m zero count h = take-take count m xs (omega arith)
part-take [] m (suc at) count h = rw (take-nil m)
part-take (x ∷ xs) zero (suc at) count h = absurd (omega arith)
part-take (x ∷ xs) (suc m) (suc at) count h = part-take xs m at count (omega arith)

-- a part of a part
pub part-part : {A : Type 0} (xs : List A) (o m at count : ℕ) → at + count ≤ m → part (part xs o m) at count ≡ part xs (o + at) count
part-part xs o m at count h = part-take (drop o xs) m at count h ∙ rw drop-drop

-- a part past the first of two lists
pub part-past : {A : Type 0} (xs ys : List A) (n at count : ℕ) → length xs ≡ n → part (xs ++ ys) (n + at) count ≡ part ys at count
part-past xs ys n at count e = rw (← e) (ap (take count) (drop-append-add xs ys at))

-- an element of a part
pub get_d_part : {A : Type 0} (xs : List A) (at count i : ℕ) (d : A) → i < count → get_or (part xs at count) i d ≡ get_or xs (at + i) d
get_d_part xs at count i d h = get_or-take count (drop at xs) i d h ∙ get_or-drop at xs i d

-- a part of what a function makes of each element
module _ {A B : Type 0} (f : A → B) where
  pub part-map : (xs : List A) (at count : ℕ) → part (map f xs) at count ≡ map f (part xs at count)
  part-map [] at count = simp (drop-nil, take-nil)
  part-map (x ∷ xs) zero zero = refl
  part-map (x ∷ xs) zero (suc count) = ap (λ (ys : List B). f x ∷ ys) (part-map xs zero count)
  part-map (x ∷ xs) (suc at) count = part-map xs at count
