-- Texts and numbers as bytes, and when two lists are equal.
use Rattle.std.specs.Prelude.{ℕ, zero, suc, ◌+◌, ◌*◌, ◌/◌, ◌%◌, Bool, true, false, ◌&&◌, List, [], ◌∷◌, eqb}
use Prim.Native.Char.{code}
use Prim.Native.String.{String, [] as end, ◌∷◌ as ◌then◌}

-- the bytes of a text
unfoldable pub ascii : String → List ℕ
ascii end = []
ascii (c then text) = code c ∷ ascii text

-- the bytes of a number, low first
unfoldable pub low_first : (width n : ℕ) → List ℕ
low_first zero n = []
low_first (suc width) n = n % 256 ∷ low_first width (n / 256)

-- the number that bytes make, low first
unfoldable pub from_low : List ℕ → ℕ
from_low [] = 0
from_low (b ∷ bytes) = b + 256 * from_low bytes

-- whether two lists are equal
unfoldable pub equal : List ℕ → List ℕ → Bool
equal [] [] = true
equal [] (y ∷ ys) = false
equal (x ∷ xs) [] = false
equal (x ∷ xs) (y ∷ ys) = eqb x y && equal xs ys
