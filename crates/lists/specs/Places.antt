-- A test over numbers, and a list by its places.
use Rattle.std.specs.Prelude.{ℕ, zero, suc, ◌+◌, ◌≤◌, ◌<◌, ◌≡◌, Bool, true, false, cond, List, [], ◌∷◌, take, drop, get_or, Option, None, Some}

-- the smallest of at, at + 1 .. at + count - 1 that passes the test
unfoldable pub first_from : (ℕ → Bool) → ℕ → ℕ → Option ℕ
first_from f zero at = None
first_from f (suc count) at = let later = first_from f count (suc at) in cond (f at) (Some at) later

-- 'the smallest' in words: p is one of these numbers, it passes, and none before it does
pub record First (f : ℕ → Bool) (count at p : ℕ) : Type 0 where
  pub low : at ≤ p
  pub high : p < at + count
  pub passes : f p ≡ true
  pub least : (i : ℕ) → at ≤ i → i < p → f i ≡ false

-- how many of the numbers below n pass a test
unfoldable pub count_below : (ℕ → Bool) → ℕ → ℕ
count_below f zero = 0
count_below f (suc n) = cond (f n) 1 0 + count_below f n

-- f at, f (at + 1) .. f (at + count - 1)
unfoldable pub tabulate : (ℕ → ℕ) → ℕ → ℕ → List ℕ
tabulate f zero at = []
tabulate f (suc count) at = f at ∷ tabulate f count (suc at)

-- `count` elements from `at` on; fewer, where the list ends before
abbrev pub part : {A : Type 0} → List A → ℕ → ℕ → List A
part xs at count = take count (drop at xs)

-- every element is below a bound
abbrev pub Below : ℕ → List ℕ → Type 0
Below bound xs = (i : ℕ) → get_or xs i 0 < bound
