-- Laws of `count_below`.
use Prim.Native.Nat.{ℕ, zero, suc, ◌+◌, ◌≤◌, ◌<◌}
use native.Mathlib.Decide.{ℕ_discrete}
use native.Mathlib.Omega.{arith}
use mathlib.Core.Path.{◌≡◌, refl}
use mathlib.Core.Bool.{Bool, true, false, cond}
use Rattle.lists.specs.Places.{count_below}

-- not above the number
pub count_most : (f : ℕ → Bool) (n : ℕ) → count_below f n ≤ n
unfolding count_below
count_most f zero = omega arith
count_most f (suc n) = go (f n) (count_most f n)
  where
    go : (t : Bool) → count_below f n ≤ n → cond t 1 0 + count_below f n ≤ suc n
    go true h = omega arith
    go false h = omega arith

-- of none
pub count_none : (f : ℕ → Bool) (n : ℕ) → count_below f n ≡ 0 → (i : ℕ) → i < n → f i ≡ false
unfolding count_below
count_none f zero e i h = absurd (omega arith)
count_none f (suc n) e i h = go (λ e'. count_none f n e' i) (f n) refl e (ℕ_discrete i n)
  where
    go : (count_below f n ≡ 0 → i < n → f i ≡ false) → (t : Bool) → f n ≡ t → cond t 1 0 + count_below f n ≡ 0 → Dec (i ≡ n) → f i ≡ false
    go r true t z d = absurd (omega arith)
    go r false t z (yes d) = rw d t
    go r false t z (no d) = r (omega arith) (omega arith)

-- of all
pub count-all : (f : ℕ → Bool) (n : ℕ) → n ≤ count_below f n → (i : ℕ) → i < n → f i ≡ true
unfolding count_below
count-all f zero e i h = absurd (omega arith)
count-all f (suc n) e i h = go (λ e'. count-all f n e' i) (f n) refl e (ℕ_discrete i n)
  where
    go : (n ≤ count_below f n → i < n → f i ≡ true) → (t : Bool) → f n ≡ t → suc n ≤ cond t 1 0 + count_below f n → Dec (i ≡ n) → f i ≡ true
    go r true t z (yes d) = rw d t
    go r true t z (no d) = r (omega arith) (omega arith)
    go r false t z d = absurd (omega (arith, count_most f n))

-- one of three tests passes at each number: the three counts add up to the number
pub count-three : (f g h : ℕ → Bool) → ((i : ℕ) → cond (f i) 1 0 + cond (g i) 1 0 + cond (h i) 1 0 ≡ 1) → (n : ℕ)
    → count_below f n + count_below g n + count_below h n ≡ n
unfolding count_below
count-three f g h one zero = refl
count-three f g h one (suc n) = omega (arith, one n, count-three f g h one n)
