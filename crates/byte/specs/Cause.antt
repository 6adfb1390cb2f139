-- Why a byte is bad, in words (document 02, Q-6).
use Rattle.std.specs.Prelude.{◌≡◌, ℕ, ◌+◌, ◌/◌, ◌<◌, ◌≤◌, true, false, List, length, take}
use Rattle.lists.specs.Places.{count_below}
use Rattle.pulse.specs.declared.Class.{Class}
use Rattle.byte.specs.declared.ByteRead.TheVariants.{Good, Bad}
use Rattle.byte.specs.Byte.{is_odd, byte_classes, nth_pair, wrong_pair, byte_of}

-- ---- Words for the claims

-- pair i is wrong, and none before it is
abbrev pub WrongFirst : (ys : List Class) (i : ℕ) → Type 0
WrongFirst ys i = (wrong_pair ys i ≡ true) × ((j : ℕ) → j < i → wrong_pair ys j ≡ false)

abbrev pub NoneWrong : (ys : List Class) → Type 0
NoneWrong ys = (j : ℕ) → j < 10 → wrong_pair ys j ≡ false

-- the ones among the nine bits, whose pairs are 1 to 9
abbrev pub ones_among : (ys : List Class) → ℕ
ones_among ys = count_below (λ i. (nth_pair ys (1 + i)).one) 9

-- ---- The claims

pub record WhyBad : Type 0 where
  -- Twenty pulses are bad with a cause i below 10 exactly where pair i is wrong and none before it is.
  pub pair : (ys : List Class) (i : ℕ) → i < 10 → WrongFirst ys i → byte_of ys ≡ Bad i
  pub first : (ys : List Class) (i : ℕ) → i < 10 → byte_of ys ≡ Bad i → WrongFirst ys i
  -- They are bad with cause 10 exactly where no pair is wrong and the number of ones is even.
  pub even : (ys : List Class) → NoneWrong ys → is_odd (ones_among ys) ≡ false → byte_of ys ≡ Bad 10
  pub ones : (ys : List Class) → byte_of ys ≡ Bad 10 → NoneWrong ys × (is_odd (ones_among ys) ≡ false)
  -- There is no other cause.
  pub most : (ys : List Class) (cause : ℕ) → byte_of ys ≡ Bad cause → cause ≤ 10
  -- They are good exactly where no pair is wrong and the number of ones is odd.
  pub odd : (ys : List Class) → NoneWrong ys → is_odd (ones_among ys) ≡ true → (v : ℕ) × (byte_of ys ≡ Good v)
  pub good : (ys : List Class) (v : ℕ) → byte_of ys ≡ Good v → NoneWrong ys × (is_odd (ones_among ys) ≡ true)
  -- With k pulses, fewer than twenty, pair k / 2 is not whole: the cause is that one, or one before it that is wrong.
  pub cut : (ys : List Class) → length ys < 20 → (cause : ℕ) × (byte_of ys ≡ Bad cause) × (cause ≤ length ys / 2)
  -- So the cause of a byte as written that is cut after k of its twenty pulses is k / 2.
  pub written : (b k : ℕ) → b < 256 → k < 20 → byte_of (take k (byte_classes b)) ≡ Bad (k / 2)
