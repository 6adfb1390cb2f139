-- Laws of rows of flags.
use Prim.Native.Nat.{ℕ, zero, suc, ◌+◌, ◌-◌, ◌*◌, ◌/◌, ◌%◌, ◌^◌, ◌≤◌, ◌<◌}
use native.Mathlib.Nat.{pow-suc, zero-div, div_self, div-eq_of_lt, mul-mod_left}
use native.Mathlib.Decide.{ℕ_discrete, dec_lt}
use native.Mathlib.Omega.{arith}
use mathlib.Core.Path.{◌≡◌, refl, sym, ap, ◌∙◌}
use mathlib.Core.Bool.{true, false}
use mathlib.Core.List.{List}
use borrow.Author.Tests.{eq-eqb}
use lib.Bits.{bit_or, or_shr, or_mod, or_zero_r}
use lib.Dec.{eqb, lit<}
use lib.ListN.{length, get_or, set, length-set, get_or-eq_default}
use lib.Pow.{pow_pos, pow-add, pow-lt, shl-shr, shl_exact}
use lib.Seq.{set_out, get_or-set_same, get_or-set_other}
use Rattle.block.specs.private.Flags.{flag_at, raised}

-- ---- The bits of a number

-- bit k of two numbers together
or-bit : (x y k : ℕ) → bit_or x y / 2 ^ k % 2 ≡ bit_or (x / 2 ^ k % 2) (y / 2 ^ k % 2)
or-bit x y k = rw (or_shr x y k) (or_mod (x / 2 ^ k) (y / 2 ^ k) 1)

-- the number with bit k alone, at k and at every other place
own-bit : (k : ℕ) → 2 ^ k / 2 ^ k % 2 ≡ 1
own-bit k = rw (div_self (pow_pos k))

other-bit : (k j : ℕ) → (k ≡ j → ⊥) → 2 ^ k / 2 ^ j % 2 ≡ 0
other-bit k j h = elim (dec_lt k j) [ yes l ↦ rw (div-eq_of_lt (pow-lt l)) | no l ↦ above (k - suc j) (omega arith) ]
  where
    above : (d : ℕ) → k ≡ suc d + j → 2 ^ k / 2 ^ j % 2 ≡ 0
    above d e = rw (e, pow-add 2 (suc d) j, shl-shr (2 ^ suc d) j, pow-suc 2 d) (mul-mod_left (2 ^ d) 2)

or-one : (x : ℕ) → x < 2 → bit_or x 1 ≡ 1
or-one zero h = refl
or-one (suc zero) h = refl
or-one (suc (suc x)) h = absurd (omega arith)

or-own : (x k : ℕ) → bit_or x (2 ^ k) / 2 ^ k % 2 ≡ 1
or-own x k = or-bit x (2 ^ k) k ∙ ap (bit_or (x / 2 ^ k % 2)) (own-bit k) ∙ or-one (x / 2 ^ k % 2) (omega arith)

or-other : (x k j : ℕ) → (k ≡ j → ⊥) → bit_or x (2 ^ k) / 2 ^ j % 2 ≡ x / 2 ^ j % 2
or-other x k j h = or-bit x (2 ^ k) j ∙ ap (bit_or (x / 2 ^ j % 2)) (other-bit k j h) ∙ or_zero_r (x / 2 ^ j % 2)

-- bit k alone, as a byte holds it
pub weight : (k : ℕ) → k < 8 → 1 * 2 ^ k % 256 ≡ 2 ^ k
weight k h = shl_exact 1 k 8 (lit< tt) (omega arith) ∙ omega arith

-- ---- raised

pub length-raised : (row : List ℕ) (i : ℕ) → length (raised row i) ≡ length row
unfolding raised
length-raised row i = simp length-set

-- past the row's end nothing is raised
pub raised-past : (row : List ℕ) (i : ℕ) → length row ≤ i / 8 → raised row i ≡ row
unfolding raised
raised-past row i h = set_out row (i / 8) _ h

raised-same : (row : List ℕ) (i : ℕ) → i / 8 < length row → flag_at (raised row i) i ≡ true
unfolding flag_at raised
raised-same row i h =
    rw (get_or-set_same row (i / 8) (bit_or (get_or row (i / 8) 0) (2 ^ (i % 8))) 0 h)
    (eq-eqb _ 1 (or-own (get_or row (i / 8) 0) (i % 8)))

raised-other : (row : List ℕ) (i j : ℕ) → (i ≡ j → ⊥) → flag_at (raised row i) j ≡ flag_at row j
unfolding flag_at raised
raised-other row i j h = ap (λ v. eqb v 1) (bit (ℕ_discrete (j / 8) (i / 8)) (dec_lt (i / 8) (length row)))
  where
    byte : ℕ
    byte = get_or row (i / 8) 0

    -- the byte with flag i raised
    more : ℕ
    more = bit_or byte (2 ^ (i % 8))

    bit : Dec (j / 8 ≡ i / 8) → Dec (i / 8 < length row) → get_or (set row (i / 8) more) (j / 8) 0 / 2 ^ (j % 8) % 2 ≡ get_or row (j / 8) 0 / 2 ^ (j % 8) % 2
    bit (no d) l = ap (λ x. x / 2 ^ (j % 8) % 2) (get_or-set_other row (i / 8) (j / 8) more 0 d)
    bit (yes d) (yes l) = rw (d, get_or-set_same row (i / 8) more 0 l) (or-other byte (i % 8) (j % 8) (λ e. h (omega arith)))
    bit (yes d) (no l) = ap (λ xs. get_or xs (j / 8) 0 / 2 ^ (j % 8) % 2) (set_out row (i / 8) more (omega arith))

-- a flag that is down after flag i is raised is another one, and was down
pub raised-down : (row : List ℕ) (i j : ℕ) → i / 8 < length row → flag_at (raised row i) j ≡ false → (i ≡ j → ⊥) × (flag_at row j ≡ false)
raised-down row i j h e =
    let other : i ≡ j → ⊥ = λ q. (let up = raised-same row i h in let z : ◌≡◌ {A = ℕ} 0 1 = cc in omega arith) in
    (other, sym (raised-other row i j other) ∙ e)

-- past the row's end none is up
pub flag_at-past : (row : List ℕ) (i : ℕ) → length row ≤ i / 8 → flag_at row i ≡ false
unfolding flag_at
flag_at-past row i h = rw (get_or-eq_default row 0 h, zero-div (2 ^ (i % 8)))

-- what is down was down before
pub raised_keeps : (row : List ℕ) (i j : ℕ) → flag_at (raised row i) j ≡ false → flag_at row j ≡ false
raised_keeps row i j d = elim (dec_lt (i / 8) (length row)) [
  | yes h ↦ (raised-down row i j h d).1
  | no h ↦ rw (raised-past row i (omega arith)) at d
]
