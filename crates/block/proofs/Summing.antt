-- The sum over places 0 to n, one after the other: with the checksum XORed too it is 0 exactly where the checksum holds.
use Prim.Native.Nat.{ℕ, ◌+◌, ◌≤◌, ◌<◌}
use native.Mathlib.Nat.{zero-add}
use native.Mathlib.Numerals.{add-one}
use native.Mathlib.Decide.{ℕ_discrete}
use native.Mathlib.Omega.{arith}
use mathlib.Core.Path.{◌≡◌, refl, sym, ap, ◌∙◌}
use mathlib.Core.Bool.{true, false}
use mathlib.Core.List.{List, [], ◌∷◌, ◌++◌}
use borrow.Author.Tests.{eq-eqb, ne_eqb}
use lib.Bits.{bit_xor, and_le_l, and_le_r, xor_add_and, xor_self}
use lib.Dec.{eqb}
use Rattle.lists.specs.Places.{tabulate}
use Rattle.lists.proofs.PlaceLaws.{tabulate-snoc}
use Rattle.lists.proofs.LoopLaws.{table_left, table-begun, table-next, table-over}
use Rattle.pulse.specs.declared.Class.{Class}
use Rattle.block.specs.Block.{xor_from, checksum}
use Rattle.block.specs.Reading.{place_value, place_at, value_at, values_at, sum_holds}

pub xor-snoc : (x : ℕ) (bytes : List ℕ) (b : ℕ) → xor_from x (bytes ++ (b ∷ [])) ≡ bit_xor (xor_from x bytes) b
unfolding xor_from
xor-snoc x [] b = refl
xor-snoc x (c ∷ bytes) b = xor-snoc (bit_xor x c) bytes b

xor-zero : (a b : ℕ) → bit_xor a b ≡ 0 → eqb a b ≡ true
xor-zero a b e = eq-eqb a b (omega (arith, xor_add_and a b, and_le_l a b, and_le_r a b))

xor-other : (a b : ℕ) → (bit_xor a b ≡ 0 → ⊥) → eqb a b ≡ false
xor-other a b h = ne_eqb a b (λ e. h (rw e (xor_self b)))

-- the sum before place i, XORed with the values left, is that of all
pub record Summed (cs : List Class) (one two n sum i : ℕ) : Type 0 where
  pub all : xor_from sum (table_left (value_at cs one two) (n + 1) i) ≡ checksum (values_at cs one two (n + 1))

pub summed-begun : (cs : List Class) (one two n : ℕ) → Summed cs one two n 0 0
summed-begun cs one two n = record { all = ap (xor_from 0) (table-begun (value_at cs one two) (n + 1)) }

module _ {cs : List Class} {one two n sum i : ℕ} (u : Summed cs one two n sum i) where
  pub summed-next : {v : ℕ} → i ≤ n → place_value (place_at cs one two i) ≡ v → Summed cs one two n (bit_xor sum v) (i + 1)
  unfolding xor_from
  summed-next h q = record {
    all =
        ap (λ v. xor_from (bit_xor sum v) (table_left (value_at cs one two) (n + 1) (i + 1))) (sym q)
        ∙ ap (xor_from sum) (sym (table-next (value_at cs one two) (n + 1) i (omega arith)))
        ∙ u.all;
  }

  -- after the checksum's place
  module _ (last : n < i) where
    abbrev expected : ℕ
    expected = checksum (values_at cs one two n)

    sum_is : sum ≡ bit_xor expected (value_at cs one two n)
    unfolding xor_from
    sum_is =
        sym (ap (xor_from sum) (table-over (value_at cs one two) (n + 1) i (omega arith)))
        ∙ u.all
        ∙ ap checksum (ap (λ k. tabulate (value_at cs one two) k 0) (add-one n) ∙ tabulate-snoc (value_at cs one two) n 0)
        ∙ xor-snoc 0 (values_at cs one two n) (value_at cs one two (0 + n))
        ∙ ap (λ k. bit_xor expected (value_at cs one two k)) (zero-add n)

    pub summed-holds : eqb sum 0 ≡ sum_holds cs one two n
    summed-holds = elim (ℕ_discrete sum 0) [
      | yes q ↦ eq-eqb sum 0 q ∙ sym (xor-zero expected (value_at cs one two n) (sym sum_is ∙ q))
      | no q ↦ ne_eqb sum 0 q ∙ sym (xor-other expected (value_at cs one two n) (λ e. q (sum_is ∙ e)))
    ]
