-- The table of the two countdowns.
use Prim.Native.Nat.{ℕ, zero, suc, ◌+◌, ◌-◌, ◌*◌, ◌<◌}
use native.Mathlib.Omega.{arith}
use mathlib.Core.Path.{◌≡◌, refl, sym, ap, ◌∙◌}
use mathlib.Core.Bool.{Bool, true, false}
use mathlib.Core.List.{List, [], ◌∷◌}
use Rattle.std.specs.Prelude.{Option, Some, eqb}
use Rattle.std.specs.Option.{option_eq}
use lib.ListN.{get_or}
use Rattle.lists.specs.Places.{tabulate}
use Rattle.pulse.specs.declared.Class.{Class}
use Rattle.byte.specs.declared.ByteRead.{ByteRead}
use Rattle.byte.specs.declared.ByteRead.TheVariants.{Good, Bad}
use Rattle.byte.specs.Byte.{value_in, byte_at, is_good}
use Rattle.block.specs.Reading.{is_counted}
use Rattle.block.specs.Block.{first_byte, countdown}
use Rattle.block.proofs.BlockLaws.{countdown-at}

abbrev pub table : List (List ℕ)
table =
    (0x89 ∷ 0x88 ∷ 0x87 ∷ 0x86 ∷ 0x85 ∷ 0x84 ∷ 0x83 ∷ 0x82 ∷ 0x81 ∷ [])
    ∷ (0x09 ∷ 0x08 ∷ 0x07 ∷ 0x06 ∷ 0x05 ∷ 0x04 ∷ 0x03 ∷ 0x02 ∷ 0x01 ∷ [])
    ∷ []

module _ (copy : ℕ) (h : copy < 2) where
  pub row-countdown : get_or table copy [] ≡ countdown copy
  unfolding countdown tabulate
  row-countdown = go copy h
    where
      go : (copy : ℕ) → copy < 2 → get_or table copy [] ≡ countdown copy
      go zero h = refl
      go (suc zero) h = refl
      go (suc (suc copy)) h = absurd (omega arith)

  pub row_at : (i : ℕ) → i < 9 → get_or (get_or table copy []) i 0 ≡ first_byte copy - i
  row_at i l = ap (λ (row : List ℕ). get_or row i 0) row-countdown ∙ countdown-at copy i l

-- ---- Rule 3

-- a frame has this value
abbrev pub has_value : ℕ → Option ℕ → Bool
has_value v read = option_eq eqb read (Some v)

good-value : (v : ℕ) (r : ByteRead) → has_value v (value_in r) ≡ is_good v r
good-value v (Good w) = refl
good-value v (Bad cause) = refl

module _ (cs : List Class) (one two i : ℕ) where
  pub is_counted-one : (v : ℕ) → v ≡ first_byte 0 - i → has_value v (value_in (byte_at cs (one + 20 * i))) ≡ true → true ≡ is_counted cs one two i
  unfolding is_counted
  is_counted-one v q e = rw (rw q at (sym (good-value v (byte_at cs (one + 20 * i))) ∙ e))

  pub is_counted-two : (v w : ℕ) {r : Bool} → v ≡ first_byte 0 - i → w ≡ first_byte 1 - i → has_value v (value_in (byte_at cs (one + 20 * i))) ≡ false
      → r ≡ has_value w (value_in (byte_at cs (two + 20 * i))) → r ≡ is_counted cs one two i
  unfolding is_counted
  is_counted-two v w q q' e f =
      rw (rw q at (sym (good-value v (byte_at cs (one + 20 * i))) ∙ e), ← q') (f ∙ good-value w (byte_at cs (two + 20 * i)))
