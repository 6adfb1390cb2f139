-- Reading the header: what the calls come to.
use Prim.Native.Nat.{ℕ, ◌+◌, ◌*◌, ◌-◌, ◌≤◌, ◌<◌}
use native.Mathlib.Omega.{arith}
use mathlib.Core.Path.{◌≡◌, sym, ◌∙◌}
use mathlib.Core.Bool.{Bool, true, false, not}
use mathlib.Core.List.{List, [], ◌∷◌}
use borrow.Author.Tests.{lt-ltb, le-ltb, ltb-false}
use lib.Dec.{eqb, ltb}
use lib.ListN.{length, take, drop, get_or, length-drop}
use lib.Seq.{get_or-drop}
use Rattle.lists.specs.Places.{part}
use Rattle.lists.specs.Text.{from_low, equal}
use Rattle.lists.proofs.BoolLaws.{or-false}
use Rattle.lists.proofs.TextLaws.{from_low-four, equal_is}
use Rattle.refusal.specs.declared.Reason.TheVariants.{WrongTapHeader, WrongTapVersion}
use Rattle.refusal.specs.declared.Refusal.{Refusal}
use Rattle.refusal.specs.Refusal.{refusal_at}
use Rattle.refusal.specs.Outcome.{accepted, refused_with}
use Rattle.tap.specs.Tap.{letters}
use Rattle.tap.specs.Reading.{wrong_letters, wrong_count, tap_version}

-- whether two lists are the same, as `check::same` answers it
abbrev pub Same : Bool → List ℕ → List ℕ → Type 0
Same r xs ys = (r ≡ true → xs ≡ ys) × (xs ≡ ys → r ≡ true)

module _ (file : List ℕ) where
  -- ---- Letters

  module _ (long : 20 ≤ length file) where
    pub wrong_letters-same : {r : Bool} → Same r (take 12 file) letters → not r ≡ wrong_letters file
    wrong_letters-same {r} s = rw (le-ltb (length file) 20 long, equal_is r (take 12 file) letters s)

    -- ---- Reserved bytes and count

    count-bytes : from_low (part file 16 4) ≡ get_or file 16 0 + get_or file 17 0 * 256 + get_or file 18 0 * 65536 + get_or file 19 0 * 16777216
    count-bytes = from_low-four (drop 16 file) ∙ rw (get_or-drop 16 file 0 0, get_or-drop 16 file 1 0, get_or-drop 16 file 2 0, get_or-drop 16 file 3 0) (omega arith)

    module _ {r : Bool} (s : Same r (part file 13 3) (0 ∷ 0 ∷ 0 ∷ [])) where
      pub wrong_count-reserved : r ≡ false → true ≡ wrong_count file
      wrong_count-reserved e = rw (← (equal_is r (part file 13 3) (0 ∷ 0 ∷ 0 ∷ []) s), e)

      pub wrong_count-number : {count : ℕ} → r ≡ true → count ≡ get_or file 16 0 + get_or file 17 0 * 256 + get_or file 18 0 * 65536 + get_or file 19 0 * 16777216
          → not (eqb count (length file - 20)) ≡ wrong_count file
      wrong_count-number e l = rw (← (equal_is r (part file 13 3) (0 ∷ 0 ∷ 0 ∷ []) s), e, l ∙ sym count-bytes, length-drop)

  -- ---- The header

  pub tap_version-wrong_letters : {r : Refusal} → wrong_letters file ≡ true → r ≡ refusal_at WrongTapHeader 0 → refused_with r ≡ tap_version file
  unfolding tap_version
  tap_version-wrong_letters t q = rw (t, q)

  module _ (right : wrong_letters file ≡ false) where
    pub wrong_letters-long : 20 ≤ length file
    wrong_letters-long = ltb-false (length file) 20 (or-false (ltb (length file) 20) (not (equal (take 12 file) letters)) right).0

    pub tap_version-wrong_tap_version : {r : Refusal} → 1 < get_or file 12 0 → r ≡ refusal_at WrongTapVersion 0 → refused_with r ≡ tap_version file
    unfolding tap_version
    tap_version-wrong_tap_version h q = rw (right, q, lt-ltb 1 (get_or file 12 0) h)

    module _ (old : get_or file 12 0 ≤ 1) where
      pub tap_version-wrong_count : {r : Refusal} → wrong_count file ≡ true → r ≡ refusal_at WrongTapHeader 0 → refused_with r ≡ tap_version file
      unfolding tap_version
      tap_version-wrong_count t q = rw (right, q, le-ltb 1 (get_or file 12 0) old, t)

      pub tap_version-accepted : wrong_count file ≡ false → accepted (get_or file 12 0) ≡ tap_version file
      unfolding tap_version
      tap_version-accepted t = rw (right, le-ltb 1 (get_or file 12 0) old, t)
