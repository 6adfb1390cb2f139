-- Bad bytes, counted by their causes.
use Prim.Native.Nat.{ℕ, ◌+◌, ◌*◌, ◌^◌, ◌≤◌, ◌<◌}
use Rattle.std.specs.Prelude.{Option, ℕ, None}
use native.Mathlib.Nat.{zero-add}
use native.Mathlib.Numerals.{add-one}
use native.Mathlib.Omega.{arith}
use mathlib.Core.Path.{◌≡◌, refl, sym, ap, ◌∙◌}
use mathlib.Core.Bool.{cond}
use mathlib.Core.List.{List}
use borrow.Author.Tests.{eq-eqb, ne_eqb}
use lib.ListN.{get_or, set, replicate}
use Rattle.lists.specs.Places.{count_below, tabulate, Below}
use Rattle.lists.proofs.PlaceLaws.{tabulate-same, get_d_tabulate, set-table, table-most}
use Rattle.lists.proofs.CountLaws.{count_most}
use Rattle.pulse.specs.declared.Class.{Class}
use Rattle.byte.specs.declared.ByteRead.{ByteRead}
use Rattle.byte.specs.declared.ByteRead.TheVariants.{Good, Bad}
use Rattle.byte.specs.Byte.{value_in, first_wrong, twenty, byte_at, is_bad_by}
use Rattle.byte.proofs.CauseLaws.{byte_at-bad, byte_at-most, first_wrong-most, value_in-none}
use Rattle.start.specs.Copies.{byte_place}
use Rattle.block.specs.Looking.{each_cause, bad_by}
use Rattle.block.specs.private.Causes.{with_byte, with_place}

-- ---- One byte

pub cause-small : (ys : List Class) {cause : ℕ} → cause ≡ first_wrong ys → cause < 11
cause-small ys e = omega (arith, first_wrong-most ys)

module _ (cs : List Class) (at : ℕ) (counts : List ℕ) {read : Option ℕ} (e : read ≡ value_in (byte_at cs at)) where
  module _ {cause : ℕ} (g : read ≡ None) (f : cause ≡ first_wrong (twenty cs at)) where
    pub bad-told : Bad cause ≡ byte_at cs at
    bad-told = ap Bad f ∙ sym (byte_at-bad cs at (value_in-none (byte_at cs at) (sym g ∙ e)))

    pub bad-counted : set counts cause (get_or counts cause 0 + 1) ≡ with_byte (byte_at cs at) counts
    bad-counted = rw (← bad-told) refl

-- a number for each cause, with a byte more
with-table : (f : ℕ → ℕ) (r : ByteRead) → ((cause : ℕ) → r ≡ Bad cause → cause ≤ 10)
    → with_byte r (tabulate f 11 0) ≡ tabulate (λ c. cond (is_bad_by c r) 1 0 + f c) 11 0
with-table f (Good v) small = tabulate-same f (λ c. 0 + f c) 11 0 (λ c l h. sym (zero-add (f c)))
with-table f (Bad cause) small =
    let h = small cause refl in
    ap (λ k. set (tabulate f 11 0) cause (k + 1)) (get_d_tabulate f 11 0 cause (omega arith) ∙ ap f (zero-add cause))
    ∙ set-table f (λ c. cond (is_bad_by c (Bad cause)) 1 0 + f c) 11 0 cause (f cause + 1) (omega arith)
    (rw (zero-add cause, eq-eqb cause cause refl) (omega arith)) (λ j d. rw (ne_eqb cause j (λ q. d (sym q ∙ sym (zero-add cause)))) (zero-add (f j)))

-- ---- The bytes of both copies, place after place

module _ (cs : List Class) (one two : ℕ) where
  abbrev copy_byte : (copy i : ℕ) → ByteRead
  copy_byte copy i = byte_at cs (byte_place copy (9 + i))

  abbrev bad_before : (copy i cause : ℕ) → ℕ
  bad_before copy i cause = count_below (λ j. is_bad_by cause (copy_byte copy j)) i

  -- what is counted before place i
  pub record Told (counts : List ℕ) (i : ℕ) : Type 0 where
    pub all : counts ≡ tabulate (λ c. bad_before one i c + bad_before two i c) 11 0

  pub told-begun : Told (replicate 11 0) 0
  unfolding count_below tabulate
  told-begun = record { all = refl }

  module _ {counts : List ℕ} {i : ℕ} (u : Told counts i) where
    small : (copy cause : ℕ) → copy_byte copy i ≡ Bad cause → cause ≤ 10
    small copy cause e = byte_at-most cs (byte_place copy (9 + i)) e

    pub told-next : {counts' : List ℕ} → counts' ≡ with_place cs one two i counts → Told counts' (i + 1)
    unfolding count_below
    told-next e = record {
      all =
          e
          ∙ ap (λ (xs : List ℕ). with_byte (copy_byte two i) (with_byte (copy_byte one i) xs)) u.all
          ∙ ap (with_byte (copy_byte two i)) (with-table (λ c. bad_before one i c + bad_before two i c) (copy_byte one i) (small one))
          ∙ with-table (λ c. cond (is_bad_by c (copy_byte one i)) 1 0 + (bad_before one i c + bad_before two i c)) (copy_byte two i) (small two)
          ∙ tabulate-same _ _ 11 0 (λ c l h. rw (add-one i) (omega arith));
    }

    few : (c : ℕ) → bad_before one i c + bad_before two i c ≤ 2 * i
    few c = omega (arith, count_most (λ j. is_bad_by c (copy_byte one j)) i, count_most (λ j. is_bad_by c (copy_byte two j)) i)

    -- no number is large
    pub told-small : i < 2 ^ 60 → Below (2 ^ 62) counts
    told-small h c =
        let most = table-most (λ c. bad_before one i c + bad_before two i c) 11 0 (2 * i) few c in
        rw u.all (omega arith)

    -- after the checksum's place
    pub told-all : (n : ℕ) → i ≡ n + 1 → each_cause (λ c. get_or counts c 0) ≡ each_cause (λ c. bad_by c cs one n + bad_by c cs two n)
    unfolding tabulate
    told-all n e = rw (u.all, e)
