-- Laws for loops: what is left, from the place where the loop stands, gives the whole.
use Prim.Native.Nat.{ℕ, suc, ◌+◌, ◌-◌, ◌≤◌, ◌<◌}
use native.Mathlib.Numerals.{add-one}
use native.Mathlib.Omega.{arith}
use mathlib.Core.Path.{◌≡◌, refl, sym, ap, ap₂, ◌∙◌}
use mathlib.Core.Bool.{Bool, true, false}
use mathlib.Core.List.{List, [], ◌∷◌, ◌++◌}
use Rattle.std.specs.Prelude.{Option, None, Some}
use lib.ListN.{length, drop, get_or, set}
use lib.Seq.{sets, length-sets, drop-cons}
use Rattle.lists.specs.Places.{first_from, tabulate}
use Rattle.lists.proofs.PlaceLaws.{tabulate-append}
use Rattle.lists.proofs.BufferLaws.{sets-append}

-- ---- A search through the numbers below n

module _ (f : ℕ → Bool) (n : ℕ) where
  abbrev pub first_left : ℕ → Option ℕ
  first_left i = first_from f (n - i) i

  more : (i : ℕ) → i < n → n - i ≡ suc (n - (i + 1))
  more i h = omega arith

  pub first-begun : first_left 0 ≡ first_from f n 0
  first-begun = ap (λ k. first_from f k 0) (let z : n - 0 ≡ n = omega arith in z)

  pub first-passed : (i : ℕ) → i < n → f i ≡ false → first_left (i + 1) ≡ first_left i
  unfolding first_from
  first-passed i h e = rw (more i h, e, add-one)

  pub first-here : (i : ℕ) → i < n → f i ≡ true → first_left i ≡ Some i
  unfolding first_from
  first-here i h e = rw (more i h, e)

  pub first-over : (i : ℕ) → n ≤ i → first_left i ≡ None
  unfolding first_from
  first-over i h = let z : n - i ≡ 0 = omega arith in rw z

-- ---- A list by its places

module _ (f : ℕ → ℕ) (n : ℕ) where
  abbrev pub table_left : ℕ → List ℕ
  table_left i = tabulate f (n - i) i

  pub table-begun : table_left 0 ≡ tabulate f n 0
  table-begun = ap (λ k. tabulate f k 0) (let z : n - 0 ≡ n = omega arith in z)

  pub table-next : (i : ℕ) → i < n → table_left i ≡ f i ∷ table_left (i + 1)
  unfolding tabulate
  table-next i h = let s : n - i ≡ suc (n - (i + 1)) = omega arith in rw (s, add-one)

  -- a part of them, up to j
  pub table-part : (i j : ℕ) → i ≤ j → j ≤ n → table_left i ≡ tabulate f (j - i) i ++ table_left j
  table-part i j h l =
      let s : n - i ≡ j - i + (n - j) = omega arith in
      let e : i + (j - i) ≡ j = omega arith in
      ap (λ k. tabulate f k i) s ∙ tabulate-append f (j - i) (n - j) i ∙ ap (λ k. tabulate f (j - i) i ++ tabulate f (n - j) k) e

  pub table-over : (i : ℕ) → n ≤ i → table_left i ≡ []
  unfolding tabulate
  table-over i h = let z : n - i ≡ 0 = omega arith in rw z

-- ---- Values put into a buffer from `at` on: with those put that stand before p, the rest put from p on gives the whole

pub record Putting (before : List ℕ) (at : ℕ) (values buffer : List ℕ) (p : ℕ) (rest : List ℕ) : Type 0 where
  pub long : length buffer ≡ length before
  pub whole : sets buffer p rest ≡ sets before at values

pub put-begun : (buffer : List ℕ) (at p : ℕ) (values rest : List ℕ) → p ≡ at → rest ≡ values → Putting buffer at values buffer p rest
put-begun buffer at p values rest e f = record { long = refl; whole = ap₂ (sets buffer) e f }

module _ {before : List ℕ} {at : ℕ} {values buffer : List ℕ} {p : ℕ} {rest : List ℕ} (u : Putting before at values buffer p rest) where
  pub put_next : {buffer' : List ℕ} {p' : ℕ} (now later : List ℕ) → rest ≡ now ++ later → buffer' ≡ sets buffer p now → p' ≡ p + length now
      → Putting before at values buffer' p' later
  put_next now later r e q = record {
    long = ap length e ∙ length-sets buffer p now ∙ u.long;
    whole = ap₂ (λ b i. sets b i later) e q ∙ sym (sets-append now later buffer p) ∙ ap (sets buffer p) (sym r) ∙ u.whole;
  }

  pub put_one : {p' : ℕ} (v : ℕ) (later : List ℕ) → rest ≡ v ∷ later → p' ≡ p + 1 → Putting before at values (set buffer p v) p' later
  put_one v later r q = put_next (v ∷ []) later r refl q

  pub put-done : rest ≡ [] → buffer ≡ sets before at values
  put-done r = ap (sets buffer p) (sym r) ∙ u.whole

-- ---- Values copied from their own places

module _ (before : List ℕ) (at : ℕ) (values : List ℕ) where
  abbrev pub Copied : List ℕ → ℕ → Type 0
  Copied out i = Putting before at values out (at + i) (drop i values)

  module _ {out : List ℕ} {i : ℕ} (u : Copied out i) where
    pub copy-next : i < length values → Copied (set out (at + i) (get_or values i 0)) (i + 1)
    copy-next h = put_one u (get_or values i 0) _ (rw (add-one, drop-cons values i 0 h)) (omega arith)
