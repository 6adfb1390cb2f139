-- Groups of numbers: whether a 0 is among them, and what a function makes of each put one after the other.
use Prim.Native.Nat.{ℕ, zero, suc}
use native.Mathlib.Omega.{arith}
use mathlib.Core.Path.{◌≡◌, refl, sym, ap, ◌∙◌}
use mathlib.Core.Bool.{Bool, true, false, not, ◌&&◌}
use mathlib.Core.List.{List, [], ◌∷◌, ◌++◌, map}
use lib.Dec.{eqb}
use Rattle.std.proofs.lemmas.List.{map-append}
use Rattle.lists.proofs.BoolLaws.{and-true}
use Rattle.tap.specs.private.Forms.{no_zeros}

-- ---- no_zeros

pub no_zeros-cons : (x : ℕ) (xs : List ℕ) → no_zeros (x ∷ xs) ≡ true → (x ≡ 0 → ⊥) × (no_zeros xs ≡ true)
unfolding no_zeros
no_zeros-cons zero xs e = absurd (let z : ◌≡◌ {A = ℕ} 0 1 = cc in omega arith)
no_zeros-cons (suc x) xs e = (λ z. omega arith, (and-true (not (eqb (suc x) 0)) (no_zeros xs) e).1)

and_step : (t a b : Bool) → ((t && a) && b) ≡ (t && (a && b))
and_step true a b = refl
and_step false a b = refl

-- one more at the end
pub no_zeros-push : (xs : List ℕ) (x : ℕ) → no_zeros (xs ++ x ∷ []) ≡ (no_zeros xs && not (eqb x 0))
unfolding no_zeros
no_zeros-push [] x = and-one (not (eqb x 0))
  where
    and-one : (t : Bool) → (t && true) ≡ t
    and-one true = refl
    and-one false = refl
no_zeros-push (y ∷ ys) x = ap (λ t. not (eqb y 0) && t) (no_zeros-push ys x) ∙ sym (and_step (not (eqb y 0)) (no_zeros ys) (not (eqb x 0)))

-- and of what a function makes of each
pub no_zeros-more : (f : ℕ → ℕ) (xs : List ℕ) (x : ℕ) → no_zeros (map f (xs ++ x ∷ [])) ≡ (no_zeros (map f xs) && not (eqb (f x) 0))
no_zeros-more f xs x = ap no_zeros (map-append f xs (x ∷ [])) ∙ no_zeros-push (map f xs) (f x)
