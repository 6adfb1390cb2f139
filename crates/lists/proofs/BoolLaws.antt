-- Laws of tests.
use Prim.Native.Nat.{ℕ}
use native.Mathlib.Decide.{dec_le, dec_lt, ℕ_discrete}
use native.Mathlib.Omega.{arith}
use mathlib.Core.Path.{◌≡◌, refl}
use mathlib.Core.Logic.{◌⊎◌, inl, inr}
use mathlib.Core.Bool.{Bool, true, false, cond, not, ◌&&◌, ◌||◌}
use borrow.Author.Tests.{le-leb, lt-leb, le-ltb, lt-ltb, eq-eqb, ne_eqb}
use lib.Dec.{leb, ltb, eqb}
use Rattle.std.specs.Ordering.{is_lt, is_le, nat_cmp}
use Rattle.std.specs.declared.cmp.Ordering.TheVariants.{Less, Equal, Greater}
use Rattle.std.specs.Prelude.{Option, None, Some}
use Rattle.std.specs.Bool.{then_some}

pub and-true : (a b : Bool) → (a && b) ≡ true → (a ≡ true) × (b ≡ true)
and-true true b e = (refl, e)
and-true false b e = absurd (let z : ◌≡◌ {A = ℕ} 0 1 = cc in omega arith)

pub or-true : (a b : Bool) → (a || b) ≡ true → (a ≡ true) ⊎ (b ≡ true)
or-true true b e = inl refl
or-true false b e = inr e

pub or-false : (a b : Bool) → (a || b) ≡ false → (a ≡ false) × (b ≡ false)
or-false true b e = absurd (let z : ◌≡◌ {A = ℕ} 0 1 = cc in omega arith)
or-false false b e = (refl, e)

pub or_right : (a b : Bool) → b ≡ true → (a || b) ≡ true
or_right true b e = refl
or_right false b e = e

-- a test that cannot hold fails
pub not-holds : (t : Bool) → (t ≡ true → ⊥) → t ≡ false
not-holds true h = absurd (h refl)
not-holds false h = refl

-- an answer that is not the second is the first
pub cond-first : {A : Type 0} (t : Bool) (x y z : A) → (y ≡ z → ⊥) → cond t x y ≡ z → (t ≡ true) × (x ≡ z)
cond-first true x y z h e = (refl, e)
cond-first false x y z h e = absurd (h e)

-- an answer that is not the first is the second
pub cond-second : {A : Type 0} (t : Bool) (x y z : A) → (x ≡ z → ⊥) → cond t x y ≡ z → (t ≡ false) × (y ≡ z)
cond-second true x y z h e = absurd (h e)
cond-second false x y z h e = (refl, e)

pub leb-not : (a b : ℕ) → leb a b ≡ not (ltb b a)
leb-not a b = elim (dec_le a b) [ yes h ↦ rw (le-leb a b h, le-ltb b a h) | no h ↦ rw (lt-leb a b (omega arith), lt-ltb b a (omega arith)) ]

-- std's `then_some` by cases
pub then_some-cond : {A : Type 0} (t : Bool) (x : A) → then_some t x ≡ cond t (Some x) None
then_some-cond true x = refl
then_some-cond false x = refl

-- std's order of numbers, by the tests
pub lt-cmp : (a b : ℕ) → is_lt (nat_cmp a b) ≡ ltb a b
lt-cmp a b = go (ltb a b) (eqb a b)
  where
    go : (t u : Bool) → is_lt (cond t Less (cond u Equal Greater)) ≡ t
    go true u = refl
    go false true = refl
    go false false = refl

pub le-cmp : (a b : ℕ) → is_le (nat_cmp a b) ≡ leb a b
le-cmp a b = elim (dec_lt a b) [
  | yes h ↦ rw (lt-ltb a b h, le-leb a b (omega arith)) refl
  | no h ↦ elim (ℕ_discrete a b) [
    | yes e ↦ rw (le-ltb a b (omega arith), eq-eqb a b e, le-leb a b (omega arith)) refl
    | no n ↦ rw (le-ltb a b (omega arith), ne_eqb a b n, lt-leb a b (omega arith)) refl
  ]
]
