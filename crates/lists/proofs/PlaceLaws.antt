-- Laws of `first_from` and `tabulate`.
use Prim.Native.Nat.{ℕ, zero, suc, ◌+◌, ◌≤◌, ◌<◌}
use native.Mathlib.Omega.{arith}
use native.Mathlib.Nat.{zero-add, add-zero, suc-add}
use native.Mathlib.Decide.{ℕ_discrete}
use mathlib.Core.Path.{◌≡◌, refl, sym, ap, ap₂, ◌∙◌}
use mathlib.Core.Bool.{Bool, true, false, cond}
use mathlib.Core.List.{List, [], ◌∷◌, ◌++◌}
use native.Mathlib.Numerals.{add-one}
use Rattle.std.specs.Prelude.{Option, None, Some}
use Rattle.std.specs.List.{position_from}
use lib.ListN.{length, get_or, set}
use Rattle.lists.specs.Places.{Below, first_from, First, tabulate}

-- ---- first_from

-- where none is found, none passes
pub none_first : (f : ℕ → Bool) (count at : ℕ) → first_from f count at ≡ None → (i : ℕ) → at ≤ i → i < at + count → f i ≡ false
unfolding first_from
none_first f zero at e i a b = absurd (omega arith)
none_first f (suc count) at e i a b = go (λ e'. none_first f count (suc at) e' i) (f at) refl (ℕ_discrete at i)
  where
    go : (first_from f count (suc at) ≡ None → suc at ≤ i → i < suc at + count → f i ≡ false) → (t : Bool) → f at ≡ t → Dec (at ≡ i) → f i ≡ false
    go r true t d = absurd (let z : ◌≡◌ {A = ℕ} 0 1 = (let e' = rw t at e in cc) in omega arith)
    go r false t (yes d) = rw (← d) t
    go r false t (no d) = r (rw t at e) (omega arith) (omega arith)

-- where none passes, none is found
pub first-none : (f : ℕ → Bool) (count at : ℕ) → ((i : ℕ) → at ≤ i → i < at + count → f i ≡ false) → first_from f count at ≡ None
unfolding first_from
first-none f zero at h = refl
first-none f (suc count) at h = rw (h at (omega arith) (omega arith)) (first-none f count (suc at) (λ i a b. h i (omega arith) (omega arith)))

-- what is found is the smallest that passes
pub some_first : (f : ℕ → Bool) (count at p : ℕ) → first_from f count at ≡ Some p → First f count at p
unfolding first_from
some_first f zero at p e = absurd (let z : ◌≡◌ {A = ℕ} 0 1 = cc in omega arith)
some_first f (suc count) at p e = go (some_first f count (suc at) p) (f at) refl
  where
    go : (first_from f count (suc at) ≡ Some p → First f count (suc at) p) → (t : Bool) → f at ≡ t → First f (suc count) at p
    go later true t =
        let z : at ≡ p = (let e' = rw t at e in cc) in
        record { low = omega arith; high = omega arith; passes = rw (← z) t; least = λ i a b. absurd (omega arith) }
    go later false t =
        let r = later (rw t at e) in
        record {
          low = omega arith;
          high = omega arith;
          passes = r.passes;
          least = λ i a b. elim (ℕ_discrete at i) [ yes d ↦ rw (← d) t | no d ↦ r.least i (omega arith) b ];
        }

-- the smallest that passes is found
pub first_some : {f : ℕ → Bool} {count at p : ℕ} → First f count at p → first_from f count at ≡ Some p
unfolding first_from
first_some {count = zero} r = absurd (omega arith)
first_some {f} {count = suc count} {at} {p} r = elim (ℕ_discrete at p) [
  | yes e ↦ rw (e, r.passes)
  | no ne ↦ rw (r.least at (omega arith) (omega arith))
      (first_some {count = count} (record { low = omega arith; high = omega arith; passes = r.passes; least = λ i a b. r.least i (omega arith) b }))
]

-- what was found among the first numbers, else what is found after them
abbrev pub or_else : Option ℕ → Option ℕ → Option ℕ
or_else None later = later
or_else (Some i) later = Some i

-- a search through a list, and through its places
pub position-first : {A : Type 0} (p : A → Bool) (f : ℕ → Bool) (d : A) (xs : List A) (at : ℕ) → ((k : ℕ) → k < length xs → p (get_or xs k d) ≡ f (at + k)) → position_from p at xs ≡ first_from f (length xs) at
unfolding first_from
position-first p f d [] at h = refl
position-first p f d (x ∷ xs) at h =
    let here : p x ≡ f at = h 0 (omega arith) ∙ ap f (add-zero at) in
    let later = position-first p f d xs (at + 1) (λ k b. h (suc k) (omega arith) ∙ ap f (let z : at + suc k ≡ at + 1 + k = omega arith in z)) in
    rw (here, later, add-one)

-- a place found, counted from further on
abbrev pub shifted : ℕ → Option ℕ → Option ℕ
shifted at None = None
shifted at (Some i) = Some (at + i)

position-further : {A : Type 0} (p : A → Bool) (xs : List A) (at from : ℕ) → position_from p (at + from) xs ≡ shifted at (position_from p from xs)
position-further p [] at from = refl
position-further p (x ∷ xs) at from = go (p x) (position-further p xs at (from + 1))
  where
    go : (t : Bool) → position_from p (at + (from + 1)) xs ≡ shifted at (position_from p (from + 1) xs)
        → cond t (Some (at + from)) (position_from p (at + from + 1) xs) ≡ shifted at (cond t (Some from) (position_from p (from + 1) xs))
    go true e = refl
    go false e = ap (λ k. position_from p k xs) (let z : at + from + 1 ≡ at + (from + 1) = omega arith in z) ∙ e

pub position-shifted : {A : Type 0} (p : A → Bool) (xs : List A) (at : ℕ) → position_from p at xs ≡ shifted at (position_from p 0 xs)
position-shifted p xs at = ap (λ k. position_from p k xs) (sym (add-zero at)) ∙ position-further p xs at 0

-- one number more, at the end
pub first-snoc : (f : ℕ → Bool) (count at : ℕ) → first_from f (suc count) at ≡ or_else (first_from f count at) (first_from f 1 (at + count))
unfolding first_from
first-snoc f zero at = rw add-zero
first-snoc f (suc count) at =
    let e : at + suc count ≡ suc at + count = omega arith in
    go (f at) _ _ _ (rw e (first-snoc f count (suc at)))
  where
    go : (t : Bool) (whole begun end : Option ℕ) → whole ≡ or_else begun end → cond t (Some at) whole ≡ or_else (cond t (Some at) begun) end
    go true whole begun end r = refl
    go false whole begun end r = r

-- ---- tabulate

-- one element more, at the end
pub tabulate-snoc : (f : ℕ → ℕ) (count at : ℕ) → tabulate f (suc count) at ≡ tabulate f count at ++ (f (at + count) ∷ [])
unfolding tabulate
tabulate-snoc f zero at = rw add-zero
tabulate-snoc f (suc count) at =
    let e : at + suc count ≡ suc at + count = omega arith in
    rw (e, ← (tabulate-snoc f count (suc at)))

-- in two parts
pub tabulate-append : (f : ℕ → ℕ) (count more at : ℕ) → tabulate f (count + more) at ≡ tabulate f count at ++ tabulate f more (at + count)
unfolding tabulate
tabulate-append f zero more at = rw (zero-add, add-zero)
tabulate-append f (suc count) more at =
    let e : at + suc count ≡ suc at + count = omega arith in
    rw (suc-add, e) (ap (λ xs. f at ∷ xs) (tabulate-append f count more (suc at)))

-- two functions that agree at these places make the same list
pub tabulate-same : (f g : ℕ → ℕ) (count at : ℕ) → ((i : ℕ) → at ≤ i → i < at + count → f i ≡ g i) → tabulate f count at ≡ tabulate g count at
unfolding tabulate
tabulate-same f g zero at h = refl
tabulate-same f g (suc count) at h =
    ap₂ (λ x (xs : List ℕ). x ∷ xs) (h at (omega arith) (omega arith)) (tabulate-same f g count (suc at) (λ i a b. h i (omega arith) (omega arith)))

pub length-tabulate : (f : ℕ → ℕ) (count at : ℕ) → length (tabulate f count at) ≡ count
unfolding tabulate
length-tabulate f zero at = refl
length-tabulate f (suc count) at = ap suc (length-tabulate f count (suc at))

-- a list by its places
pub tabulate-is : (f : ℕ → ℕ) (xs : List ℕ) (at : ℕ) → ((i : ℕ) → i < length xs → f (at + i) ≡ get_or xs i 0) → tabulate f (length xs) at ≡ xs
unfolding tabulate
tabulate-is f [] at h = refl
tabulate-is f (x ∷ xs) at h =
    let e : f at ≡ x = rw add-zero at (h 0 (omega arith)) in
    let r = tabulate-is f xs (suc at) (λ i l. ap f (let z : suc at + i ≡ at + suc i = omega arith in z) ∙ h (suc i) (omega arith)) in
    cc

pub get_d_tabulate : (f : ℕ → ℕ) (count at i : ℕ) → i < count → get_or (tabulate f count at) i 0 ≡ f (at + i)
unfolding tabulate
get_d_tabulate f zero at i h = absurd (omega arith)
get_d_tabulate f (suc count) at zero h = rw add-zero
get_d_tabulate f (suc count) at (suc i) h = get_d_tabulate f count (suc at) i (omega arith) ∙ ap f (let z : suc at + i ≡ at + suc i = omega arith in z)

-- one place set
pub set-table : (f g : ℕ → ℕ) (count at k v : ℕ) → k < count → g (at + k) ≡ v → ((j : ℕ) → (j ≡ at + k → ⊥) → g j ≡ f j)
    → set (tabulate f count at) k v ≡ tabulate g count at
unfolding tabulate
set-table f g zero at k v h e same = absurd (omega arith)
set-table f g (suc count) at zero v h e same =
    ap₂ (λ (x : ℕ) (xs : List ℕ). x ∷ xs) (sym e ∙ ap g (add-zero at))
    (tabulate-same f g count (suc at) (λ j l b. sym (same j (λ q. omega arith))))
set-table f g (suc count) at (suc k) v h e same =
    let z : suc at + k ≡ at + suc k = omega arith in
    ap₂ (λ (x : ℕ) (xs : List ℕ). x ∷ xs) (sym (same at (λ q. omega arith)))
    (set-table f g count (suc at) k v (omega arith) (ap g z ∙ e) (λ j d. same j (λ q. d (q ∙ sym z))))

-- no element is above a bound
pub table-most : (f : ℕ → ℕ) (count at bound : ℕ) → ((j : ℕ) → f j ≤ bound) → (i : ℕ) → get_or (tabulate f count at) i 0 ≤ bound
unfolding tabulate
table-most f zero at bound most i = omega arith
table-most f (suc count) at bound most zero = most at
table-most f (suc count) at bound most (suc i) = table-most f count (suc at) bound most i

-- ---- get_or

-- inside a list the default does not matter
pub get_or-within : {A : Type 0} (xs : List A) (i : ℕ) (d e : A) → i < length xs → get_or xs i d ≡ get_or xs i e
get_or-within [] i d e h = absurd (omega arith)
get_or-within (x ∷ xs) zero d e h = refl
get_or-within (x ∷ xs) (suc i) d e h = get_or-within xs i d e (omega arith)

-- ---- Below

pub below-append : {bound : ℕ} (xs ys : List ℕ) → Below bound xs → Below bound ys → Below bound (xs ++ ys)
below-append [] ys b c i = c i
below-append (x ∷ xs) ys b c zero = b zero
below-append (x ∷ xs) ys b c (suc i) = below-append xs ys (λ j. b (suc j)) c i

pub below_one : {bound : ℕ} (x : ℕ) → x < bound → Below bound (x ∷ [])
below_one x h zero = h
below_one x h (suc i) = omega arith
