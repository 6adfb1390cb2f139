-- Laws of pulses and their classes.
use Prim.Native.Nat.{ℕ, zero, suc, ◌+◌, ◌^◌, ◌<◌}
use native.Mathlib.Omega.{arith}
use mathlib.Core.Path.{◌≡◌, refl, sym, ap, ap₂, ◌∙◌}
use mathlib.Core.Logic.{◌⊎◌, inl, inr}
use mathlib.Core.Bool.{Bool, true, false, cond, not, ◌&&◌}
use mathlib.Core.List.{List, [], ◌∷◌, ◌++◌, map-append}
use borrow.Author.Tests.{eqb-true}
use lib.Dec.{ltb, lit<}
use lib.ListN.{length, get_or, replicate, length-map, get_or-map}
use lib.Seq.{sets}
use Rattle.lists.proofs.LoopLaws.{Putting, put_next}
use Rattle.pulse.specs.declared.Thresholds.{Thresholds}
use Rattle.pulse.specs.declared.Class.{Class}
use Rattle.pulse.specs.declared.Class.TheVariants.{Short, Medium, Long, Noise}
use Rattle.pulse.specs.Pulse.{fixed, class_of, classes, code, same, written_as, pulses, NoNoise, Figures}
use Rattle.pulse.specs.Figures.{RoundedFigures, ntsc, pal}

-- ---- classes

-- the class at a place of a strip is that of the pulse there
pub class-at : (t : Thresholds) (strip : List ℕ) (i : ℕ) → i < length strip → get_or (classes t strip) i Noise ≡ class_of t (get_or strip i 0)
class-at t [] i h = absurd (omega arith)
class-at t (x ∷ strip) zero h = refl
class-at t (x ∷ strip) (suc i) h = class-at t strip i (omega arith)

-- ---- same

classed : ℕ → Class
classed zero = Short
classed (suc zero) = Medium
classed (suc (suc zero)) = Long
classed (suc (suc (suc n))) = Noise

classed-code : (c : Class) → classed (code c) ≡ c
unfolding classed
classed-code Short = refl
classed-code Medium = refl
classed-code Long = refl
classed-code Noise = refl

pub same-eq : (a b : Class) → same a b ≡ true → a ≡ b
unfolding same
same-eq a b e = sym (classed-code a) ∙ ap classed (eqb-true (code a) (code b) e) ∙ classed-code b

-- ---- One class by its own tests

pub record Tests (s m l n : Bool) (c : Class) : Type 0 where
  pub short : (not s && m) ≡ same c Short
  pub medium : (not s && not m && l) ≡ same c Medium
  pub long : (not s && not m && not l && n) ≡ same c Long

tests : (s m l n : Bool) → Tests s m l n (cond s Noise (cond m Short (cond l Medium (cond n Long Noise))))
unfolding same
tests true m l n = record { short = refl; medium = refl; long = refl }
tests false true l n = record { short = refl; medium = refl; long = refl }
tests false false true n = record { short = refl; medium = refl; long = refl }
tests false false false true = record { short = refl; medium = refl; long = refl }
tests false false false false = record { short = refl; medium = refl; long = refl }

pub class-tests : (t : Thresholds) (x : ℕ) → Tests (ltb x t.short.0) (ltb x t.medium.0) (ltb x t.long.0) (ltb x t.noise.0) (class_of t x)
unfolding class_of
class-tests t x = tests (ltb x t.short.0) (ltb x t.medium.0) (ltb x t.long.0) (ltb x t.noise.0)

-- ---- Written figures

class-written : (c : Class) → class_of fixed (written_as c) ≡ c
unfolding class_of
class-written Short = refl
class-written Medium = refl
class-written Long = refl
class-written Noise = refl

-- every written figure is a 32-bit count
pub written-lt : (c : Class) → written_as c < 2 ^ 32
written-lt Short = lit< tt
written-lt Medium = lit< tt
written-lt Long = lit< tt
written-lt Noise = lit< tt

-- every pulse has the class that it was written in
pub classes-pulses : (cs : List Class) → classes fixed (pulses cs) ≡ cs
classes-pulses [] = refl
classes-pulses (c ∷ cs) = ap₂ (λ (x : Class) (xs : List Class). x ∷ xs) (class-written c) (classes-pulses cs)

-- one stretch of pulses more is put
pub put-pulses : {before : List ℕ} {at : ℕ} {values buffer buffer' : List ℕ} {p p' n : ℕ} (now later : List Class)
    → Putting before at values buffer p (pulses (now ++ later)) → buffer' ≡ sets buffer p (pulses now) → length now ≡ n → p' ≡ p + n
    → Putting before at values buffer' p' (pulses later)
put-pulses {p = p} now later u e l q =
    put_next u (pulses now) (pulses later) (map-append written_as now later) e (q ∙ ap (λ n. p + n) (sym (length-map now written_as ∙ l)))

-- ---- NoNoise

pub NoNoise-none : NoNoise []
NoNoise-none i h = absurd (omega arith)

pub NoNoise-cons : (c : Class) (cs : List Class) → same c Noise ≡ false → NoNoise cs → NoNoise (c ∷ cs)
NoNoise-cons c cs first rest zero h = first
NoNoise-cons c cs first rest (suc i) h = rest i (omega arith)

pub NoNoise-append : (cs ds : List Class) → NoNoise cs → NoNoise ds → NoNoise (cs ++ ds)
NoNoise-append [] ds m n = n
NoNoise-append (c ∷ cs) ds m n = NoNoise-cons c (cs ++ ds) (m 0 (omega arith)) (NoNoise-append cs ds (λ i h. m (suc i) (omega arith)) n)

pub NoNoise-replicate : (k : ℕ) (c : Class) → same c Noise ≡ false → NoNoise (replicate k c)
NoNoise-replicate zero c e = NoNoise-none
NoNoise-replicate (suc k) c e = NoNoise-cons c (replicate k c) e (NoNoise-replicate k c e)

-- without noise only the three figures are written
figure : (c : Class) → same c Noise ≡ false → (written_as c ≡ 360) ⊎ ((written_as c ≡ 520) ⊎ (written_as c ≡ 688))
unfolding same
figure Short e = inl refl
figure Medium e = inr (inl refl)
figure Long e = inr (inr refl)
figure Noise e = absurd (let z : ◌≡◌ {A = ℕ} 0 1 = cc in omega arith)

pub figures-pulses : (cs : List Class) → NoNoise cs → Figures (pulses cs)
figures-pulses cs n i h = rw (get_or-map written_as cs i Noise) (figure (get_or cs i Noise) (n i (rw (length-map cs written_as) at h)))

-- ---- Where the written figures come from

pub written-ntsc : RoundedFigures ntsc
written-ntsc = record { short = refl; medium = refl; long = refl }

pub written-pal : RoundedFigures pal
written-pal = record { short = refl; medium = refl; long = refl }
