-- Pulses (document 01, 'Pulses'). A pulse is one full period, as a 32-bit count of CPU cycles; a strip is a list of them.
use Rattle.std.specs.Prelude.{ℕ, ◌<◌, ◌≡◌, ◌⊎◌, Bool, false, cond, List, map, ltb, eqb, length, get_or}
use Rattle.pulse.specs.declared.Cycles.{Cycles}
use Rattle.pulse.specs.declared.Thresholds.{Thresholds}
use Rattle.pulse.specs.declared.Class.{Class}
use Rattle.pulse.specs.declared.Class.TheVariants.{Short, Medium, Long, Noise}

-- a number of cycles
abbrev pub cycles : ℕ → Cycles
cycles n = record { 0 = n }

-- ---- Classes

-- S is 200 to 439 cycles, M 440 to 607, L 608 to 959, N all others. 440 and 608 are source document 003's, which leaves equality open;
-- 200 and 960 are document 01's own.
abbrev pub fixed : Thresholds
fixed = record { short = cycles 200; medium = cycles 440; long = cycles 608; noise = cycles 960 }

unfoldable pub class_of : Thresholds → ℕ → Class
class_of t pulse =
    cond (ltb pulse t.short.0) Noise
    (cond (ltb pulse t.medium.0) Short
    (cond (ltb pulse t.long.0) Medium
    (cond (ltb pulse t.noise.0) Long Noise)))

-- the classes of a strip
abbrev pub classes : Thresholds → List ℕ → List Class
classes t strip = map (class_of t) strip

-- a number for each class, and by it whether two are the same
abbrev pub code : Class → ℕ
code Short = 0
code Medium = 1
code Long = 2
code Noise = 3

unfoldable pub same : Class → Class → Bool
same a b = eqb (code a) (code b)

-- ---- Written figures

-- the cycles that a class is written as; N is never written, and 0 is N
abbrev pub written_as : Class → ℕ
written_as Short = 360
written_as Medium = 520
written_as Long = 688
written_as Noise = 0

-- the strip that is written in these classes
abbrev pub pulses : List Class → List ℕ
pulses cs = map written_as cs

-- none of these classes is N
abbrev pub NoNoise : List Class → Type 0
NoNoise cs = (i : ℕ) → i < length cs → same (get_or cs i Noise) Noise ≡ false

-- every pulse is 360, 520 or 688 cycles long
abbrev pub Figures : List ℕ → Type 0
Figures strip = (i : ℕ) → i < length strip → (get_or strip i 0 ≡ 360) ⊎ ((get_or strip i 0 ≡ 520) ⊎ (get_or strip i 0 ≡ 688))
