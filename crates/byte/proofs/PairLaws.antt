-- Laws of pairs: where they stand on a strip.
use Rattle.std.proofs.Common.{◌≡◌, ℕ, ◌+◌, ◌*◌, ◌<◌, ◌≤◌, Bool, true, false, cond, List, length, get_or, drop, sym, refl, ap, ◌∙◌, ap₂, add_assoc, arith, lit<, get_or-drop, get_or-take}
use mir.Val.{bool_byte}
use lib.ListN.{get_or-eq_default}
use Rattle.pulse.specs.declared.Thresholds.{Thresholds}
use Rattle.pulse.specs.declared.Class.{Class}
use Rattle.pulse.specs.declared.Class.TheVariants.{Short, Medium, Long, Noise}
use Rattle.pulse.specs.Pulse.{class_of, classes, same}
use Rattle.pulse.proofs.PulseLaws.{class-at}
use Rattle.byte.specs.Byte.{Pair, pair_of, bit_of, pair_at, nth_pair, twenty}

-- ---- A flag as a bit

pub flag-lt : (t : Bool) → cond t 1 0 < 2
flag-lt true = lit< tt
flag-lt false = lit< tt

pub flag-number : (t : Bool) → bool_byte t ≡ cond t 1 0
flag-number true = refl
flag-number false = refl

pub bit-lt : (p : Pair) → bit_of p < 2
bit-lt p = flag-lt p.one

-- ---- Where pairs stand

-- two pulses that are no pair
abbrev no_pair : Pair
no_pair = record { marker = false; zero = false; one = false }

-- two pulses read where they lie
pub pair-there : (t : Thresholds) (strip : List ℕ) (p : ℕ) → p + 1 < length strip
    → pair_of (class_of t (get_or strip p 0)) (class_of t (get_or strip (p + 1) 0)) ≡ pair_at (classes t strip) p
unfolding pair_at
pair-there t strip p h = ap₂ pair_of (sym (class-at t strip p (omega arith))) (sym (class-at t strip (p + 1) h))

no-pair : (first : Class) → pair_of first Noise ≡ no_pair
unfolding pair_of same
no-pair Short = refl
no-pair Medium = refl
no-pair Long = refl
no-pair Noise = refl

-- a place with fewer than two pulses
pub pair-past : (cs : List Class) (p : ℕ) → length cs ≤ p + 1 → pair_at cs p ≡ no_pair
unfolding pair_at
pair-past cs p h = ap (pair_of (get_or cs p Noise)) (get_or-eq_default cs Noise h) ∙ no-pair (get_or cs p Noise)

-- the pairs of twenty pulses, where these lie on the strip
pub pair-twenty : (cs : List Class) (p i : ℕ) → i < 10 → nth_pair (twenty cs p) i ≡ pair_at cs (p + 2 * i)
unfolding pair_at
pair-twenty cs p i h =
    ap₂ pair_of (place (2 * i) (omega arith)) (place (2 * i + 1) (omega arith) ∙ ap (λ j. get_or cs j Noise) (sym (add_assoc p (2 * i) 1)))
  where
    place : (j : ℕ) → j < 20 → get_or (twenty cs p) j Noise ≡ get_or cs (p + j) Noise
    place j l = get_or-take 20 (drop p cs) j Noise l ∙ get_or-drop p cs j Noise
