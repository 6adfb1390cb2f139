-- Laws of the start of a block: the test that the search makes is rule 1 in words, and what the search finds is the smallest such place.
use Prim.Native.Nat.{ℕ, zero, suc, ◌+◌, ◌-◌, ◌≤◌, ◌<◌}
use native.Mathlib.Omega.{arith}
use mathlib.Core.Path.{◌≡◌, refl, sym, ap, ap₂, ◌∙◌}
use mathlib.Core.Bool.{true, false, ◌&&◌}
use mathlib.Core.List.{List, [], ◌∷◌}
use Rattle.std.specs.Prelude.{Option, None, Some}
use borrow.Author.Tests.{le-leb, leb-true}
use lib.Dec.{leb}
use lib.ListN.{length, get_or, replicate, length-take, length-drop, get_or-replicate}
use lib.Seq.{ext_get_or}
use Rattle.lists.specs.Places.{part}
use Rattle.lists.proofs.BoolLaws.{and-true, not-holds}
use Rattle.lists.proofs.PartLaws.{get_d_part}
use Rattle.lists.proofs.PlaceLaws.{none_first, first-none, some_first, first_some}
use Rattle.refusal.specs.Outcome.{accepted}
use Rattle.pulse.specs.declared.Class.{Class}
use Rattle.pulse.specs.declared.Class.TheVariants.{Short, Noise}
use Rattle.pulse.specs.Pulse.{same}
use Rattle.pulse.proofs.PulseLaws.{same-eq}
use Rattle.byte.specs.declared.ByteRead.TheVariants.{Good}
use Rattle.byte.specs.Byte.{byte_at, is_good}
use Rattle.byte.proofs.ByteLaws.{is_good-true, byte_at-short, byte_at-within}
use Rattle.start.specs.Start.{all_short, is_start, Start, start_of, start_at, find_start}

-- ---- Tests

short-all : (n : ℕ) → all_short (replicate n Short) ≡ true
unfolding all_short same
short-all zero = refl
short-all (suc n) = short-all n

all_short_lem : (cs : List Class) → all_short cs ≡ true → cs ≡ replicate (length cs) Short
unfolding all_short
all_short_lem [] e = refl
all_short_lem (c ∷ cs) e =
    let h = and-true (same c Short) (all_short cs) e in
    ap₂ (λ (x : Class) (xs : List Class). x ∷ xs) (same-eq c Short h.0) (all_short_lem cs h.1)

-- ---- The test is rule 1 in words

module _ {cs : List Class} {from p : ℕ} where
  pub is_start-holds : Start cs from p → is_start cs from p ≡ true
  unfolding is_start
  is_start-holds s = rw (le-leb (from + 16) p s.far, s.shorts, short-all 16, s.first)

  pub is_start-start : is_start cs from p ≡ true → Start cs from p
  unfolding is_start
  is_start-start e =
      let h = and-true (leb (from + 16) p && all_short (part cs (p - 16) 16)) (is_good (0x89) (byte_at cs p)) e in
      let h' = and-true (leb (from + 16) p) (all_short (part cs (p - 16) 16)) h.0 in
      let far : from + 16 ≤ p = leb-true (from + 16) p h'.0 in
      let first : byte_at cs p ≡ Good 0x89 = is_good-true 0x89 (byte_at cs p) h.1 in
      let within : p + 20 ≤ length cs = byte_at-within cs p 0x89 first in
      let long : length (part cs (p - 16) 16) ≡ 16 = simp (length-take, length-drop) (omega arith) in
      record { far = far; shorts = all_short_lem (part cs (p - 16) 16) h'.1 ∙ rw long; first = first }

  is_start-fails : (Start cs from p → ⊥) → is_start cs from p ≡ false
  is_start-fails h = not-holds (is_start cs from p) (λ e. h (is_start-start e))

  -- the sixteen pulses before a start
  pub start-shorts : Start cs from p → (i : ℕ) → p ≤ i + 16 → i < p → get_or cs i Noise ≡ Short
  start-shorts s i a b =
      let far = s.far in
      let z : p - 16 + (i - (p - 16)) ≡ i = omega arith in
      let l : i - (p - 16) < 16 = omega arith in
      ap (λ j. get_or cs j Noise) (sym z) ∙ sym (get_d_part cs (p - 16) 16 (i - (p - 16)) Noise l)
      ∙ ap (λ (xs : List Class). get_or xs (i - (p - 16)) Noise) s.shorts ∙ get_or-replicate 16 (i - (p - 16)) Short Noise l

-- ---- The start is the smallest such place

module _ {cs : List Class} {from : ℕ} where
  pub start_of-first : {p : ℕ} → Start cs from p → ((i : ℕ) → i < p → Start cs from i → ⊥) → start_of cs from ≡ Some p
  unfolding start_of
  start_of-first {p} s least =
      let within : p + 20 ≤ length cs = byte_at-within cs p 0x89 s.first in
      first_some (record {
        low = omega arith;
        high = omega arith;
        passes = is_start-holds s;
        least = λ i _ h. is_start-fails (least i h);
      })

  pub start_of-some : {p : ℕ} → start_of cs from ≡ Some p → Start cs from p × ((i : ℕ) → i < p → Start cs from i → ⊥)
  unfolding start_of
  start_of-some {p} e =
      let r = some_first (is_start cs from) (length cs) 0 p e in
      (is_start-start r.passes, λ i h s. (let l = r.least i (omega arith) h in let t = is_start-holds s in let z : ◌≡◌ {A = ℕ} 0 1 = cc in omega arith))

  pub start_of-nowhere : ((p : ℕ) → Start cs from p → ⊥) → start_of cs from ≡ None
  unfolding start_of
  start_of-nowhere h = first-none (is_start cs from) (length cs) 0 (λ i _ _. is_start-fails (h i))

  pub start_of-none : start_of cs from ≡ None → (p : ℕ) → Start cs from p → ⊥
  unfolding start_of
  start_of-none e p s =
      let within : p + 20 ≤ length cs = byte_at-within cs p 0x89 s.first in
      let l = none_first (is_start cs from) (length cs) 0 e p (omega arith) (omega arith) in
      let t = is_start-holds s in
      let z : ◌≡◌ {A = ℕ} 0 1 = cc in
      omega arith

-- a `from` past the strip gives none
pub start_of-past : (cs : List Class) (from : ℕ) → length cs ≤ from → start_of cs from ≡ None
start_of-past cs from h = start_of-nowhere (λ p s. let within = byte_at-within cs p 0x89 s.first in omega (arith, s.far))

-- a start that is found is past `from`, and its byte lies on the strip
pub find_start-within : (cs : List Class) (from p : ℕ) → find_start cs from ≡ accepted p → (from + 16 ≤ p) × (p + 20 ≤ length cs)
unfolding find_start
find_start-within cs from p e =
    let s = (start_of-some {cs = cs} {from = from} (found (start_of cs from) e)).0 in
    (s.far, byte_at-within cs p 0x89 s.first)
  where
    found : (o : Option ℕ) → start_at o ≡ accepted p → o ≡ Some p
    found None q = absurd (let z : ◌≡◌ {A = ℕ} 0 1 = cc in omega arith)
    found (Some r) q = cc

-- ---- Only short pulses between `from` and a good $89

pub shorts-before : (cs : List Class) (p : ℕ) → 16 ≤ p → p ≤ length cs → ((i : ℕ) → p - 16 ≤ i → i < p → get_or cs i Noise ≡ Short)
    → part cs (p - 16) 16 ≡ replicate 16 Short
shorts-before cs p far within short =
    let long : length (part cs (p - 16) 16) ≡ 16 = simp (length-take, length-drop) (omega arith) in
    ext_get_or Noise (part cs (p - 16) 16) (replicate 16 Short) long
    (λ i h. let l : i < 16 = rw long at h in
    get_d_part cs (p - 16) 16 i Noise l ∙ short (p - 16 + i) (omega arith) (omega arith) ∙ sym (get_or-replicate 16 i Short Noise l))

-- then it is the start: no byte begins with a short pulse
pub start_of-short : (cs : List Class) (from p : ℕ) → from + 16 ≤ p → ((i : ℕ) → p - 16 ≤ i → i < p → get_or cs i Noise ≡ Short)
    → ((i : ℕ) → from < i → i < p → get_or cs i Noise ≡ Short) → byte_at cs p ≡ Good 0x89
    → start_of cs from ≡ Some p
start_of-short cs from p far near short first =
    let within : p + 20 ≤ length cs = byte_at-within cs p 0x89 first in
    start_of-first
    (record { far = omega arith; shorts = shorts-before cs p (omega arith) (omega arith) near; first = first })
    (λ i h s. (let bad = rw s.first at (byte_at-short cs i (short i (omega (arith, s.far)) h)) in let z : ◌≡◌ {A = ℕ} 0 1 = cc in omega arith))
