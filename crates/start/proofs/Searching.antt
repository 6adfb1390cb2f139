-- The search for a start: what its loop knows at a place, and what a look for a pulse that is not short tells.
use Prim.Native.Nat.{ℕ, zero, suc, ◌+◌, ◌-◌, ◌≤◌, ◌<◌}
use native.Mathlib.Decide.{dec_lt, ℕ_discrete}
use native.Mathlib.Nat.{add-zero}
use native.Mathlib.Omega.{arith}
use mathlib.Core.Path.{◌≡◌, refl, sym, ap, ◌∙◌}
use mathlib.Core.Bool.{Bool, true, false, not, ◌||◌}
use Rattle.std.proofs.Math.Bool.{or_assoc, or-false}
use mathlib.Core.List.{List}
use Rattle.std.specs.Prelude.{Option, None, Some}
use Rattle.std.specs.Option.{is_some}
use Rattle.std.specs.List.{position_from}
use borrow.Author.Tests.{not-false}
use lib.ListN.{length, take, drop, get_or, length-drop}
use lib.Seq.{get_or-drop, take_all}
use Rattle.std.proofs.lemmas.List.{get_or-take, length-take-le}
use Rattle.lists.specs.Places.{first_from, First}
use Rattle.lists.proofs.LoopLaws.{first_left, first-passed, first-here, first-over}
use Rattle.lists.proofs.PlaceLaws.{none_first, some_first, position-first, shifted, position-shifted}
use Rattle.pulse.specs.declared.Thresholds.{Thresholds}
use Rattle.pulse.specs.declared.Class.{Class}
use Rattle.pulse.specs.declared.Class.TheVariants.{Short, Noise}
use Rattle.pulse.specs.Pulse.{class_of, classes, same}
use Rattle.pulse.proofs.PulseLaws.{class-at, same-eq}
use Rattle.byte.specs.Byte.{byte_at, is_good}
use Rattle.byte.proofs.ByteLaws.{is_good-true, byte_at-short, byte_at-within}
use Rattle.start.specs.Start.{Start, start_of}
use Rattle.start.specs.private.Search.{not_short, last_from}
use Rattle.start.proofs.StartLaws.{start_of-first, start_of-nowhere, start-shorts, shorts-before}

-- ---- last_from

module _ (f : ℕ → Bool) (at : ℕ) where
  -- a loop downwards
  pub last-passed : (count : ℕ) → 0 < count → f (at + (count - 1)) ≡ false → last_from f (count - 1) at ≡ last_from f count at
  unfolding last_from
  last-passed zero h e = absurd (omega arith)
  last-passed (suc count) h e = let z : suc count - 1 ≡ count = omega arith in rw (z, rw z at e)

  pub last-here : (count : ℕ) → 0 < count → f (at + (count - 1)) ≡ true → last_from f count at ≡ Some (at + (count - 1))
  unfolding last_from
  last-here zero h e = absurd (omega arith)
  last-here (suc count) h e = let z : suc count - 1 ≡ count = omega arith in rw (z, rw z at e)

  pub last-over : (count : ℕ) → count ≤ 0 → last_from f count at ≡ None
  unfolding last_from
  last-over zero h = refl
  last-over (suc count) h = absurd (omega arith)

  -- what is found is one of these numbers, and passes
  pub some-last : (count p : ℕ) → last_from f count at ≡ Some p → (at ≤ p) × (p < at + count) × (f p ≡ true)
  unfolding last_from
  some-last zero p e = absurd (let z : ◌≡◌ {A = ℕ} 0 1 = cc in omega arith)
  some-last (suc count) p e = go (some-last count p) (f (at + count)) refl
    where
      go : (last_from f count at ≡ Some p → (at ≤ p) × (p < at + count) × (f p ≡ true)) → (t : Bool) → f (at + count) ≡ t
          → (at ≤ p) × (p < at + suc count) × (f p ≡ true)
      go earlier true t = let z : at + count ≡ p = (let e' = rw t at e in cc) in (omega arith, omega arith, rw (← z) t)
      go earlier false t = let r = earlier (rw t at e) in (omega arith, omega arith, r.2)

  -- where none is found, none passes
  none_last : (count : ℕ) → last_from f count at ≡ None → (i : ℕ) → at ≤ i → i < at + count → f i ≡ false
  unfolding last_from
  none_last zero e i a b = absurd (omega arith)
  none_last (suc count) e i a b = go (λ e'. none_last count e' i a) (f (at + count)) refl (ℕ_discrete (at + count) i)
    where
      go : (last_from f count at ≡ None → i < at + count → f i ≡ false) → (t : Bool) → f (at + count) ≡ t → Dec (at + count ≡ i) → f i ≡ false
      go r true t d = absurd (let z : ◌≡◌ {A = ℕ} 0 1 = (let e' = rw t at e in cc) in omega arith)
      go r false t (yes d) = rw (← d) t
      go r false t (no d) = r (rw t at e) (omega arith)

-- ---- not_short

pub not-short-at : (t : Thresholds) (strip : List ℕ) (i : ℕ) → i < length strip → not_short (classes t strip) i ≡ not (same (class_of t (get_or strip i 0)) Short)
not-short-at t strip i h = ap (λ c. not (same c Short)) (class-at t strip i h)

-- ---- Short pulses that are passed

module _ (f : ℕ → Bool) (n : ℕ) where
  -- a test of them all, from place i on
  pub other-next : (other : Bool) (i : ℕ) → i < n → (other || is_some (first_left f n i)) ≡ is_some (first_from f n 0) → ((other || f i) || is_some (first_left f n (i + 1))) ≡ is_some (first_from f n 0)
  other-next other i h e = or_assoc other (f i) (is_some (first_left f n (i + 1))) ∙ ap (λ x. other || x) (go (f i) refl) ∙ e
    where
      go : (t : Bool) → f i ≡ t → (t || is_some (first_left f n (i + 1))) ≡ is_some (first_left f n i)
      go true q = ap is_some (sym (first-here f n i h q))
      go false q = ap is_some (first-passed f n i h q)

  pub other-done : (other : Bool) (i : ℕ) → n ≤ i → (other || is_some (first_left f n i)) ≡ is_some (first_from f n 0) → other ≡ is_some (first_from f n 0)
  other-done other i h e = sym (or-false other) ∙ ap (λ o. other || is_some o) (sym (first-over f n i h)) ∙ e

  -- a search from i on, where the k places from there fail, and one after them
  pub skipped : (k i : ℕ) → i + k ≤ n → ((j : ℕ) → j < k → f (i + j) ≡ false) → first_left f n (i + k) ≡ first_left f n i
  skipped zero i h a = ap (first_left f n) (add-zero i)
  skipped (suc k) i h a =
      ap (first_left f n) (let z : i + suc k ≡ i + 1 + k = omega arith in z)
      ∙ skipped k (i + 1) (omega arith) (λ j b. ap f (let z : i + 1 + j ≡ i + suc j = omega arith in z) ∙ a (suc j) (omega arith))
      ∙ first-passed f n i (omega arith) (ap f (sym (add-zero i)) ∙ a 0 (omega arith))

not_some : (o : Option ℕ) → is_some o ≡ false → o ≡ None
not_some None e = refl
not_some (Some i) e = absurd (let z : ◌≡◌ {A = ℕ} 0 1 = cc in omega arith)

-- a part of a strip with no other pulse is passed
pub part-passed : (t : Thresholds) (strip : List ℕ) (i k : ℕ) → i + k ≤ length strip → {part : List ℕ} → part ≡ take (i + k - i) (drop i strip)
    → is_some (first_from (not_short (classes t part)) (length part) 0) ≡ false
    → first_left (not_short (classes t strip)) (length strip) (i + k) ≡ first_left (not_short (classes t strip)) (length strip) i
part-passed t strip i k h {part} given s =
    let e : part ≡ take k (drop i strip) = given ∙ ap (λ n. take n (drop i strip)) (let z : i + k - i ≡ k = omega arith in z) in
    let size : length part ≡ k = ap length e ∙ length-take-le k (drop i strip) (omega (arith, length-drop i strip)) in
    let none = none_first (not_short (classes t part)) (length part) 0 (not_some (first_from (not_short (classes t part)) (length part) 0) s) in
    skipped (not_short (classes t strip)) (length strip) k i h (λ j b.
    not-short-at t strip (i + j) (omega (arith, b, h))
    ∙ ap (λ x. not (same (class_of t x) Short)) (sym (get_or-drop i strip j 0) ∙ sym (get_or-take k (drop i strip) j 0 b) ∙ ap (λ xs. get_or xs j 0) (sym e))
    ∙ sym (not-short-at t part j (omega (arith, size, b)))
    ∙ none j (omega arith) (omega (arith, size, b)))

-- the search through the rest of a strip
module _ (t : Thresholds) (strip : List ℕ) (at : ℕ) where
  abbrev pub other : ℕ → Bool
  other pulse = not (same (class_of t pulse) Short)

  first-in_rest : position_from other at (drop at strip) ≡ first_from (not_short (classes t strip)) (length strip - at) at
  first-in_rest =
      position-first other (not_short (classes t strip)) 0 (drop at strip) at (λ k b.
      let within : at + k < length strip = omega (arith, b, length-drop at strip) in
      ap other (get_or-drop at strip k 0) ∙ sym (not-short-at t strip (at + k) within))
      ∙ ap (λ n. first_from (not_short (classes t strip)) n at) (length-drop at strip)

  pub rest-whole : {rest : List ℕ} → rest ≡ take (length strip - at) (drop at strip) → rest ≡ drop at strip
  rest-whole e = e ∙ take_all (length strip - at) (drop at strip) (omega (arith, length-drop at strip))

  pub rest-none : position_from other 0 (drop at strip) ≡ None → None ≡ first_from (not_short (classes t strip)) (length strip - at) at
  rest-none e = sym (ap (shifted at) e) ∙ sym (position-shifted other (drop at strip) at) ∙ first-in_rest

  pub rest-some : {i : ℕ} → position_from other 0 (drop at strip) ≡ Some i → Some (at + i) ≡ first_from (not_short (classes t strip)) (length strip - at) at
  rest-some e = sym (ap (shifted at) e) ∙ sym (position-shifted other (drop at strip) at) ∙ first-in_rest

module _ (cs : List Class) (i : ℕ) where
  is-short : not_short cs i ≡ false → get_or cs i Noise ≡ Short
  is-short e = same-eq (get_or cs i Noise) Short (not-false (same (get_or cs i Noise) Short) e)

  -- the sixteen places after a pulse that is not short
  ruled_out : not_short cs i ≡ true → {from p : ℕ} → i < p → p ≤ i + 16 → Start cs from p → ⊥
  unfolding same
  ruled_out e a b s = let e' = rw (start-shorts s i b a) at e in let z : ◌≡◌ {A = ℕ} 0 1 = cc in omega arith

-- ---- The loop

-- At `at`: no place below at + 16 is a start.
pub record Searching (cs : List Class) (from at : ℕ) : Type 0 where
  pub low : from ≤ at
  pub passed : (p : ℕ) → p < at + 16 → Start cs from p → ⊥

module _ {cs : List Class} {from at : ℕ} (u : Searching cs from at) where
  -- fewer than sixteen pulses are left
  pub find_start-fewer : length cs < at + 16 → None ≡ start_of cs from
  find_start-fewer h = sym (start_of-nowhere (λ p s. u.passed p (omega (arith, byte_at-within cs p 0x89 s.first)) s))

  -- on just after a pulse that is not short
  searching-past : (i : ℕ) → at ≤ i → not_short cs i ≡ true → ((p : ℕ) → p ≤ i → Start cs from p → ⊥) → Searching cs from (i + 1)
  searching-past i l e h = record {
    low = omega (arith, u.low);
    passed = λ p b s. elim (dec_lt i p) [
      | yes a ↦ ruled_out cs i e a (omega arith) s
      | no a ↦ h p (omega arith) s
    ];
  }

  -- one of the sixteen is not short
  pub searching-not_short : {i : ℕ} → last_from (not_short cs) 16 at ≡ Some i → Searching cs from (i + 1)
  searching-not_short {i} e =
      let r = some-last (not_short cs) at 16 i e in
      searching-past i r.0 r.2 (λ p b s. u.passed p (omega arith) s)

  -- a run of short pulses after them: no byte begins with one
  run-over : {end : ℕ} → ((i : ℕ) → at + 16 ≤ i → i < end → not_short cs i ≡ false) → (p : ℕ) → p < end → Start cs from p → ⊥
  run-over h p b s = elim (dec_lt p (at + 16)) [
    | yes a ↦ u.passed p a s
    | no a ↦ let bad = rw s.first at (byte_at-short cs p (is-short cs p (h p (omega arith) b))) in let z : ◌≡◌ {A = ℕ} 0 1 = cc in omega arith
  ]

  module _ (count : ℕ) where
    -- it lasts to the end of the strip
    pub find_start-run_lasts : length cs ≤ at + 16 + count → first_from (not_short cs) count (at + 16) ≡ None → None ≡ start_of cs from
    find_start-run_lasts long e = sym (start_of-nowhere (λ p s. run-over (none_first (not_short cs) count (at + 16) e) p (omega (arith, byte_at-within cs p 0x89 s.first)) s))

    -- it ends
    module _ {end : ℕ} (e : first_from (not_short cs) count (at + 16) ≡ Some end) where
      run_ends : First (not_short cs) count (at + 16) end
      run_ends = some_first (not_short cs) count (at + 16) end e

      -- where fewer than twenty pulses are left
      pub find_start-cut_short : length cs < end + 20 → None ≡ start_of cs from
      find_start-cut_short h = sym (start_of-nowhere (λ p s. run-over run_ends.least p (omega (arith, byte_at-within cs p 0x89 s.first)) s))

      pub searching-other_byte : is_good 0x89 (byte_at cs end) ≡ false → Searching cs from (end + 1)
      searching-other_byte b = searching-past end (omega (arith, run_ends.low)) run_ends.passes (λ p h s. elim (ℕ_discrete p end) [
        | yes q ↦ let b' = rw (← q, s.first) at b in let z : ◌≡◌ {A = ℕ} 0 1 = cc in omega arith
        | no q ↦ run-over run_ends.least p (omega arith) s
      ])

      pub find_start-found : last_from (not_short cs) 16 at ≡ None → is_good 0x89 (byte_at cs end) ≡ true → Some end ≡ start_of cs from
      find_start-found all b =
          let good = is_good-true 0x89 (byte_at cs end) b in
          let within = byte_at-within cs end 0x89 good in
          let far : at + 16 ≤ end = run_ends.low in
          let first = none_last (not_short cs) at 16 all in
          let short : (i : ℕ) → at ≤ i → i < end → get_or cs i Noise ≡ Short =
          λ i l h. is-short cs i (elim (dec_lt i (at + 16)) [ yes a ↦ first i l a | no a ↦ run_ends.least i (omega arith) h ]) in
          sym (start_of-first (record {
            far = omega (arith, u.low);
            shorts = shorts-before cs end (omega arith) (omega arith) (λ i l h. short i (omega arith) h);
            first = good;
          }) (run-over run_ends.least))
