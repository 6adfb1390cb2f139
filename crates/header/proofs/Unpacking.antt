-- Unpacking and the shown name: what the loop keeps, and what the calls come to.
use Prim.Native.Nat.{ℕ, suc, ◌+◌, ◌-◌, ◌*◌, ◌≤◌, ◌<◌}
use Rattle.std.specs.Prelude.{Option, None, Some, Result, Err, Ok}
use native.Mathlib.Nat.{add-zero}
use native.Mathlib.Numerals.{add-one}
use native.Mathlib.Omega.{arith}
use mathlib.Core.Path.{◌≡◌, refl, sym, ap, ◌∙◌}
use mathlib.Core.List.{List, [], reverse}
use borrow.Author.Tests.{ne_eqb, lt-ltb, le-ltb}
use lib.Dec.{eqb, ltb}
use lib.ListN.{length, take, drop, get_or, length-take, length-drop, length-reverse}
use lib.Seq.{drop-cons, get_or-drop}
use mathlib.Core.Bool.{Bool, not, cond}
use native.Mathlib.Decide.{dec_lt}
use Rattle.std.specs.Option.{unwrap_or}
use Rattle.std.specs.List.{position_or_len}
use Rattle.std.proofs.lemmas.List.{get_or-take}
use Rattle.std.proofs.lemmas.List.Sums.{suffix_len_is}
use Rattle.lists.specs.Text.{from_low}
use Rattle.refusal.specs.declared.Refusal.{Refusal}
use Rattle.refusal.specs.Outcome.{accepted, refused_with, outcome_of}
use Rattle.header.specs.declared.Fields.{Fields}
use Rattle.header.specs.Header.{word_at, unpack_header, shown_count, shown_span, shown_name, shown_place, pointer_at}
use Rattle.header.proofs.HeaderLaws.{unpack_header-long, shown_count-shown}

-- ---- Addresses

-- the two bytes of a word
pub word-bytes : (h : List ℕ) (at : ℕ) → at + 2 ≤ length h → get_or h at 0 + get_or h (at + 1) 0 * 256 ≡ word_at h at
unfolding from_low
word-bytes h at k = rw (add-one, drop-cons h at 0 (omega arith), drop-cons h (suc at) 0 (omega arith)) (omega arith)

-- ---- The shown name

abbrev pub no_space : ℕ → Bool
no_space b = not (eqb b 0x20)

module _ (h : List ℕ) (long : 21 ≤ length h) where
  -- the sixteen bytes of which those are shown that spaces alone do not follow
  abbrev pub most : List ℕ
  most = take 16 (drop 5 h)

  length-most : length most ≡ 16
  length-most = simp (length-take, length-drop) (omega arith)

  most_at : (i : ℕ) → i < 16 → get_or most i 0 ≡ get_or h (5 + i) 0
  most_at i l = get_or-take 16 (drop 5 h) i 0 l ∙ get_or-drop 5 h i 0

  spaces_last : position_or_len no_space (reverse most) ≡ 16 - shown_count h 16
  spaces_last =
      let s = shown_count-shown h 16 in
      suffix_len_is (λ b. not (no_space b)) most (shown_count h 16) 0 (rw length-most s.high)
      (λ k a b. let l : k < 16 = rw length-most at b in rw (most_at k l, s.spaces k a l) refl)
      (λ z. rw (most_at (shown_count h 16 - 1) (omega (arith, s.high)), ne_eqb (get_or h (5 + (shown_count h 16 - 1)) 0) 0x20 (λ q. s.last z (let e : 5 + (shown_count h 16 - 1) ≡ 4 + shown_count h 16 = omega arith in rw e at q))) refl)
      ∙ rw length-most

  spaces-found : (n : ℕ) (p : Option ℕ) → n ≤ 16 → p ≡ cond (ltb n 16) (Some n) None → unwrap_or p 16 ≡ n
  spaces-found n p w e = elim (dec_lt n 16) [
    | yes l ↦ rw (e, lt-ltb n 16 l)
    | no l ↦ rw (e, le-ltb n 16 (omega arith)) (omega arith)
  ]

  -- as many spaces as the search from their end passes, or all, are left out
  pub shown-spaces : {p : Option ℕ} {spaces : ℕ} → p ≡ cond (ltb (position_or_len no_space (reverse most)) (length (reverse most))) (Some (position_or_len no_space (reverse most))) None
      → spaces ≡ unwrap_or p 16 → 16 - spaces ≡ shown_count h 16
  shown-spaces {p} {spaces} e q =
      let s = shown_count-shown h 16 in
      let found = spaces-found (16 - shown_count h 16) p (omega arith) (rw (length-reverse most, length-most, spaces_last) at e) in
      omega (arith, q, found, s.high)

module _ (h : List ℕ) {a : Result Fields Refusal} (e : outcome_of a ≡ unpack_header h) where
  span_none : {r : Refusal} → a ≡ Err r → shown_span h ≡ refused_with r
  unfolding shown_span
  span_none q = rw (← e, q)

  pub shown_name-refused : {r : Refusal} → a ≡ Err r → (p : ℕ × ℕ) → ([] ≡ shown_name h) × (p ≡ pointer_at p (shown_place h))
  unfolding shown_name shown_place
  shown_name-refused q p = rw (span_none q, shown_place) (refl, ap (λ k. (p.0, k)) (sym (add-zero p.1)))

  module _ {f : Fields} (q : a ≡ Ok f) where
    pub shown_name-long : length h ≡ 192
    shown_name-long = unpack_header-long h (sym e ∙ ap outcome_of q)

    span-some : shown_span h ≡ accepted (record { offset = 5; length = shown_count h 16 })
    unfolding shown_span
    span-some = rw (← e, q)

    pub shown_name-accepted : {n : ℕ} → n ≡ shown_count h 16 → (p : ℕ × ℕ) → (take (5 + n - 5) (drop 5 h) ≡ shown_name h) × ((p.0, 5 + p.1) ≡ pointer_at p (shown_place h))
    unfolding shown_name shown_place
    shown_name-accepted {n} s p =
        let z : 5 + n - 5 ≡ n = omega arith in
        let c : 5 + p.1 ≡ p.1 + 5 = omega arith in
        rw (span-some, shown_place) (rw (z, s), ap (λ k. (p.0, k)) c)
