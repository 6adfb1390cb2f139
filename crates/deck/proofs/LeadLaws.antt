-- Laws of the search for the start, pulse by pulse: what is kept is the longest part of the lead that ends the pulses.
use Prim.Native.Nat.{ℕ, zero, suc, ◌+◌, ◌-◌, ◌≤◌, ◌<◌}
use native.Mathlib.Decide.{ℕ_discrete, dec_le, dec_lt}
use native.Mathlib.Omega.{arith}
use mathlib.Core.Path.{◌≡◌, refl, sym, ap, ap₂, ◌∙◌}
use mathlib.Core.Bool.{Bool, true, false, cond}
use mathlib.Core.List.{List, [], ◌∷◌, ◌++◌}
use Rattle.std.specs.Prelude.{None, Some}
use borrow.Author.Tests.{eq-eqb, eqb-true}
use lib.Count.{ones}
use lib.Dec.{lit<, lit≤}
use lib.ListN.{length, take, drop, get_or, replicate, length-append, length-drop, length-replicate, get_or-replicate, get_or-append, get_or-eq_default}
use lib.Seq.{get_or-take, get_or-drop, ext_get_or, get_or-append-add, get_or_at, length-take-le}
use Rattle.lists.specs.Places.{part}
use Rattle.lists.proofs.PartLaws.{get_d_part}
use Rattle.pulse.specs.declared.Class.{Class}
use Rattle.pulse.specs.declared.Class.TheVariants.{Short, Noise}
use Rattle.pulse.specs.Pulse.{code, same}
use Rattle.pulse.proofs.PulseLaws.{same-eq}
use Rattle.byte.specs.Byte.{is_odd, bits, parity_bit, coded, byte_classes}
use Rattle.byte.specs.Damage.{differ}
use Rattle.byte.proofs.CodingLaws.{length-byte}
use Rattle.byte.proofs.ByteLaws.{byte_at-written, byte_at-good, byte_at-within}
use Rattle.byte.proofs.DamageLaws.{differ_self}
use Rattle.start.specs.Start.{Start, start_of}
use Rattle.start.proofs.StartLaws.{start_of-first, start_of-nowhere}
use Rattle.deck.specs.Lead.{lead, ends_with, longest_end, seek}

-- ---- The longest end

-- two lists of one length that do not differ
differ-none : (xs ys : List Class) → length xs ≡ length ys → differ xs ys ≡ 0 → xs ≡ ys
unfolding differ
differ-none [] [] l e = refl
differ-none [] (y ∷ ys) l e = absurd (omega arith)
differ-none (x ∷ xs) [] l e = absurd (omega arith)
differ-none (x ∷ xs) (y ∷ ys) l e = go (differ-none xs ys (omega arith)) (same x y) refl e
  where
    go : (differ xs ys ≡ 0 → xs ≡ ys) → (t : Bool) → same x y ≡ t → cond t 0 1 + differ xs ys ≡ 0 → x ∷ xs ≡ y ∷ ys
    go rest true t e = ap₂ (λ (c : Class) (cs : List Class). c ∷ cs) (same-eq x y t) (rest (omega arith))
    go rest false t e = absurd (omega arith)

pub longest-le : (cs : List Class) (most : ℕ) → longest_end cs most ≤ most
unfolding longest_end
longest-le cs zero = omega arith
longest-le cs (suc m) = go (ends_with cs (suc m)) (longest-le cs m)
  where
    go : (t : Bool) → longest_end cs m ≤ m → cond t (suc m) (longest_end cs m) ≤ suc m
    go true h = omega arith
    go false h = omega arith

longest-ends : (cs : List Class) (most : ℕ) → ends_with cs (longest_end cs most) ≡ true
unfolding longest_end
longest-ends cs zero = unfold ends_with differ in refl
longest-ends cs (suc m) = go (ends_with cs (suc m)) refl (longest-ends cs m)
  where
    go : (t : Bool) → ends_with cs (suc m) ≡ t → ends_with cs (longest_end cs m) ≡ true → ends_with cs (cond t (suc m) (longest_end cs m)) ≡ true
    go true e r = e
    go false e r = r

longest-most : (cs : List Class) (most m : ℕ) → m ≤ most → ends_with cs m ≡ true → m ≤ longest_end cs most
unfolding longest_end
longest-most cs zero m h e = h
longest-most cs (suc most) m h e = go (λ l. longest-most cs most m l e) (ends_with cs (suc most)) refl
  where
    go : (m ≤ most → m ≤ longest_end cs most) → (t : Bool) → ends_with cs (suc most) ≡ t → m ≤ cond t (suc most) (longest_end cs most)
    go r true q = h
    go r false q = elim (ℕ_discrete m (suc most)) [
      | yes d ↦ absurd (let q' = rw d at e in let z : ◌≡◌ {A = ℕ} 0 1 = cc in omega arith)
      | no d ↦ r (omega arith)
    ]

pub length-lead : length lead ≡ 36
unfolding lead
length-lead = rw length-append (ap (λ m. 16 + m) (length-byte 0x89))

-- `matched` pulses of the lead, and one more
abbrev heard : (matched : ℕ) → Class → List Class
heard matched c = take matched lead ++ (c ∷ [])

pub seek-le : (s : ℕ) (c : Class) → seek s c ≤ suc s
unfolding seek
seek-le s c = longest-le (heard s c) (suc s)

module _ (s : ℕ) (c : Class) (h : s < 36) where
  length_part : length (take s lead) ≡ s
  length_part = length-take-le s lead (omega (arith, length-lead))

  length-heard : length (heard s c) ≡ suc s
  length-heard = simp (length-append, length_part) (omega arith)

  length-end : (m : ℕ) → m ≤ suc s → length (take m lead) ≡ length (drop (suc s - m) (heard s c))
  length-end m l = length-take-le m lead (omega (arith, length-lead)) ∙ rw (length-drop, length-heard) (omega arith)

  seek-ends : take (seek s c) lead ≡ drop (suc s - seek s c) (heard s c)
  unfolding seek ends_with
  seek-ends =
      let m = longest_end (heard s c) (suc s) in
      let e = eqb-true (differ (take m lead) (drop (length (heard s c) - m) (heard s c))) 0 (longest-ends (heard s c) (suc s)) in
      differ-none (take m lead) (drop (suc s - m) (heard s c)) (length-end m (seek-le s c)) (rw length-heard at e)

  seek-most : (m : ℕ) → m ≤ suc s → take m lead ≡ drop (suc s - m) (heard s c) → m ≤ seek s c
  unfolding seek ends_with
  seek-most m l e =
      longest-most (heard s c) (suc s) m l (rw (length-heard, ← e) (eq-eqb (differ (take m lead) (take m lead)) 0 (differ_self (take m lead))))

-- ---- One pulse more

-- the strip has the first m pulses of the lead from place o on
abbrev pub At : List Class → ℕ → ℕ → Type 0
At cs o m = (i : ℕ) → i < m → get_or cs (o + i) Noise ≡ get_or lead i Noise

-- s is the largest number of pulses of the lead that end the first k pulses of the strip
pub record Longest (cs : List Class) (k s : ℕ) : Type 0 where
  pub from : ℕ
  pub ends : from + s ≡ k
  pub here : At cs from s
  pub most : (o m : ℕ) → m ≤ 36 → o + m ≡ k → At cs o m → m ≤ s

pub longest-none : (cs : List Class) → Longest cs 0 0
longest-none cs = record { from = 0; ends = refl; here = λ i h. absurd (omega arith); most = λ o m a e t. omega arith }

module _ (cs : List Class) (k s : ℕ) (h : s < 36) (b : Longest cs k s) where
  abbrev c : Class
  c = get_or cs k Noise

  -- the last s + 1 pulses of the strip
  last : (x : ℕ) → x < suc s → get_or cs (b.from + x) Noise ≡ get_or (heard s c) x Noise
  last x l = elim (ℕ_discrete x s) [
    | yes e ↦ rw (e, b.ends, get_or_at (take s lead) c [] Noise s (length_part s c h))
    | no ne ↦ b.here x (omega arith) ∙ sym (get_or-take s lead x Noise (omega arith))
        ∙ sym (get_or-append (take s lead) (c ∷ []) Noise x (rw (length_part s c h) (omega arith)))
  ]

  pub longest-step : Longest cs (suc k) (seek s c)
  longest-step =
      let le = seek-le s c in
      let e₀ = b.ends in
      let d = suc s - seek s c in
      record {
        from = b.from + d;
        ends = omega arith;
        here = λ i l.
            let e : b.from + d + i ≡ b.from + (d + i) = omega arith in
            ap (λ x. get_or cs x Noise) e ∙ last (d + i) (omega arith) ∙ sym (get_or-drop d (heard s c) i Noise)
            ∙ ap (λ (l : List Class). get_or l i Noise) (sym (seek-ends s c h)) ∙ get_or-take (seek s c) lead i Noise l;
        most = λ o m. ends-most o m;
      }
    where
      ends_at : (o m : ℕ) → suc m ≤ 36 → m ≤ s → o + m ≡ k → At cs o (suc m) → take (suc m) lead ≡ drop (suc s - suc m) (heard s c)
      ends_at o m a l e t =
          let e₀ = b.ends in
          let d = suc s - suc m in
          let same_length = length-end s c h (suc m) (omega arith) in
          ext_get_or Noise (take (suc m) lead) (drop d (heard s c)) same_length
          (λ i q. let q' : i < suc m = rw (length-take-le (suc m) lead (rw length-lead a)) at q in
          let z : b.from + (d + i) ≡ o + i = omega arith in
          get_or-take (suc m) lead i Noise q' ∙ sym (t i q') ∙ ap (λ x. get_or cs x Noise) (sym z) ∙ last (d + i) (omega arith)
          ∙ sym (get_or-drop d (heard s c) i Noise))

      ends-most : (o m : ℕ) → m ≤ 36 → o + m ≡ suc k → At cs o m → m ≤ seek s c
      ends-most o zero a e t = omega arith
      ends-most o (suc m) a e t =
          let q = b.most o m (omega arith) (omega arith) (λ i l. t i (omega arith)) in
          seek-most s c h (suc m) (omega arith) (ends_at o m a q (omega arith) t)

-- ---- A start is the whole lead

lead-short : (i : ℕ) → i < 16 → get_or lead i Noise ≡ Short
unfolding lead
lead-short i h = get_or-append (replicate 16 Short) (byte_classes 0x89) Noise i (rw length-replicate h) ∙ get_or-replicate 16 i Short Noise h

lead-byte : (x : ℕ) → get_or lead (16 + x) Noise ≡ get_or (byte_classes 0x89) x Noise
unfolding lead
lead-byte x = get_or-append-add (replicate 16 Short) (byte_classes 0x89) x Noise

-- a part of a list, by its places
part-is : (cs ys : List Class) (o m : ℕ) → length ys ≡ m → o + m ≤ length cs
    → ((i : ℕ) → i < m → get_or cs (o + i) Noise ≡ get_or ys i Noise) → part cs o m ≡ ys
part-is cs ys o m e h f =
    let l : length (part cs o m) ≡ m = length-take-le m (drop o cs) (rw length-drop (omega arith)) in
    ext_get_or Noise (part cs o m) ys (l ∙ sym e) (λ i q. let q' : i < m = rw l at q in get_d_part cs o m i Noise q' ∙ f i q')

part_at : (cs ys : List Class) (o m i : ℕ) → part cs o m ≡ ys → i < m → get_or cs (o + i) Noise ≡ get_or ys i Noise
part_at cs ys o m i e h = sym (get_d_part cs o m i Noise h) ∙ ap (λ (l : List Class). get_or l i Noise) e

-- the lead ends with a medium pulse, so a whole lead lies within the strip
at_long : (cs : List Class) (o : ℕ) → At cs o 36 → o + 36 ≤ length cs
unfolding lead byte_classes bits coded parity_bit is_odd ones
at_long cs o t = elim (dec_le (o + 36) (length cs)) [
  | yes h ↦ h
  | no h ↦ absurd
      (let e = sym (t 35 (lit< tt)) ∙ get_or-eq_default cs Noise {n = o + 35} (omega arith) in
      let z : ◌≡◌ {A = ℕ} 1 3 = ap code e in
      omega arith)
]

pub at-start : (cs : List Class) (o : ℕ) → At cs o 36 → Start cs 0 (o + 16)
at-start cs o t =
    let l = at_long cs o t in
    let e : o + 16 - 16 ≡ o = omega arith in
    record {
      far = omega arith;
      shorts = rw e (part-is cs (replicate 16 Short) o 16 (length-replicate 16 Short) (omega arith)
          (λ i h. t i (omega arith) ∙ lead-short i h ∙ sym (get_or-replicate 16 i Short Noise h)));
      first = byte_at-written cs (o + 16) 0x89 (lit< tt) (part-is cs (byte_classes 0x89) (o + 16) 20 (length-byte 0x89) (omega arith)
          (λ i h. let z : o + 16 + i ≡ o + (16 + i) = omega arith in ap (λ x. get_or cs x Noise) z ∙ t (16 + i) (omega arith) ∙ lead-byte i));
    }

pub start-at : (cs : List Class) (p : ℕ) → Start cs 0 p → At cs (p - 16) 36
start-at cs p s i q =
    let far = s.far in
    elim (dec_lt i 16) [
      | yes a ↦ part_at cs (replicate 16 Short) (p - 16) 16 i s.shorts a ∙ get_or-replicate 16 i Short Noise a ∙ sym (lead-short i a)
      | no a ↦
          (let z : p - 16 + i ≡ p + (i - 16) = omega arith in
          let z' : 16 + (i - 16) ≡ i = omega arith in
          ap (λ x. get_or cs x Noise) z ∙ part_at cs (byte_classes 0x89) p 20 (i - 16) (byte_at-good cs p 0x89 s.first).0 (omega arith)
          ∙ sym (lead-byte (i - 16)) ∙ ap (λ x. get_or lead x Noise) z')
    ]

-- ---- The search as a whole

-- no start has its last pulse among the first k
abbrev pub NoStart : List Class → ℕ → Type 0
NoStart cs k = (p : ℕ) → p + 20 ≤ k → Start cs 0 p → ⊥

-- p is the start
pub record Found (cs : List Class) (p : ℕ) : Type 0 where
  pub start : Start cs 0 p
  pub least : (i : ℕ) → i < p → Start cs 0 i → ⊥

pub none_yet : (cs : List Class) → NoStart cs 0
none_yet cs p h s = omega arith

pub found : (cs : List Class) (k : ℕ) → Longest cs (suc k) 36 → NoStart cs k → Found cs (suc k - 20)
found cs k b f =
    let e₀ = b.ends in
    let e : b.from + 16 ≡ suc k - 20 = omega arith in
    record { start = rw e at (at-start cs b.from b.here); least = λ i h. f i (omega arith) }

pub not_found : (cs : List Class) (k s : ℕ) → s < 36 → Longest cs (suc k) s → NoStart cs k → NoStart cs (suc k)
not_found cs k s h b f p l t = elim (dec_le (p + 20) k) [
  | yes a ↦ f p a t
  | no a ↦ (let far = t.far in let z = b.most (p - 16) 36 (lit≤ tt) (omega arith) (start-at cs p t) in omega arith)
]

-- the start is the one of the reading rule
pub found-start : (cs : List Class) (p : ℕ) → Found cs p → start_of cs 0 ≡ Some p
found-start cs p r = start_of-first r.start r.least

pub never-found : (cs : List Class) → NoStart cs (length cs) → start_of cs 0 ≡ None
never-found cs f = start_of-nowhere (λ p s. f p (byte_at-within cs p 0x89 s.first) s)
