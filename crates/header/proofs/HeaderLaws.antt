-- Laws of headers: how long they are, that unpacking undoes packing, and the shown name in words.
use Prim.Native.Nat.{ℕ, zero, suc, ◌+◌, ◌-◌, ◌/◌, ◌%◌, ◌≤◌, ◌<◌}
use native.Mathlib.Nat.{zero-add}
use native.Mathlib.Decide.{dec_lt, ℕ_discrete}
use native.Mathlib.Omega.{arith}
use mathlib.Core.Path.{◌≡◌, refl, sym, ap, ◌∙◌}
use mathlib.Core.Bool.{Bool, true, false, cond, not}
use mathlib.Core.List.{List, [], ◌∷◌, ◌++◌}
use borrow.Author.Tests.{eqb-true, eqb-false, not-false}
use lib.Dec.{eqb, lit<}
use lib.ListN.{length, get_or, replicate, length-take, length-drop, length-append, length-replicate, get_or-replicate, get_or-append, get_or-eq_default}
use lib.Seq.{ext_get_or, get_or-append-add, take_all}
use Rattle.lists.specs.Places.{part, Below}
use Rattle.lists.specs.Text.{from_low, low_first}
use Rattle.lists.proofs.PlaceLaws.{length-tabulate, get_d_tabulate, get_or-within}
use Rattle.refusal.specs.declared.Reason.TheVariants.{WrongSize}
use Rattle.refusal.specs.Refusal.{refusal_at}
use Rattle.refusal.specs.Outcome.{Outcome, refused, accepted, mapped}
use Rattle.refusal.proofs.OutcomeLaws.{cond-accepted}
use Rattle.header.specs.declared.Fields.{Fields}
use Rattle.header.specs.Header.{filled, header_bytes, fields_of, unpack_header, shown_count, shown_span, handed, shown_name}

-- ---- filled

module _ (name : List ℕ) where
  pub length-filled : length (filled name) ≡ 187
  unfolding filled
  length-filled = length-tabulate (λ i. get_or name i 0x20) 187 0

  filled_at : (i : ℕ) → i < 187 → get_or (filled name) i 0 ≡ get_or name i 0x20
  unfolding filled
  filled_at i h = get_d_tabulate (λ j. get_or name j 0x20) 187 0 i h ∙ rw zero-add

  spaces-past : (i : ℕ) → length name ≤ i → i < 187 → get_or (name ++ replicate (187 - length name) 0x20) i 0 ≡ 0x20
  spaces-past i a b =
      let e : length name + (i - length name) ≡ i = omega arith in
      rw (← e) (get_or-append-add name (replicate (187 - length name) 0x20) (i - length name) 0 ∙ get_or-replicate (187 - length name) (i - length name) 0x20 0 (omega arith))

  -- the name, and $20 in all places after it
  pub filled-name : length name ≤ 187 → filled name ≡ name ++ replicate (187 - length name) 0x20
  filled-name fits =
      let spaces : List ℕ = replicate (187 - length name) 0x20 in
      let long : length (name ++ spaces) ≡ 187 = simp (length-append, length-replicate) (omega arith) in
      ext_get_or 0 (filled name) (name ++ spaces) (length-filled ∙ sym long)
      (λ i h. let l : i < 187 = rw length-filled at h in
      filled_at i l ∙ elim (dec_lt i (length name)) [
        | yes m ↦ get_or-within name i 0x20 0 m ∙ sym (get_or-append name spaces 0 i m)
        | no m ↦ get_or-eq_default name 0x20 (omega arith) ∙ sym (spaces-past i (omega arith) l)
      ])

  pub below-filled : Below 256 name → Below 256 (filled name)
  below-filled below i = elim (dec_lt i 187) [
    | yes h ↦ rw (filled_at i h) (elim (dec_lt i (length name)) [
      | yes m ↦ rw (get_or-within name i 0x20 0 m) (below i)
      | no m ↦ rw (get_or-eq_default name 0x20 {n = i} (omega arith)) (lit< tt)
    ])
    | no h ↦ rw (get_or-eq_default (filled name) 0 {n = i} (rw length-filled (omega arith))) (lit< tt)
  ]

-- ---- header_bytes

word_back : (w : ℕ) → w < 65536 → from_low (w % 256 ∷ w / 256 % 256 ∷ []) ≡ w
unfolding from_low
word_back w h = omega arith

module _ (f : Fields) (name : List ℕ) where
  pub length-header : length (header_bytes f name) ≡ 192
  unfolding header_bytes low_first
  length-header = ap (λ n. suc (suc (suc (suc (suc n))))) (length-filled name)

  -- unpacking undoes packing
  pub fields-header : f.start < 65536 → f.end < 65536 → fields_of (header_bytes f name) ≡ f
  unfolding fields_of header_bytes low_first
  fields-header start end = rw (word_back f.start start, word_back f.end end)

  -- bytes 5 to 191 are the name, filled
  pub header-name : part (header_bytes f name) 5 187 ≡ filled name
  unfolding header_bytes low_first
  header-name = take_all 187 (filled name) (omega (arith, length-filled name))

  pub below-header : f.kind < 256 → Below 256 name → Below 256 (header_bytes f name)
  unfolding header_bytes low_first
  below-header kind below zero = kind
  below-header kind below (suc zero) = omega arith
  below-header kind below (suc (suc zero)) = omega arith
  below-header kind below (suc (suc (suc zero))) = omega arith
  below-header kind below (suc (suc (suc (suc zero)))) = omega arith
  below-header kind below (suc (suc (suc (suc (suc i))))) = below-filled name below i

-- ---- unpack_header

pub unpack_header-long : (header : List ℕ) {f : Fields} → unpack_header header ≡ accepted f → length header ≡ 192
unfolding unpack_header
unpack_header-long h {f} e =
    let whole = eqb (length h) 192 in
    eqb-true (length h) 192 (not-false whole (cond-accepted (not whole) (refusal_at WrongSize 0) _ f e).0)

-- ---- shown_count

-- n of the first `most` bytes of the name are shown: the last of them is no space, and those after them all are
pub record Shown (header : List ℕ) (most n : ℕ) : Type 0 where
  pub high : n ≤ most
  pub last : 0 < n → get_or header (4 + n) 0 ≡ 0x20 → ⊥
  pub spaces : (i : ℕ) → n ≤ i → i < most → get_or header (5 + i) 0 ≡ 0x20

pub shown_count-shown : (header : List ℕ) (most : ℕ) → Shown header most (shown_count header most)
unfolding shown_count
shown_count-shown h zero = record { high = omega arith; last = λ z. absurd (omega arith); spaces = λ i a b. absurd (omega arith) }
shown_count-shown h (suc n) = go (eqb (get_or h (5 + n) 0) 0x20) refl (shown_count-shown h n)
  where
    go : (t : Bool) → eqb (get_or h (5 + n) 0) 0x20 ≡ t → Shown h n (shown_count h n) → Shown h (suc n) (cond t (shown_count h n) (suc n))
    go true e r = record {
      high = omega arith;
      last = r.last;
      spaces = λ i a b. elim (ℕ_discrete i n) [ yes q ↦ rw q (eqb-true (get_or h (5 + n) 0) 0x20 e) | no q ↦ r.spaces i a (omega arith) ];
    }
    go false e r = record {
      high = omega arith;
      last = λ z q. eqb-false (get_or h (5 + n) 0) 0x20 e (ap (λ i. get_or h i 0) (let z : 5 + n ≡ 4 + suc n = omega arith in z) ∙ q);
      spaces = λ i a b. absurd (omega arith);
    }

-- ---- shown_name

-- where unpacking accepts, it is as long as its span says
pub length-shown : (header : List ℕ) {f : Fields} → unpack_header header ≡ accepted f → length (shown_name header) ≡ shown_count header 16
unfolding shown_name shown_span
length-shown h e =
    let long = unpack_header-long h e in
    let most = (shown_count-shown h 16).high in
    rw e (simp (length-take, length-drop) (omega arith))

-- at most sixteen bytes
pub shown_name-width : (header : List ℕ) → length (shown_name header) ≤ 16
unfolding shown_name shown_span
shown_name-width h = rw length-take (let most = go (unpack_header h) in omega arith)
  where
    go : (o : Outcome Fields) → (handed (mapped (λ _. record { offset = 5; length = shown_count h 16 }) o)).length ≤ 16
    go (refused why) = omega arith
    go (accepted fields) = (shown_count-shown h 16).high
