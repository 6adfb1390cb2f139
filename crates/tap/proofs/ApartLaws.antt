-- Counting a group in which each zero byte begins a long form: what the loop over its bytes keeps, and where the last form ends.
use Prim.Native.Nat.{ℕ, ◌+◌, ◌-◌, ◌*◌, ◌≤◌, ◌<◌}
use native.Mathlib.Nat.{add-zero}
use native.Mathlib.Decide.{ℕ_discrete, dec_lt}
use native.Mathlib.Omega.{arith}
use mathlib.Core.Path.{◌≡◌, sym, ◌∙◌}
use mathlib.Core.Bool.{Bool, true, false, not, ◌&&◌, ◌||◌}
use mathlib.Core.List.{List}
use borrow.Author.Tests.{eq-eqb, ne_eqb, not-true, eqb-false}
use lib.Dec.{eqb}
use lib.ListN.{length, get_or}
use mir.Val.{bool_byte}
use Rattle.lists.proofs.BoolLaws.{and-true}
use Rattle.tap.specs.private.Reader.{Counted, Apart, form_end}
use Rattle.tap.proofs.DataLaws.{durations_from-byte, durations_from-long}
use Rattle.tap.proofs.ReaderLaws.{count-step}

pub flag-le : (t : Bool) → bool_byte t ≤ 1
flag-le true = omega arith
flag-le false = omega arith

module _ (bytes : List ℕ) where
  -- ---- Byte by byte

  abbrev is_byte : ℕ → Bool
  is_byte j = not (eqb (get_or bytes j 0) 0)

  abbrev Not0 : ℕ → Type 0
  Not0 j = get_or bytes j 0 ≡ 0 → ⊥

  not0 : (j : ℕ) → is_byte j ≡ true → Not0 j
  not0 j t = eqb-false (get_or bytes j 0) 0 (not-true (eqb (get_or bytes j 0) 0) t)

  module _ (start : ℕ) where
    module _ {i zeros : ℕ} (u : Apart bytes start i zeros) (from : start ≤ i) where
      -- in a long form
      apart-inside : i < u.place → Apart bytes start (i + 1) zeros
      apart-inside h = record {
        place = u.place;
        low = omega arith;
        high = omega (arith, u.high);
        few = u.few;
        counted = u.counted;
        long = λ j a b z. elim (ℕ_discrete j i) [ yes e ↦ absurd (u.clear j (omega arith) (omega arith) z) | no n ↦ u.long j a (omega arith) z ];
        last = λ q. u.last h;
        clear = λ j a b z. u.clear j (omega arith) b z;
      }

      -- where a form begins
      module _ (here : u.place ≡ i) where
        before : (count : ℕ) → Counted bytes start count → Counted bytes i (count + (i - start) - 3 * zeros)
        before count v = rw here at (u.counted count v)

        apart-byte : i < length bytes → Not0 i → Apart bytes start (i + 1) zeros
        apart-byte h n = record {
          place = i + 1;
          low = omega arith;
          high = omega arith;
          few = omega (arith, u.few);
          counted = λ count v.
              let w = count-step bytes (before count v) (durations_from-byte bytes i h n) in
              let e : count + (i - start) - 3 * zeros + 1 ≡ count + (i + 1 - start) - 3 * zeros = omega (arith, u.few) in
              rw e at w;
          long = λ j a b z. elim (ℕ_discrete j i) [ yes e ↦ absurd (n (rw e at z)) | no m ↦ omega (arith, u.long j a (omega arith) z) ];
          last = λ q. absurd (omega arith);
          clear = λ j a b z. omega arith;
        }

        apart-long : i + 4 ≤ length bytes → get_or bytes i 0 ≡ 0 → Not0 (i + 1) → Not0 (i + 2) → Not0 (i + 3) → Apart bytes start (i + 1) (zeros + 1)
        apart-long h z one two three = record {
          place = i + 4;
          low = omega arith;
          high = omega arith;
          few = omega (arith, u.few);
          counted = λ count v.
              let w = count-step bytes (before count v) (durations_from-long bytes i z h) in
              let e : count + (i - start) - 3 * zeros + 1 ≡ count + (i + 4 - start) - 3 * (zeros + 1) = omega (arith, u.few) in
              rw e at w;
          long = λ j a b z. elim (ℕ_discrete j i) [ yes e ↦ omega arith | no m ↦ omega (arith, u.long j a (omega arith) z) ];
          last = λ q. let e : i + 4 - 4 ≡ i = omega arith in (omega arith, rw e z);
          clear = λ j a b y. elim (ℕ_discrete j (i + 1)) [
            | yes e ↦ one (rw e at y)
            | no n ↦ elim (ℕ_discrete j (i + 2)) [ yes e ↦ two (rw e at y) | no m ↦ let e : j ≡ i + 3 = omega arith in three (rw e at y) ]
          ];
        }

      pub apart_next : i + 4 ≤ length bytes → (is_byte i || ((is_byte (i + 1) && is_byte (i + 2)) && is_byte (i + 3))) ≡ true
          → Apart bytes start (i + 1) (zeros + bool_byte (eqb (get_or bytes i 0) 0))
      apart_next h t = elim (ℕ_discrete (get_or bytes i 0) 0) [
        | yes z ↦ elim (dec_lt i u.place) [
          | yes p ↦ absurd (u.clear i (omega arith) p z)
          | no p ↦
              let both = and-true (is_byte (i + 1) && is_byte (i + 2)) (is_byte (i + 3)) (rw (eq-eqb (get_or bytes i 0) 0 z) at t) in
              let two = and-true (is_byte (i + 1)) (is_byte (i + 2)) both.0 in
              rw (eq-eqb (get_or bytes i 0) 0 z) (apart-long (omega (arith, u.low)) h z (not0 (i + 1) two.0) (not0 (i + 2) two.1) (not0 (i + 3) both.1))
        ]
        | no n ↦ elim (dec_lt i u.place) [
          | yes p ↦ rw (ne_eqb (get_or bytes i 0) 0 n, add-zero) (apart-inside p)
          | no p ↦ rw (ne_eqb (get_or bytes i 0) 0 n, add-zero) (apart-byte (omega (arith, u.low)) (omega arith) n)
        ]
      ]

    -- ---- The end of a group

    module _ {end zeros : ℕ} (u : Apart bytes start end zeros) (wide : start + 4 ≤ end) where
      -- no long form ends at a place whose zero byte is not there
      ends-not : (k : ℕ) → k ≤ 3 → Not0 (end - k) → u.place + k ≡ end + 4 → ⊥
      ends-not k h n e = let l = (u.last (omega arith)).1 in let q : u.place - 4 ≡ end - k = omega arith in n (rw q at l)

      place_end : u.place ≡ form_end bytes end
      place_end = elim (ℕ_discrete (get_or bytes (end - 1) 0) 0) [
        | yes z ↦ rw (eq-eqb (get_or bytes (end - 1) 0) 0 z) (omega (arith, u.long (end - 1) (omega arith) (omega arith) z, u.high))
        | no one ↦ rw (ne_eqb (get_or bytes (end - 1) 0) 0 one) (elim (ℕ_discrete (get_or bytes (end - 2) 0) 0) [
          | yes z ↦ rw (eq-eqb (get_or bytes (end - 2) 0) 0 z) (omega (arith, u.long (end - 2) (omega arith) (omega arith) z, u.high, ends-not 1 (omega arith) one))
          | no two ↦ rw (ne_eqb (get_or bytes (end - 2) 0) 0 two) (elim (ℕ_discrete (get_or bytes (end - 3) 0) 0) [
            | yes z ↦ rw (eq-eqb (get_or bytes (end - 3) 0) 0 z) (omega (arith, u.long (end - 3) (omega arith) (omega arith) z, u.high, ends-not 1 (omega arith) one, ends-not 2 (omega arith) two))
            | no three ↦ rw (ne_eqb (get_or bytes (end - 3) 0) 0 three) (omega (arith, u.low, u.high, ends-not 1 (omega arith) one, ends-not 2 (omega arith) two, ends-not 3 (omega arith) three))
          ])
        ])
      ]

      -- the durations up to there
      pub apart-counted : {count : ℕ} → Counted bytes start count → {r : ℕ} → r ≡ form_end bytes end
          → (start < r) × (3 * zeros ≤ r - start) × Counted bytes r (count + (r - start) - 3 * zeros)
      apart-counted {count} v {r} e =
          let p : u.place ≡ r = place_end ∙ sym e in
          let w = u.counted count v in
          (omega (arith, u.low), omega (arith, u.few), rw p at w)
