-- Why a byte is bad: the proof of the claims in the specs' `Cause`.
use Rattle.std.proofs.Common.{◌≡◌, ℕ, ◌+◌, ◌*◌, ◌/◌, ◌<◌, ◌≤◌, Bool, true, false, cond, not, ◌⊎◌, List, length, take, sym, refl, ap, ◌∙◌, ap₂, inl, inr, add_comm, arith, length-take, get_or-take}
use native.Mathlib.Decide.{dec_le}
use Rattle.std.specs.Prelude.{Option, None, Some}
use lib.Count.{ones}
use Rattle.lists.specs.Places.{first_from, First, count_below, tabulate}
use Rattle.lists.proofs.PlaceLaws.{some_first, first_some, none_first, first-none}
use Rattle.pulse.specs.declared.Class.{Class}
use Rattle.pulse.specs.declared.Class.TheVariants.{Noise}
use Rattle.byte.specs.declared.ByteRead.TheVariants.{Good, Bad}
use Rattle.byte.specs.Byte.{is_odd, byte_classes, pair_of, is_sound, pair_at, nth_pair, nth_bit, wrong_pair, value_of, byte_of}
use Rattle.byte.specs.Cause.{WrongFirst, NoneWrong, ones_among, WhyBad}
use Rattle.byte.proofs.CodingLaws.{ones_value}
use Rattle.byte.proofs.ByteLaws.{byte_of-written, good-sound}
use Rattle.byte.proofs.CauseLaws.{wrong-past}

-- ---- What twenty pulses are

module _ (ys : List Class) where
  abbrev value : ℕ
  value = value_of (tabulate (nth_bit ys) 8 1)

  -- the ones of the value and of the parity bit are the ones among the nine bits
  ones-nine : ones value + nth_bit ys 9 ≡ ones_among ys
  unfolding count_below
  ones-nine =
      ap (λ n. n + nth_bit ys 9) (ones_value (λ i. (nth_pair ys i).one) 8 1)
      ∙ add_comm (count_below (λ i. (nth_pair ys (1 + i)).one) 8) (nth_bit ys 9)

  -- where no pair is wrong the number of ones tells
  byte-ones : NoneWrong ys → byte_of ys ≡ cond (is_odd (ones_among ys)) (Good value) (Bad 10)
  unfolding byte_of
  byte-ones h = rw (first-none (wrong_pair ys) 10 0 (λ i a b. h i (omega arith)), ← ones-nine)

  -- the first wrong pair is the cause
  byte_pair : (i : ℕ) → i < 10 → WrongFirst ys i → byte_of ys ≡ Bad i
  unfolding byte_of
  byte_pair i h w =
      let f : First (wrong_pair ys) 10 0 i = record { low = omega arith; high = omega arith; passes = w.0; least = λ j a b. w.1 j b } in
      rw (first_some f)

  -- no pair is wrong, or one is the first
  none-or-first : NoneWrong ys ⊎ ((i : ℕ) × (i < 10) × WrongFirst ys i)
  none-or-first = go (first_from (wrong_pair ys) 10 0) refl
    where
      go : (o : Option ℕ) → first_from (wrong_pair ys) 10 0 ≡ o → NoneWrong ys ⊎ ((i : ℕ) × (i < 10) × WrongFirst ys i)
      go None e = inl (λ j h. none_first (wrong_pair ys) 10 0 e j (omega arith) (omega arith))
      go (Some i) e =
          let f = some_first (wrong_pair ys) 10 0 i e in
          inr (i, omega arith, (f.passes, λ j h. f.least j (omega arith) h))

-- ---- What is bad, and what is good

odd-bad : (odd : Bool) (v c : ℕ) → cond odd (Good v) (Bad 10) ≡ Bad c → (c ≡ 10) × (odd ≡ false)
odd-bad true v c e = absurd (let z : ◌≡◌ {A = ℕ} 0 1 = cc in omega arith)
odd-bad false v c e = (cc, refl)

odd-good : (odd : Bool) (v w : ℕ) → cond odd (Good v) (Bad 10) ≡ Good w → odd ≡ true
odd-good true v w e = refl
odd-good false v w e = absurd (let z : ◌≡◌ {A = ℕ} 0 1 = cc in omega arith)

-- a cause is the first wrong pair, or 10 with no wrong pair and an even number of ones
bad-cause : (ys : List Class) (c : ℕ) → byte_of ys ≡ Bad c
    → ((c < 10) × WrongFirst ys c) ⊎ ((c ≡ 10) × NoneWrong ys × (is_odd (ones_among ys) ≡ false))
bad-cause ys c e = elim (none-or-first ys) [
  | inl n ↦ (let h = odd-bad (is_odd (ones_among ys)) (value ys) c (sym (byte-ones ys n) ∙ e) in inr (h.0, n, h.1))
  | inr f ↦ (let q : f.0 ≡ c = (let p = byte_pair ys f.0 f.1 f.2 in cc) in inl (rw q at f.1, rw q at f.2))
]

good-odd : (ys : List Class) (v : ℕ) → byte_of ys ≡ Good v → NoneWrong ys × (is_odd (ones_among ys) ≡ true)
good-odd ys v e = elim (none-or-first ys) [
  | inl n ↦ (n, odd-good (is_odd (ones_among ys)) (value ys) v (sym (byte-ones ys n) ∙ e))
  | inr f ↦ absurd (let p = byte_pair ys f.0 f.1 f.2 in let z : ◌≡◌ {A = ℕ} 0 1 = cc in omega arith)
]

-- ---- Fewer than twenty pulses

-- the pair that the end cuts is wrong
cut-wrong : (ys : List Class) → wrong_pair ys (length ys / 2) ≡ true
cut-wrong ys = sym (wrong-past ys (length ys / 2) (omega arith))

-- so none past it is the first
cut-cause : (ys : List Class) → length ys < 20 → (cause : ℕ) × (byte_of ys ≡ Bad cause) × (cause ≤ length ys / 2)
cut-cause ys l = elim (none-or-first ys) [
  | inl n ↦ absurd (let w = cut-wrong ys in let r = n (length ys / 2) (omega arith) in let z : ◌≡◌ {A = ℕ} 0 1 = cc in omega arith)
  | inr f ↦ (f.0, byte_pair ys f.0 f.1 f.2, low f.0 f.2)
]
  where
    low : (i : ℕ) → WrongFirst ys i → i ≤ length ys / 2
    low i f = elim (dec_le i (length ys / 2)) [
      | yes h ↦ h
      | no h ↦ absurd (let w = cut-wrong ys in let r = f.1 (length ys / 2) (omega arith) in let z : ◌≡◌ {A = ℕ} 0 1 = cc in omega arith)
    ]

-- a pair that lies before a cut stays as it is
pair-take : (ys : List Class) (k j : ℕ) → 2 * j + 1 < k → nth_pair (take k ys) j ≡ nth_pair ys j
unfolding pair_at
pair-take ys k j h = ap₂ pair_of (get_or-take k ys (2 * j) Noise (omega arith)) (get_or-take k ys (2 * j + 1) Noise h)

written-cut : (b k : ℕ) → b < 256 → k < 20 → byte_of (take k (byte_classes b)) ≡ Bad (k / 2)
written-cut b k h l =
    byte_pair (take k (byte_classes b)) (k / 2) (omega arith)
    (sym (wrong-past (take k (byte_classes b)) (k / 2) (simp length-take (omega arith))), whole)
  where
    whole : (j : ℕ) → j < k / 2 → wrong_pair (take k (byte_classes b)) j ≡ false
    whole j s =
        ap (λ p. not (is_sound j p)) (pair-take (byte_classes b) k j (omega arith))
        ∙ ap not (good-sound (byte_classes b) b (byte_of-written b h) j (omega arith))

-- ---- The theorem

pub why-bad : WhyBad
why-bad = record {
  pair = byte_pair;
  first = λ ys i h e. elim (bad-cause ys i e) [ inl f ↦ f.1 | inr n ↦ absurd (omega arith) ];
  even = λ ys n e. byte-ones ys n ∙ rw e;
  ones = λ ys e. elim (bad-cause ys 10 e) [ inl f ↦ absurd (omega arith) | inr n ↦ (n.1, n.2) ];
  most = λ ys c e. elim (bad-cause ys c e) [ inl f ↦ omega arith | inr n ↦ omega arith ];
  odd = λ ys n e. (value ys, byte-ones ys n ∙ rw e);
  good = good-odd;
  cut = cut-cause;
  written = written-cut;
}
