-- Laws of a frame that is read at once: what the word says of the pairs is what their classes say.
use Rattle.std.proofs.Common.{◌≡◌, ℕ, zero, suc, ◌+◌, ◌-◌, ◌*◌, ◌/◌, ◌%◌, ◌^◌, ◌<◌, ◌≤◌, max, Bool, true, false, cond, not, ◌&&◌, ◌||◌, eqb, ltb, leb, List, [], ◌∷◌, map, length, get_or, sym, refl, ap, ◌∙◌, ap₂, pow-suc, arith, lit<, lit≤, pow_pos, pow_mono, pow-add, shl_lt, shl_exact, le-ltb, lt-ltb, eq-eqb, ne_eqb, eqb-true}
use native.Mathlib.Decide.{ℕ_discrete, dec_lt}
use Rattle.std.specs.Prelude.{Option, None, Some}
use mir.Val.{bool_byte}
use borrow.Author.Tests.{not-true, not-false}
use lib.Bits.{bit_or, or_block, or_zero_r, or_shifted_r}
use lib.Count.{ones}
use lib.ListN.{length-map}
use Rattle.lists.specs.Places.{first_from, tabulate}
use Rattle.lists.proofs.BoolLaws.{leb-not, or-false, and-true}
use Rattle.lists.proofs.PlaceLaws.{first-none, tabulate-same}
use Rattle.pulse.specs.declared.Cycles.{Cycles}
use Rattle.pulse.specs.declared.Thresholds.{Thresholds}
use Rattle.pulse.specs.declared.Class.{Class}
use Rattle.pulse.specs.declared.Class.TheVariants.{Short, Medium, Long, Noise}
use Rattle.pulse.specs.Pulse.{cycles, class_of, classes, same}
use Rattle.byte.specs.declared.decoder.Bounds.{Bounds}
use Rattle.byte.specs.declared.ByteRead.{ByteRead}
use Rattle.byte.specs.declared.ByteRead.TheVariants.{Good, Bad}
use Rattle.byte.specs.Byte.{Pair, is_odd, pair_of, bit_of, is_sound, pair_at, nth_pair, nth_bit, wrong_pair, value_of, checked, byte_of, value_in, read_frame}
use Rattle.byte.specs.private.Frame.{bounds_of, distance_of, class_in, closed}
use Rattle.byte.proofs.CodingLaws.{value-next, value-lt}
use Rattle.byte.proofs.PairLaws.{flag-lt, flag-number}
use Rattle.byte.proofs.ByteLaws.{good-parts, good-sound}

-- ---- Classes by distances

-- the larger one of two numbers, in words
record Larger (x y z : ℕ) : Type 0 where
  pub left : x ≤ z
  pub right : y ≤ z
  pub least : (w : ℕ) → x ≤ w → y ≤ w → z ≤ w

larger-is : (x y : ℕ) → Larger x y (cond (ltb x y) y x)
larger-is x y = elim (dec_lt x y) [
  | yes h ↦ rw (lt-ltb x y h) (record { left = omega arith; right = omega arith; least = λ w a b. omega arith })
  | no h ↦ rw (le-ltb x y (omega arith)) (record { left = omega arith; right = omega arith; least = λ w a b. omega arith })
]

-- thresholds that are counts of cycles
pub record Small (t : Thresholds) : Type 0 where
  pub short : t.short.0 < 2 ^ 32
  pub medium : t.medium.0 < 2 ^ 32
  pub long : t.long.0 < 2 ^ 32
  pub noise : t.noise.0 < 2 ^ 32

max-cond : (m l : ℕ) → max l m ≡ cond (ltb m l) l m
max-cond m l = elim (dec_lt m l) [
  | yes h ↦ rw (lt-ltb m l h) (omega arith)
  | no h ↦ rw (le-ltb m l (omega arith)) (omega arith)
]

-- the bounds by what they are made of
pub bounds-are : (t : Thresholds) {medium long wider noise : ℕ} → medium ≡ t.medium.0 - t.short.0 → long ≡ t.long.0 - t.short.0
    → wider ≡ max long medium → noise ≡ t.noise.0 - t.short.0
    → ◌≡◌ {A = Bounds} (record { short = t.short; medium = cycles medium; long = cycles wider; noise = cycles noise }) (bounds_of t)
unfolding bounds_of
bounds-are t {medium} {long} {wider} {noise} m l w n =
    ap₂ (λ (x y : Cycles). record { short = t.short; medium = x; long = y; noise = cycles noise }) (ap cycles m)
    (ap cycles (w ∙ max-cond medium long ∙ ap₂ (λ x y. cond (ltb x y) y x) m l))
    ∙ ap (λ (z : Cycles). record { short = t.short; medium = (bounds_of t).medium; long = (bounds_of t).long; noise = z }) (ap cycles n)

module _ (t : Thresholds) (small : Small t) where
  class-in : (b : Bounds) → b.short.0 ≡ t.short.0 → b.medium.0 ≡ t.medium.0 - t.short.0 → b.noise.0 ≡ t.noise.0 - t.short.0
      → Larger (t.medium.0 - t.short.0) (t.long.0 - t.short.0) b.long.0 → (x : ℕ) → x < 2 ^ 32 → class_in b x ≡ class_of t x
  unfolding class_in distance_of class_of
  class-in b es em en long x h =
      let ss = small.short in
      let sm = small.medium in
      let sl = small.long in
      let sn = small.noise in
      let ll = long.left in
      let lr = long.right in
      elim (dec_lt x t.short.0) [
        | yes f ↦
            let d = x + (2 ^ 32 - t.short.0) in
            let k : (x + (2 ^ 32 - b.short.0)) % 2 ^ 32 ≡ d = omega arith in
            rw (k, lt-ltb x t.short.0 f, le-ltb d b.long.0 (long.least d (omega arith) (omega arith)), le-ltb d b.noise.0 (omega arith))
        | no f ↦
            let d = x - t.short.0 in
            let k : (x + (2 ^ 32 - b.short.0)) % 2 ^ 32 ≡ d = omega arith in
            rw (k, le-ltb x t.short.0 (omega arith))
            (elim (dec_lt x t.medium.0) [
              | yes g ↦ rw (lt-ltb x t.medium.0 g, lt-ltb d b.long.0 (omega arith), lt-ltb d b.medium.0 (omega arith))
              | no g ↦
                  rw (le-ltb x t.medium.0 (omega arith), le-ltb d b.medium.0 (omega arith))
                  (elim (dec_lt x t.long.0) [
                    | yes e ↦ rw (lt-ltb x t.long.0 e, lt-ltb d b.long.0 (omega arith))
                    | no e ↦
                        rw (le-ltb x t.long.0 (omega arith), le-ltb d b.long.0 (long.least d (omega arith) (omega arith)))
                        (elim (dec_lt x t.noise.0) [
                          | yes q ↦ rw (lt-ltb x t.noise.0 q, lt-ltb d b.noise.0 (omega arith))
                          | no q ↦ rw (le-ltb x t.noise.0 (omega arith), le-ltb d b.noise.0 (omega arith))
                        ])
                  ])
            ])
      ]

  class-bounds : (x : ℕ) → x < 2 ^ 32 → class_in (bounds_of t) x ≡ class_of t x
  unfolding bounds_of
  class-bounds = class-in (bounds_of t) refl refl refl (larger-is (t.medium.0 - t.short.0) (t.long.0 - t.short.0))

  -- the classes of pulses, by their distances
  pub classes-bounds : (ps : List ℕ) → ((j : ℕ) → get_or ps j 0 < 2 ^ 32) → map (class_in (bounds_of t)) ps ≡ classes t ps
  classes-bounds [] small = refl
  classes-bounds (x ∷ ps) below = ap₂ (λ c cs. c ∷ cs) (class-bounds x (below 0)) (classes-bounds ps (λ j. below (suc j)))

-- ---- Two pulses by their tests: below long, below medium, below noise

abbrev by_tests : (l m n : Bool) → Class
by_tests l m n = cond l (cond m Short Medium) (cond n Long Noise)

marker-tests : (l m n l' m' n' : Bool) → (((not l && n) && not m') && l') ≡ (pair_of (by_tests l m n) (by_tests l' m' n')).marker
unfolding pair_of same
marker-tests true true n l' m' n' = refl
marker-tests true false n l' m' n' = refl
marker-tests false m true true true n' = refl
marker-tests false m true true false n' = refl
marker-tests false m true false true true = refl
marker-tests false m true false true false = refl
marker-tests false m true false false true = refl
marker-tests false m true false false false = refl
marker-tests false m false l' m' n' = refl

pub marker-in : (b : Bounds) (x y : ℕ)
    → (((leb b.long.0 (distance_of b x) && ltb (distance_of b x) b.noise.0) && leb b.medium.0 (distance_of b y)) && ltb (distance_of b y) b.long.0)
    ≡ (pair_of (class_in b x) (class_in b y)).marker
unfolding class_in
marker-in b x y =
    rw (leb-not b.long.0 (distance_of b x), leb-not b.medium.0 (distance_of b y))
    (marker-tests (ltb (distance_of b x) b.long.0) (ltb (distance_of b x) b.medium.0) (ltb (distance_of b x) b.noise.0)
    (ltb (distance_of b y) b.long.0) (ltb (distance_of b y) b.medium.0) (ltb (distance_of b y) b.noise.0))

-- a pair that is a bit, by the tests 'not below long' and 'not below medium' of its two pulses: the first never holds, and the second of
-- exactly one; the bit is the first one's
pub record IsBit (h u h' u' : Bool) (bit : ℕ) : Type 0 where
  pub first : h ≡ false
  pub second : h' ≡ false
  pub one : cond u 1 0 + cond u' 1 0 ≡ 1
  pub is : bit ≡ cond u 1 0

bit-tests : (l m n l' m' n' : Bool) → (let p = pair_of (by_tests l m n) (by_tests l' m' n') in (p.zero || p.one) ≡ true → IsBit (not l) (not m) (not l') (not m') (bit_of p))
unfolding pair_of same
bit-tests true true n true true n' e = absurd (let z : ◌≡◌ {A = ℕ} 0 1 = cc in omega arith)
bit-tests true true n true false n' e = record { first = refl; second = refl; one = refl; is = refl }
bit-tests true false n true true n' e = record { first = refl; second = refl; one = refl; is = refl }
bit-tests true false n true false n' e = absurd (let z : ◌≡◌ {A = ℕ} 0 1 = cc in omega arith)
bit-tests true true n false m' true e = absurd (let z : ◌≡◌ {A = ℕ} 0 1 = cc in omega arith)
bit-tests true true n false m' false e = absurd (let z : ◌≡◌ {A = ℕ} 0 1 = cc in omega arith)
bit-tests true false n false m' true e = absurd (let z : ◌≡◌ {A = ℕ} 0 1 = cc in omega arith)
bit-tests true false n false m' false e = absurd (let z : ◌≡◌ {A = ℕ} 0 1 = cc in omega arith)
bit-tests false m true l' m' n' e = absurd (let z : ◌≡◌ {A = ℕ} 0 1 = cc in omega arith)
bit-tests false m false l' m' n' e = absurd (let z : ◌≡◌ {A = ℕ} 0 1 = cc in omega arith)

tests-bit : (l m n l' m' n' : Bool) → not l ≡ false → not l' ≡ false → cond (not m) 1 0 + cond (not m') 1 0 ≡ 1
    → (let p = pair_of (by_tests l m n) (by_tests l' m' n') in ((p.zero || p.one) ≡ true) × (bit_of p ≡ cond (not m) 1 0))
unfolding pair_of same
tests-bit l true n l' true n' h g e = absurd (omega arith)
tests-bit l true n l' false n' h g e = rw (not-false l h, not-false l' g) (refl, refl)
tests-bit l false n l' true n' h g e = rw (not-false l h, not-false l' g) (refl, refl)
tests-bit l false n l' false n' h g e = absurd (omega arith)

module _ (b : Bounds) (x y : ℕ) where
  abbrev pair : Pair
  pair = pair_of (class_in b x) (class_in b y)

  bit_in_lem : (pair.zero || pair.one) ≡ true
      → IsBit (leb b.long.0 (distance_of b x)) (leb b.medium.0 (distance_of b x)) (leb b.long.0 (distance_of b y)) (leb b.medium.0 (distance_of b y)) (bit_of pair)
  unfolding class_in
  bit_in_lem e =
      rw (leb-not b.long.0 (distance_of b x), leb-not b.medium.0 (distance_of b x), leb-not b.long.0 (distance_of b y), leb-not b.medium.0 (distance_of b y))
      (bit-tests (ltb (distance_of b x) b.long.0) (ltb (distance_of b x) b.medium.0) (ltb (distance_of b x) b.noise.0)
      (ltb (distance_of b y) b.long.0) (ltb (distance_of b y) b.medium.0) (ltb (distance_of b y) b.noise.0) e)

  in-bit : leb b.long.0 (distance_of b x) ≡ false → leb b.long.0 (distance_of b y) ≡ false
      → cond (leb b.medium.0 (distance_of b x)) 1 0 + cond (leb b.medium.0 (distance_of b y)) 1 0 ≡ 1
      → ((pair.zero || pair.one) ≡ true) × (bit_of pair ≡ cond (leb b.medium.0 (distance_of b x)) 1 0)
  unfolding class_in
  in-bit h g e =
      rw (leb-not b.medium.0 (distance_of b x))
      (tests-bit (ltb (distance_of b x) b.long.0) (ltb (distance_of b x) b.medium.0) (ltb (distance_of b x) b.noise.0)
      (ltb (distance_of b y) b.long.0) (ltb (distance_of b y) b.medium.0) (ltb (distance_of b y) b.noise.0)
      (rw (leb-not b.long.0 (distance_of b x)) at h) (rw (leb-not b.long.0 (distance_of b y)) at g)
      (rw (leb-not b.medium.0 (distance_of b x), leb-not b.medium.0 (distance_of b y)) at e))

-- ---- Numbers by their bits

module _ (f g : ℕ → ℕ) where
  -- exactly one of f and g at each place
  abbrev pub OneEach : ℕ → ℕ → Type 0
  OneEach count at = (j : ℕ) → at ≤ j → j < at + count → f j + g j ≡ 1

  -- where their sum is all ones
  pub one_each : ((j : ℕ) → f j < 2) → ((j : ℕ) → g j < 2) → (count at : ℕ) → value_of (tabulate f count at) + value_of (tabulate g count at) + 1 ≡ 2 ^ count → OneEach count at
  unfolding tabulate value_of
  one_each hf hg zero at e j l h = absurd (omega arith)
  one_each hf hg (suc count) at e j l h =
      let e' = rw (pow-suc 2 count) at e in
      let here : f at + g at ≡ 1 = omega (arith, hf at, hg at, pow_pos count) in
      elim (ℕ_discrete j at) [
        | yes q ↦ rw q here
        | no q ↦ one_each hf hg count (suc at) (omega arith) j (omega arith) (omega arith)
      ]

  pub all_ones : (count at : ℕ) → OneEach count at → value_of (tabulate f count at) + value_of (tabulate g count at) + 1 ≡ 2 ^ count
  unfolding tabulate value_of
  all_ones zero at all = omega arith
  all_ones (suc count) at all =
      let r = all_ones count (suc at) (λ j l h. all j (omega arith) (omega arith)) in
      rw (pow-suc 2 count) (omega (arith, all at (omega arith) (omega arith)))

  -- ---- The word: m bits of f from place 1 on, and n of g from place 17 on

  abbrev pub word_of : (m n : ℕ) → ℕ
  word_of m n = 2 * value_of (tabulate f m 1) + 131072 * value_of (tabulate g n 1)

-- a bit more in front
lead-sum : (d v w p : ℕ) → d < 2 → w * 2 * 65536 + (d * (p * 2) + 2 * v) ≡ 2 * (v + d * p) + 131072 * w
lead-sum zero v w p h = omega arith
lead-sum (suc zero) v w p h = omega arith
lead-sum (suc (suc d)) v w p h = absurd (omega arith)

follow-sum : (e v w p : ℕ) → e < 2 → e * (p * 2 * 65536) + (2 * v + 131072 * w) ≡ 2 * v + 131072 * (w + e * p)
follow-sum zero v w p h = omega arith
follow-sum (suc zero) v w p h = omega arith
follow-sum (suc (suc e)) v w p h = absurd (omega arith)

module _ (f g : ℕ → ℕ) (hf : (j : ℕ) → f j < 2) (hg : (j : ℕ) → g j < 2) where
  lead-next : (m n : ℕ) → m < 9 → bit_or (word_of f g m n) (f (suc m) * 2 ^ suc m) ≡ word_of f g (suc m) n
  lead-next m n h =
      let d = f (suc m) in
      let v = value_of (tabulate f m 1) in
      let w = value_of (tabulate g n 1) in
      let p = 2 ^ m in
      let s = d * 2 ^ suc m in
      let lv : v < p = value-lt f hf m 1 in
      let lp : p ≤ 2 ^ 8 = pow_mono {i = m} {j = 8} (omega arith) in
      let ls : s < 2 ^ 16 = omega (arith, shl_lt {a = d} 1 (suc m) (hf (suc m)), pow_mono {i = 1 + suc m} {j = 16} (omega arith)) in
      let q : 2 ^ suc m ≡ p * 2 = pow-suc 2 m in
      let one : 1 + m ≡ suc m = omega arith in
      let parts : word_of f g m n ≡ w * 2 * 2 ^ 16 + 2 * v = omega arith in
      let alone : s ≡ 0 * 2 ^ 16 + s = omega arith in
      ap₂ bit_or parts alone
      ∙ or_block 16 (w * 2) 0 (2 * v) s (omega arith) ls
      ∙ ap₂ (λ a b. a * 65536 + b) (or_zero_r (w * 2)) (or_shifted_r d (suc m) (2 * v) (rw q (omega arith)))
      ∙ ap (λ a. w * 2 * 65536 + (d * a + 2 * v)) q
      ∙ lead-sum d v w p (hf (suc m))
      ∙ sym (ap (λ a. 2 * a + 131072 * w) (value-next f m 1 ∙ ap (λ j. v + f j * p) one))

  follow-next : (m n : ℕ) → m ≤ 9 → n < 9 → bit_or (word_of f g m n) (g (suc n) * 2 ^ (suc n + 16)) ≡ word_of f g m (suc n)
  follow-next m n hm h =
      let e = g (suc n) in
      let v = value_of (tabulate f m 1) in
      let w = value_of (tabulate g n 1) in
      let p = 2 ^ n in
      let lv : v < 2 ^ m = value-lt f hf m 1 in
      let lm : 2 ^ m ≤ 2 ^ 9 = pow_mono {i = m} {j = 9} (omega arith) in
      let lw : w < p = value-lt g hg n 1 in
      let q : 2 ^ (suc n + 16) ≡ p * 2 * 65536 = pow-add 2 (suc n) 16 ∙ ap (λ x. x * 65536) (pow-suc 2 n) in
      let one : 1 + n ≡ suc n = omega arith in
      or_shifted_r e (suc n + 16) (word_of f g m n) (rw q (omega arith))
      ∙ ap (λ a. e * a + word_of f g m n) q
      ∙ follow-sum e v w p (hg (suc n))
      ∙ sym (ap (λ a. 2 * v + 131072 * a) (value-next g n 1 ∙ ap (λ j. w + g j * p) one))

-- ---- The pulses after the marker, one after the other

module _ (b : Bounds) (ps : List ℕ) where
  -- the distance of pulse j, whether it is beyond long, and 1 where it is not nearer than medium
  abbrev far : ℕ → ℕ
  far j = distance_of b (get_or ps j 0)

  abbrev outside : ℕ → Bool
  outside j = leb b.long.0 (far j)

  abbrev upper : ℕ → ℕ
  upper j = cond (leb b.medium.0 (far j)) 1 0

  -- of pair i
  abbrev lead : ℕ → ℕ
  lead i = upper (2 * i)

  abbrev follow : ℕ → ℕ
  follow i = upper (2 * i + 1)

  upper_lt : (j : ℕ) → upper j < 2
  upper_lt j = flag-lt (leb b.medium.0 (far j))

  -- before pulse i: the word of the pulses from 2 on, and whether one of them is outside
  pub record Framing (i word : ℕ) (out : Bool) : Type 0 where
    pub low : 2 ≤ i
    pub sum : word ≡ word_of lead follow ((i + 1) / 2 - 1) (i / 2 - 1)
    pub clear : out ≡ false → (j : ℕ) → 2 ≤ j → j < i → outside j ≡ false
    pub all : ((j : ℕ) → 2 ≤ j → j < i → outside j ≡ false) → out ≡ false

  pub framing-begun : Framing 2 0 false
  unfolding tabulate value_of
  framing-begun = record { low = omega arith; sum = refl; clear = λ _ j l h. absurd (omega arith); all = λ _. refl }

  -- a pulse's bit at its place
  word_next : (i word : ℕ) → 2 ≤ i → i < 20 → word ≡ word_of lead follow ((i + 1) / 2 - 1) (i / 2 - 1)
      → bit_or word (upper i * 2 ^ (i / 2 + i % 2 * 16)) ≡ word_of lead follow ((i + 1 + 1) / 2 - 1) ((i + 1) / 2 - 1)
  word_next i word l h e = elim (ℕ_discrete (i % 2) 0) [
    | yes q ↦
        let k = i / 2 - 1 in
        let em : (i + 1) / 2 - 1 ≡ k = omega arith in
        let em' : (i + 1 + 1) / 2 - 1 ≡ suc k = omega arith in
        let ei : i ≡ 2 * suc k = omega arith in
        let ep : i / 2 + i % 2 * 16 ≡ suc k = omega arith in
        ap₂ bit_or (e ∙ ap (λ m. word_of lead follow m k) em) (ap₂ (λ j p. upper j * 2 ^ p) ei ep)
        ∙ lead-next lead follow (λ j. upper_lt (2 * j)) (λ j. upper_lt (2 * j + 1)) k k (omega arith)
        ∙ sym (ap₂ (word_of lead follow) em' em)
    | no q ↦
        let k = i / 2 - 1 in
        let em : (i + 1) / 2 - 1 ≡ suc k = omega arith in
        let em' : (i + 1 + 1) / 2 - 1 ≡ suc k = omega arith in
        let ei : i ≡ 2 * suc k + 1 = omega arith in
        let ep : i / 2 + i % 2 * 16 ≡ suc k + 16 = omega arith in
        ap₂ bit_or (e ∙ ap (λ m. word_of lead follow m k) em) (ap₂ (λ j p. upper j * 2 ^ p) ei ep)
        ∙ follow-next lead follow (λ j. upper_lt (2 * j)) (λ j. upper_lt (2 * j + 1)) (suc k) k (omega arith) (omega arith)
        ∙ sym (ap₂ (word_of lead follow) em' em)
  ]

  pub framing-next : {i word : ℕ} {out : Bool} {x : ℕ} → i < 20 → Framing i word out → x ≡ far i
      → Framing (i + 1) (bit_or word (bool_byte (leb b.medium.0 x) * 2 ^ (i / 2 + i % 2 * 16) % 2 ^ 32)) (out || leb b.long.0 x)
  framing-next {i} {word} {out} {x} h fr ex =
      let bit : bool_byte (leb b.medium.0 x) * 2 ^ (i / 2 + i % 2 * 16) % 2 ^ 32 ≡ upper i * 2 ^ (i / 2 + i % 2 * 16) =
      ap (λ k. bool_byte (leb b.medium.0 k) * 2 ^ (i / 2 + i % 2 * 16) % 2 ^ 32) ex
      ∙ ap (λ k. k * 2 ^ (i / 2 + i % 2 * 16) % 2 ^ 32) (flag-number (leb b.medium.0 (far i)))
      ∙ shl_exact {a = upper i} 1 (i / 2 + i % 2 * 16) 32 (upper_lt i) (omega arith)
      in
      record {
        low = omega (arith, fr.low);
        sum = ap (bit_or word) bit ∙ word_next i word fr.low h fr.sum;
        clear = λ o j l k.
            let q = or-false out (leb b.long.0 x) o in
            elim (ℕ_discrete j i) [
              | yes w ↦ rw w (rw ex at q.1)
              | no w ↦ fr.clear q.0 j l (omega arith)
            ];
        all = λ al. rw (fr.all (λ j l k. al j l (omega arith)), ex, al i fr.low (omega arith));
      }

-- ---- After the last pulse

no_value_lem : (r : ByteRead) → ((v : ℕ) → r ≡ Good v → ⊥) → None ≡ value_in r
no_value_lem (Good v) h = absurd (h v refl)
no_value_lem (Bad cause) h = refl

checked-odd : (o : Option ℕ) (value parity : ℕ) → o ≡ None → is_odd (ones value + parity) ≡ true → checked o value parity ≡ Good value
checked-odd o value parity e odd = rw (e, odd)

module _ (b : Bounds) (ps : List ℕ) (ys : List Class) (agree : (j : ℕ) → j < 20 → get_or ys j Noise ≡ class_in b (get_or ps j 0)) where
  pair_is : (i : ℕ) → i < 10 → nth_pair ys i ≡ pair_of (class_in b (get_or ps (2 * i) 0)) (class_in b (get_or ps (2 * i + 1) 0))
  unfolding pair_at
  pair_is i h = ap₂ pair_of (agree (2 * i) (omega arith)) (agree (2 * i + 1) (omega arith))

  sound-bit : (i : ℕ) → 1 ≤ i → i < 10 → is_sound i (nth_pair ys i) ≡ true
      → IsBit (outside b ps (2 * i)) (leb b.medium.0 (far b ps (2 * i))) (outside b ps (2 * i + 1)) (leb b.medium.0 (far b ps (2 * i + 1))) (nth_bit ys i)
  sound-bit i l h e = rw (pair_is i h) (bit_in_lem b (get_or ps (2 * i) 0) (get_or ps (2 * i + 1) 0) (rw (pair_is i h, ne_eqb i 0 (λ q. omega arith)) at e))

  bit-sound : (i : ℕ) → 1 ≤ i → i < 10 → outside b ps (2 * i) ≡ false → outside b ps (2 * i + 1) ≡ false → lead b ps i + follow b ps i ≡ 1
      → (is_sound i (nth_pair ys i) ≡ true) × (nth_bit ys i ≡ lead b ps i)
  bit-sound i l h o o' e = rw (pair_is i h, ne_eqb i 0 (λ q. omega arith)) (in-bit b (get_or ps (2 * i) 0) (get_or ps (2 * i + 1) 0) o o' e)

  module _ (word : ℕ) (out marked : Bool) (fr : Framing b ps 20 word out)
      (mark : marked ≡ (pair_of (class_in b (get_or ps 0 0)) (class_in b (get_or ps 1 0))).marker) where
    abbrev value : ℕ
    value = value_of (tabulate (lead b ps) 8 1)

    abbrev first : ℕ
    first = word % 65536 / 2

    abbrev second : ℕ
    second = word / 65536 / 2

    lead-lt : (j : ℕ) → lead b ps j < 2
    lead-lt j = flag-lt (leb b.medium.0 (far b ps (2 * j)))

    follow-lt : (j : ℕ) → follow b ps j < 2
    follow-lt j = flag-lt (leb b.medium.0 (far b ps (2 * j + 1)))

    -- the halves of the word
    first-is : first ≡ value_of (tabulate (lead b ps) 9 1)
    first-is = omega (arith, fr.sum, value-lt (lead b ps) lead-lt 9 1, value-lt (follow b ps) follow-lt 9 1)

    second_is : second ≡ value_of (tabulate (follow b ps) 9 1)
    second_is = omega (arith, fr.sum, value-lt (lead b ps) lead-lt 9 1, value-lt (follow b ps) follow-lt 9 1)

    -- the first one's parts: the value and the parity bit
    first-value : first % 256 ≡ value
    first-value = omega (arith, first-is, value-next (lead b ps) 8 1, value-lt (lead b ps) lead-lt 8 1)

    first-parity : first / 256 ≡ lead b ps 9
    first-parity = omega (arith, first-is, value-next (lead b ps) 8 1, value-lt (lead b ps) lead-lt 8 1)

    -- what `close` tests
    abbrev odd : Bool
    odd = is_odd (ones (first % 256) + first / 256)

    abbrev test : Bool
    test = (eqb (first + second) 511 && odd) && (marked && not out)

    -- where it holds, the byte is good
    closed-good : test ≡ true → byte_of ys ≡ Good (first % 256)
    unfolding byte_of
    closed-good e =
        let both = and-true (eqb (first + second) 511 && odd) (marked && not out) e in
        let sums = and-true (eqb (first + second) 511) odd both.0 in
        let sound = and-true marked (not out) both.1 in
        let s = eqb-true (first + second) 511 sums.0 in
        let o = not-true out sound.1 in
        let one = one_each (lead b ps) (follow b ps) lead-lt follow-lt 9 1 (omega (arith, first-is, second_is)) in
        let bit : (i : ℕ) → 1 ≤ i → i < 10 → (is_sound i (nth_pair ys i) ≡ true) × (nth_bit ys i ≡ lead b ps i) =
        λ i l h. bit-sound i l h (fr.clear o (2 * i) (omega arith) (omega arith)) (fr.clear o (2 * i + 1) (omega arith) (omega arith)) (one i l (omega arith))
        in
        let right : (i : ℕ) → 0 ≤ i → i < 0 + 10 → wrong_pair ys i ≡ false = λ i _ h. elim (ℕ_discrete i 0) [
          | yes q ↦ rw (q, pair_is 0 (lit< tt)) (ap not (sym mark ∙ sound.0))
          | no q ↦ ap not (bit i (omega arith) (omega arith)).0
        ] in
        let v : value_of (tabulate (nth_bit ys) 8 1) ≡ first % 256 =
        ap value_of (tabulate-same (nth_bit ys) (lead b ps) 8 1 (λ i l h. (bit i l (omega arith)).1)) ∙ sym first-value
        in
        checked-odd (first_from (wrong_pair ys) 10 0) (value_of (tabulate (nth_bit ys) 8 1)) (nth_bit ys 9) (first-none (wrong_pair ys) 10 0 right)
        (rw (v, (bit 9 (lit≤ tt) (lit< tt)).1, ← first-parity) sums.1)
        ∙ ap Good v

    good-closed : (v : ℕ) → byte_of ys ≡ Good v → test ≡ true
    good-closed v e =
        let bit : (i : ℕ) → 1 ≤ i → i < 10
        → IsBit (outside b ps (2 * i)) (leb b.medium.0 (far b ps (2 * i))) (outside b ps (2 * i + 1)) (leb b.medium.0 (far b ps (2 * i + 1))) (nth_bit ys i) =
        λ i l h. sound-bit i l h (good-sound ys v e i h)
        in
        let m : marked ≡ true = mark ∙ ap (λ (p : Pair). p.marker) (sym (pair_is 0 (lit< tt))) ∙ good-sound ys v e 0 (lit< tt) in
        let o : out ≡ false = fr.all (λ j l h. clear j l h) in
        let s = all_ones (lead b ps) (follow b ps) 9 1 (λ j l h. (bit j l (omega arith)).one) in
        let s' : first + second ≡ 511 = omega (arith, first-is, second_is) in
        let w : value_of (tabulate (nth_bit ys) 8 1) ≡ first % 256 =
        ap value_of (tabulate-same (nth_bit ys) (lead b ps) 8 1 (λ i l h. (bit i l (omega arith)).is)) ∙ sym first-value
        in
        let d : odd ≡ true = rw (first-parity) (rw (w, (bit 9 (lit≤ tt) (lit< tt)).is) at (good-parts ys v e).2) in
        rw (eq-eqb (first + second) 511 s', d, m, o)
      where
        clear : (j : ℕ) → 2 ≤ j → j < 20 → outside b ps j ≡ false
        clear j l h =
            let k = j / 2 in
            let at = sound-bit k (omega arith) (omega arith) (good-sound ys v e k (omega arith)) in
            elim (ℕ_discrete (j % 2) 0) [
              | yes q ↦ ap (outside b ps) (let z : j ≡ 2 * k = omega arith in z) ∙ at.first
              | no q ↦ ap (outside b ps) (let z : j ≡ 2 * k + 1 = omega arith in z) ∙ at.second
            ]

    closed-read : closed word (marked && not out) ≡ value_in (byte_of ys)
    unfolding closed
    closed-read = by test refl
      where
        by : (r : Bool) → test ≡ r → cond r (Some (first % 256)) None ≡ value_in (byte_of ys)
        by true e = ap value_in (sym (closed-good e))
        by false e = no_value_lem (byte_of ys) (λ v g. let z = sym e ∙ good-closed v g in let n : ◌≡◌ {A = ℕ} 0 1 = cc in omega arith)

-- ---- A frame

and-out : (t : Bool) → (t && true) ≡ t
and-out true = refl
and-out false = refl

and_none : (t : Bool) → (t && false) ≡ false
and_none true = refl
and_none false = refl

closed-unsound : (word : ℕ) → closed word false ≡ None
unfolding closed
closed-unsound word = rw (and_none (eqb (word % 65536 / 2 + word / 65536 / 2) 511 && is_odd (ones (word % 65536 / 2 % 256) + word % 65536 / 2 / 256)))

pub frame-other : (ys : List Class) → (length ys ≡ 20 → ⊥) → None ≡ read_frame ys
unfolding read_frame
frame-other ys h = rw (ne_eqb (length ys) 20 h)

class-of : (b : Bounds) (ps : List ℕ) (j : ℕ) → j < length ps → get_or (map (class_in b) ps) j Noise ≡ class_in b (get_or ps j 0)
class-of b [] j h = absurd (omega arith)
class-of b (x ∷ ps) zero h = refl
class-of b (x ∷ ps) (suc j) h = class-of b ps j (omega arith)

module _ (b : Bounds) (ps : List ℕ) where
  pub frame-read : {word : ℕ} {out marked : Bool} → Framing b ps (length ps) word out
      → marked ≡ (pair_of (class_in b (get_or ps 0 0)) (class_in b (get_or ps 1 0))).marker
      → closed word ((marked && not out) && eqb (length ps) 20) ≡ read_frame (map (class_in b) ps)
  unfolding read_frame
  frame-read {word} {out} {marked} fr mark = elim (ℕ_discrete (length ps) 20) [
    | yes q ↦
        rw (length-map ps (class_in b), eq-eqb (length ps) 20 q, and-out (marked && not out))
        (closed-read b ps (map (class_in b) ps) (λ j h. class-of b ps j (omega arith)) word out marked (rw q at fr) mark)
    | no q ↦ rw (length-map ps (class_in b), ne_eqb (length ps) 20 q, and_none (marked && not out)) (closed-unsound word)
  ]
