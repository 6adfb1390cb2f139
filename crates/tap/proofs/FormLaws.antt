-- Laws of the form that a duration is written in.
use Prim.Native.Nat.{ℕ, ◌+◌, ◌*◌, ◌/◌, ◌%◌, ◌≤◌, ◌<◌}
use native.Mathlib.Decide.{ℕ_discrete, dec_le}
use native.Mathlib.Numerals.{add-one}
use native.Mathlib.Omega.{arith}
use mathlib.Core.Path.{◌≡◌, refl, sym, ap, ◌∙◌}
use mathlib.Core.Logic.{◌⊎◌, inl, inr, ⊎_elim}
use mathlib.Core.Bool.{Bool, true, false, cond, not, ◌&&◌}
use Rattle.std.specs.Prelude.{Option, None, Some, MatchOption}
use Rattle.std.specs.Bool.{then_some}
use Rattle.std.specs.Option.{is_some}
use mathlib.Core.List.{List, [], ◌∷◌, ◌++◌, map, append_assoc}
use borrow.Author.Tests.{eq-eqb, ne_eqb, le-leb, lt-leb}
use lib.Dec.{eqb, leb}
use lib.ListN.{length, drop, get_or, length-append, drop_of_length-le}
use lib.Seq.{drop-cons}
use Rattle.lists.specs.Text.{low_first}
use Rattle.lists.proofs.TextLaws.{length-low}
use Rattle.pulse.specs.Units.{unit_cycles}
use Rattle.tap.specs.Tap.{long_form, form_of, tap_data, has_no_form}
use Rattle.pulse.specs.declared.Cycles.{Cycles}
use Rattle.tap.specs.declared.forms.Form.{Form}
use Rattle.tap.specs.declared.forms.Form.TheVariants.{Byte, Long}
use Rattle.tap.specs.private.Forms.{no_zeros, byte_units, bytes_of}
use Rattle.tap.proofs.GroupLaws.{no_zeros-cons}

-- ---- One byte

module _ (d : ℕ) where
  pub byte_units-between : (d % unit_cycles ≡ 0 → ⊥) → byte_units d ≡ 0
  unfolding byte_units
  byte_units-between m = rw (ne_eqb (d % unit_cycles) 0 m)

  module _ (whole : d % unit_cycles ≡ 0) where
    pub byte_units-few : d / unit_cycles ≤ 255 → byte_units d ≡ d / unit_cycles
    unfolding byte_units
    byte_units-few h = rw (eq-eqb (d % unit_cycles) 0 whole, le-leb (d / unit_cycles) 255 h)

    pub byte_units-many : 255 < d / unit_cycles → byte_units d ≡ 0
    unfolding byte_units
    byte_units-many h = rw (eq-eqb (d % unit_cycles) 0 whole, lt-leb (d / unit_cycles) 255 h)

  byte_units-le : byte_units d ≤ 255
  byte_units-le = elim (ℕ_discrete (d % unit_cycles) 0) [
    | yes m ↦ elim (dec_le (d / unit_cycles) 255) [ yes h ↦ rw (byte_units-few m h) h | no h ↦ rw (byte_units-many m (omega arith)) (omega arith) ]
    | no m ↦ rw (byte_units-between m) (omega arith)
  ]

  form_of-byte : (v : ℕ) → d % unit_cycles ≡ 0 → 8 ≤ d → d ≤ 2040 → form_of v d ≡ d / unit_cycles ∷ []
  unfolding form_of
  form_of-byte v m a b = rw (eq-eqb (d % unit_cycles) 0 m, le-leb 8 d a, le-leb d 2040 b)

  -- the tests of the definition, and the number of units, pick the same form
  pub form_of-units : (v : ℕ) → (byte_units d ≡ 0 → ⊥) → form_of v d ≡ byte_units d ∷ []
  form_of-units v n = elim (ℕ_discrete (d % unit_cycles) 0) [
    | yes m ↦ elim (dec_le (d / unit_cycles) 255) [
      | yes h ↦
          let e = byte_units-few m h in
          let p : d / unit_cycles ≡ 0 → ⊥ = λ z. n (e ∙ z) in
          form_of-byte v m (omega arith) (omega arith) ∙ ap (λ u. u ∷ []) (sym e)
      | no h ↦ absurd (n (byte_units-many m (omega arith)))
    ]
    | no m ↦ absurd (n (byte_units-between m))
  ]

  -- they are the duration's
  pub byte_units-cycles : (byte_units d ≡ 0 → ⊥) → byte_units d * unit_cycles ≡ d
  byte_units-cycles n = elim (ℕ_discrete (d % unit_cycles) 0) [
    | yes m ↦ elim (dec_le (d / unit_cycles) 255) [
      | yes h ↦ rw (byte_units-few m h) (omega arith)
      | no h ↦ absurd (n (byte_units-many m (omega arith)))
    ]
    | no m ↦ absurd (n (byte_units-between m))
  ]

  -- ---- The long form

  long_form-fits : d ≤ 16777215 → long_form d ≡ 0 ∷ low_first 3 d
  unfolding long_form
  long_form-fits h = rw (le-leb d 16777215 h)

  long_form-over : 16777215 < d → long_form d ≡ []
  unfolding long_form
  long_form-over h = rw (lt-leb d 16777215 h)

  -- ---- What is written where there is no one-byte form

  module _ (v : ℕ) (none : byte_units d ≡ 0) where
    form_of-other : form_of v d ≡ cond (eqb v 0) (cond (eqb d 2048) (0 ∷ []) []) (long_form d)
    unfolding form_of
    form_of-other = elim (ℕ_discrete (d % unit_cycles) 0) [
      | yes m ↦ elim (dec_le 8 d) [
        | yes a ↦ elim (dec_le d 2040) [
          | yes b ↦ absurd (let e = byte_units-few m (omega arith) in omega arith)
          | no b ↦ rw (eq-eqb (d % unit_cycles) 0 m, le-leb 8 d a, lt-leb d 2040 (omega arith))
        ]
        | no a ↦ rw (eq-eqb (d % unit_cycles) 0 m, lt-leb 8 d (omega arith))
      ]
      | no m ↦ rw (ne_eqb (d % unit_cycles) 0 m)
    ]

    module _ (old : v ≡ 0) where
      pub form_of-zero : d ≡ 2048 → form_of v d ≡ 0 ∷ []
      form_of-zero e = form_of-other ∙ rw (eq-eqb v 0 old, eq-eqb d 2048 e)

      pub form_of-missing : (d ≡ 2048 → ⊥) → form_of v d ≡ []
      form_of-missing n = form_of-other ∙ rw (eq-eqb v 0 old, ne_eqb d 2048 n)

    module _ (new : v ≡ 0 → ⊥) where
      form_of-long_form : form_of v d ≡ long_form d
      form_of-long_form = form_of-other ∙ rw (ne_eqb v 0 new)

      pub form_of-long : d ≤ 16777215 → form_of v d ≡ 0 ∷ low_first 3 d
      form_of-long h = form_of-long_form ∙ long_form-fits h

      pub form_of-over : 16777215 < d → form_of v d ≡ []
      form_of-over h = form_of-long_form ∙ long_form-over h

  -- ---- The length of a form

  module _ (v : ℕ) where
    -- a form has one byte, which counts units or is the zero byte of version 0, or the four of the long form, or there is none
    form_of-either : (form_of v d ≡ byte_units d ∷ []) ⊎ ((form_of v d ≡ 0 ∷ low_first 3 d) ⊎ (form_of v d ≡ []))
    form_of-either = elim (ℕ_discrete (byte_units d) 0) [
      | no n ↦ inl (form_of-units v n)
      | yes z ↦ elim (ℕ_discrete v 0) [
        | yes old ↦ elim (ℕ_discrete d 2048) [ yes e ↦ inl (form_of-zero v z old e ∙ rw z) | no n ↦ inr (inr (form_of-missing v z old n)) ]
        | no new ↦ elim (dec_le d 16777215) [ yes h ↦ inr (inl (form_of-long v z new h)) | no h ↦ inr (inr (form_of-over v z new (omega arith))) ]
      ]
    ]

    -- so its length tells which (docs/DECISIONS.md names the law)
    pub form_of-one : length (form_of v d) ≡ 1 → form_of v d ≡ byte_units d ∷ []
    unfolding low_first
    form_of-one l =
        ⊎_elim (λ e. e) (λ w. ⊎_elim (λ e. absurd (let m = ap length e in omega arith)) (λ e. absurd (let m = ap length e in omega arith)) w) form_of-either

    pub width-form_of : length (form_of v d) ≤ 4
    unfolding low_first
    width-form_of = ⊎_elim (λ e. rw e (omega arith)) (λ w. ⊎_elim (λ e. rw e (omega arith)) (λ e. rw e (omega arith)) w) form_of-either

-- ---- What the code answers

-- the bytes of a form that a `match` finds
pub bytes_found : {found form : Form} {bytes : List ℕ} → bytes_of (Some found) ≡ bytes → found ≡ form → bytes_of (Some form) ≡ bytes
bytes_found e q = ap (λ f. bytes_of (Some f)) (sym q) ∙ e

-- how long a form is, and whether there is one
pub width-answered : (r : Option Form) {n : ℕ} {Answer : Form → Type 0} → MatchOption r (n ≡ 0) Answer → ((form : Form) → Answer form → n ≡ length (bytes_of (Some form)))
    → n ≡ length (bytes_of r)
width-answered None e wide = e
width-answered (Some form) e wide = wide form e

pub none-answered : (r : Option Form) (none : Bool) → is_some r ≡ not none → none ≡ eqb (length (bytes_of r)) 0
unfolding low_first
none-answered None true e = refl
none-answered None false e = e
none-answered (Some (Byte b)) true e = e
none-answered (Some (Byte b)) false e = refl
none-answered (Some (Long cycles)) true e = e
none-answered (Some (Long cycles)) false e = refl

bytes_then : (t : Bool) (form : Form) → bytes_of (then_some t form) ≡ cond t (bytes_of (Some form)) []
bytes_then true form = refl
bytes_then false form = refl

module _ (d : Cycles) (v : ℕ) where
  pub form-units : {u : ℕ} → u ≡ byte_units d.0 → 0 < u → u ∷ [] ≡ form_of v d.0
  form-units e h = ap (λ n. n ∷ []) e ∙ sym (form_of-units d.0 v (λ z. omega arith))

  module _ (none : 0 ≡ byte_units d.0) where
    pub form-old : v ≡ 0 → {r : Option Form} → r ≡ then_some (eqb d.0 2048) (Byte 0) → bytes_of r ≡ form_of v d.0
    form-old old e = ap bytes_of e ∙ bytes_then (eqb d.0 2048) (Byte 0) ∙ sym (form_of-other d.0 v (sym none) ∙ rw (eq-eqb v 0 old))

    pub form-new : (v ≡ 0 → ⊥) → {r : Option Form} → r ≡ then_some (leb d.0 16777215) (Long d) → bytes_of r ≡ form_of v d.0
    unfolding long_form
    form-new new e = ap bytes_of e ∙ bytes_then (leb d.0 16777215) (Long d) ∙ sym (form_of-other d.0 v (sym none) ∙ rw (ne_eqb v 0 new))

-- ---- tap_data

pub tap_data-next : (v : ℕ) (ds : List ℕ) (i : ℕ) → i < length ds → tap_data v (drop i ds) ≡ form_of v (get_or ds i 0) ++ tap_data v (drop (i + 1) ds)
unfolding tap_data
tap_data-next v ds i h = rw (drop-cons ds i 0 h, add-one)

pub tap_data-over : (v : ℕ) (ds : List ℕ) (i : ℕ) → length ds ≤ i → tap_data v (drop i ds) ≡ []
unfolding tap_data
tap_data-over v ds i h = rw (drop_of_length-le ds {i = i} h)

tap_data-append : (v : ℕ) (xs ys : List ℕ) → tap_data v (xs ++ ys) ≡ tap_data v xs ++ tap_data v ys
unfolding tap_data
tap_data-append v [] ys = refl
tap_data-append v (x ∷ xs) ys = rw (tap_data-append v xs ys, append_assoc)

-- a group in front of those left
pub tap_data-group : (v : ℕ) (left group later : List ℕ) → left ≡ group ++ later → tap_data v left ≡ tap_data v group ++ tap_data v later
tap_data-group v left group later e = ap (tap_data v) e ∙ tap_data-append v group later

pub tap_data-none : (v : ℕ) (left : List ℕ) → length left ≡ 0 → tap_data v left ≡ []
tap_data-none v left e = tap_data-over v left 0 (omega arith)

-- durations that all have the one-byte form
pub tap_data-units : (v : ℕ) (ds : List ℕ) → no_zeros (map byte_units ds) ≡ true → tap_data v ds ≡ map byte_units ds
unfolding tap_data
tap_data-units v [] e = refl
tap_data-units v (d ∷ ds) e =
    let n = no_zeros-cons (byte_units d) (map byte_units ds) e in
    rw (form_of-units d v n.0, tap_data-units v ds n.1)

-- four bytes each at most
pub width-tap_data : (v : ℕ) (ds : List ℕ) → length (tap_data v ds) ≤ 4 * length ds
unfolding tap_data
width-tap_data v [] = omega arith
width-tap_data v (d ∷ ds) = rw length-append (omega (arith, width-form_of d v, width-tap_data v ds))

-- ---- Which durations have a form

-- version 0 writes the multiples of 8 from 8 to 2,048
pub without-zero : (d : ℕ) → has_no_form 0 d ≡ not (eqb (d % 8) 0 && leb 8 d && leb d 2048)
without-zero d = elim (ℕ_discrete (d % 8) 0) [
  | no m ↦ rw (form_of-missing d 0 (byte_units-between d m) refl (λ e. m (rw e)), ne_eqb (d % 8) 0 m)
  | yes m ↦ elim (dec_le 8 d) [
    | no a ↦ rw (form_of-missing d 0 (byte_units-few d m (omega arith) ∙ (let z : d / 8 ≡ 0 = omega arith in z)) refl (λ e. omega arith), eq-eqb (d % 8) 0 m, lt-leb 8 d (omega arith))
    | yes a ↦ elim (dec_le d 2040) [
      | yes b ↦ rw (form_of-byte d 0 m a b, eq-eqb (d % 8) 0 m, le-leb 8 d a, le-leb d 2048 (omega arith))
      | no b ↦ elim (ℕ_discrete d 2048) [
        | yes e ↦ rw (form_of-zero d 0 (byte_units-many d m (omega arith)) refl e, eq-eqb (d % 8) 0 m, le-leb 8 d a, le-leb d 2048 (omega arith))
        | no e ↦ rw (form_of-missing d 0 (byte_units-many d m (omega arith)) refl e, eq-eqb (d % 8) 0 m, le-leb 8 d a, lt-leb d 2048 (omega arith))
      ]
    ]
  ]
]

-- version 1 writes the durations up to 16,777,215
pub without-one : (d : ℕ) → has_no_form 1 d ≡ not (leb d 16777215)
without-one d = elim (ℕ_discrete (byte_units d) 0) [
  | no n ↦
      let e = byte_units-cycles d n in
      let h = byte_units-le d in
      rw (form_of-units d 1 n, le-leb d 16777215 (omega arith))
  | yes z ↦ elim (dec_le d 16777215) [
    | yes h ↦ rw (form_of-long d 1 z (λ e. omega arith) h, length-low, le-leb d 16777215 h)
    | no h ↦ rw (form_of-over d 1 z (λ e. omega arith) (omega arith), lt-leb d 16777215 (omega arith))
  ]
]
