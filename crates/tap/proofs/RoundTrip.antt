-- Reading what was written: the header gives the version, each form its duration, and with them the file what was lent to the writer.
use Prim.Native.Nat.{ℕ, zero, suc, ◌+◌, ◌*◌, ◌^◌, ◌≤◌, ◌<◌}
use Rattle.tap.specs.declared.TapInfo.{TapInfo}
use Rattle.refusal.specs.declared.Refusal.{Refusal}
use native.Mathlib.Decide.{ℕ_discrete, dec_le}
use native.Mathlib.Omega.{arith}
use mathlib.Core.Path.{◌≡◌, refl, sym, ap, ◌∙◌}
use mathlib.Core.Bool.{false}
use mathlib.Core.List.{List, [], ◌∷◌, ◌++◌}
use Rattle.std.specs.Prelude.{None, Result, Ok}
use borrow.Author.Tests.{eq-eqb, le-ltb, eqb-false, ltb-false}
use lib.Dec.{ltb}
use lib.ListN.{length, take, drop, get_or}
use Rattle.lists.specs.Places.{part}
use Rattle.lists.specs.Buffer.{put_at}
use Rattle.lists.specs.Text.{ascii, low_first, from_low}
use Rattle.lists.proofs.BufferLaws.{part-put, rest-front}
use Rattle.lists.proofs.PlaceLaws.{none_first, first-none}
use Rattle.lists.proofs.TextLaws.{length-low, from_low_lem, same-equal}
use Rattle.refusal.specs.declared.Reason.TheVariants.{WrongSize, WrongTapVersion, NoTapForm}
use Rattle.refusal.specs.Refusal.{refusal_at}
use Rattle.refusal.specs.Outcome.{Outcome, accepted, mapped}
use Rattle.refusal.specs.Promise.{Written}
use Rattle.refusal.proofs.OutcomeLaws.{cond-accepted, refuse_first-accepted, and_then-accepted, mapped-accepted, if_room-accepted, if_room-room}
use Rattle.pulse.specs.Units.{unit_cycles}
use Rattle.tap.specs.Tap.{letters, tap_header, form_of, tap_data, tap_file, wrong_version, has_no_form, first_without, data_of, put_file, write_tap}
use Rattle.tap.specs.Reading.{wrong_letters, wrong_count, tap_version, durations_in, Tap, tap_with, tap_of, fitting, read_tap, TapPromise}
use Rattle.tap.specs.Claim.{TapReturned, Writable, RoundTrip}
use Rattle.tap.specs.private.Forms.{byte_units}
use Rattle.tap.proofs.FormLaws.{byte_units-cycles, form_of-units, form_of-zero, form_of-missing, form_of-long, form_of-over, width-tap_data, without-zero, without-one}
use Rattle.tap.proofs.WriterLaws.{length-tap_file}

-- ---- The header

module _ (v : ℕ) (bytes : List ℕ) where
  wrong_letters-tap_file : wrong_letters (tap_file v bytes) ≡ false
  unfolding tap_header ascii
  wrong_letters-tap_file =
      let l = length-tap_file v bytes in
      rw (le-ltb (length (tap_file v bytes)) 20 (omega arith), same-equal letters)

  version-tap_file : get_or (tap_file v bytes) 12 0 ≡ v
  unfolding tap_header ascii
  version-tap_file = refl

  data-tap_file : drop 20 (tap_file v bytes) ≡ bytes
  unfolding tap_header ascii low_first
  data-tap_file = refl

  count-tap_file : part (tap_file v bytes) 16 4 ≡ low_first 4 (length bytes)
  unfolding tap_header ascii low_first
  count-tap_file = refl

  reserved-tap_file : part (tap_file v bytes) 13 3 ≡ 0 ∷ 0 ∷ 0 ∷ []
  unfolding tap_header ascii
  reserved-tap_file = refl

  module _ (few : length bytes < 256 ^ 4) where
    wrong_count-tap_file : wrong_count (tap_file v bytes) ≡ false
    wrong_count-tap_file =
        rw (
          reserved-tap_file,
          same-equal (0 ∷ 0 ∷ 0 ∷ []),
          count-tap_file,
          data-tap_file,
          from_low_lem 4 (length bytes) few,
          eq-eqb (length bytes) (length bytes) refl,
        )

    tap_version-tap_file : v ≤ 1 → tap_version (tap_file v bytes) ≡ accepted v
    unfolding tap_version
    tap_version-tap_file old = rw (wrong_letters-tap_file, version-tap_file, le-ltb 1 v old, wrong_count-tap_file)

-- ---- One form

durations_in-low_first : (v at : ℕ) (bs : List ℕ) → (v ≡ 0 → ⊥) → (n : ℕ)
    → durations_in v at (0 ∷ low_first 3 n ++ bs) ≡ mapped (λ ds. from_low (low_first 3 n) ∷ ds) (durations_in v (at + 4) bs)
unfolding durations_in low_first
durations_in-low_first zero at bs z n = absurd (z refl)
durations_in-low_first (suc v) at bs z n = refl

module _ (v at : ℕ) (bs : List ℕ) where
  durations_in-units : (u : ℕ) → (u ≡ 0 → ⊥) → durations_in v at (u ∷ bs) ≡ mapped (λ ds. u * unit_cycles ∷ ds) (durations_in v (at + 1) bs)
  unfolding durations_in
  durations_in-units zero n = absurd (n refl)
  durations_in-units (suc u) n = refl

  durations_in-zero : v ≡ 0 → durations_in v at (0 ∷ bs) ≡ mapped (λ ds. 2048 ∷ ds) (durations_in v (at + 1) bs)
  unfolding durations_in
  durations_in-zero e = rw e

  durations_in-long_form : (v ≡ 0 → ⊥) → (n : ℕ) → n < 256 ^ 3 → durations_in v at (0 ∷ low_first 3 n ++ bs) ≡ mapped (λ ds. n ∷ ds) (durations_in v (at + 4) bs)
  durations_in-long_form z n h = durations_in-low_first v at bs z n ∙ ap (λ m. mapped (λ ds. m ∷ ds) (durations_in v (at + 4) bs)) (from_low_lem 3 n h)

  -- a form is read as its duration
  durations_in-form_of : (d : ℕ) → (length (form_of v d) ≡ 0 → ⊥) → durations_in v at (form_of v d ++ bs) ≡ mapped (λ ds. d ∷ ds) (durations_in v (at + length (form_of v d)) bs)
  durations_in-form_of d has = elim (ℕ_discrete (byte_units d) 0) [
    | no n ↦ rw (form_of-units d v n) (durations_in-units (byte_units d) n ∙ rw (byte_units-cycles d n))
    | yes z ↦ elim (ℕ_discrete v 0) [
      | yes e ↦ elim (ℕ_discrete d 2048) [
        | yes f ↦ rw (form_of-zero d v z e f) (durations_in-zero e ∙ rw f)
        | no f ↦ absurd (has (ap length (form_of-missing d v z e f)))
      ]
      | no e ↦ elim (dec_le d 16777215) [
        | yes h ↦ rw (form_of-long d v z e h, length-low) (durations_in-long_form e d (omega arith))
        | no h ↦ absurd (has (ap length (form_of-over d v z e (omega arith))))
      ]
    ]
  ]

-- ---- All forms

durations_in-tap_data : (v at : ℕ) (ds : List ℕ) → ((i : ℕ) → i < length ds → length (form_of v (get_or ds i 0)) ≡ 0 → ⊥) → durations_in v at (tap_data v ds) ≡ accepted ds
unfolding durations_in tap_data
durations_in-tap_data v at [] has = refl
durations_in-tap_data v at (d ∷ ds) has =
    durations_in-form_of v at (tap_data v ds) d (has 0 (omega arith))
    ∙ ap (mapped (λ es. d ∷ es)) (durations_in-tap_data v (at + length (form_of v d)) ds (λ i h. has (suc i) (omega arith)))

-- ---- The file

module _ (v : ℕ) (ds : List ℕ) (few : length ds ≤ 1048576) (old : v ≤ 1) (has : first_without v ds ≡ None) where
  tap_of-tap_file : tap_of (tap_file v (tap_data v ds)) ≡ accepted (tap_with v ds)
  unfolding tap_of
  tap_of-tap_file =
      let w = width-tap_data v ds in
      let n : (i : ℕ) → i < length ds → length (form_of v (get_or ds i 0)) ≡ 0 → ⊥ =
      λ i h. eqb-false (length (form_of v (get_or ds i 0))) 0 (none_first (λ j. has_no_form v (get_or ds j 0)) (length ds) 0 has i (omega arith) (omega arith)) in
      rw (tap_version-tap_file v (tap_data v ds) (omega arith) old, data-tap_file v (tap_data v ds), durations_in-tap_data v 0 ds n)

-- ---- What the writer accepted

record FileWritten (room v : ℕ) (ds bytes : List ℕ) : Type 0 where
  pub few : length ds ≤ 1048576
  pub old : v ≤ 1
  pub has : first_without v ds ≡ None
  pub fits : length bytes ≤ room
  pub file : bytes ≡ tap_file v (tap_data v ds)

write_tap-accepted : (room v : ℕ) (ds bytes : List ℕ) → write_tap room v ds ≡ accepted bytes → FileWritten room v ds bytes
unfolding write_tap data_of put_file
write_tap-accepted room v ds bytes e =
    let s = cond-accepted (ltb 1048576 (length ds)) (refusal_at WrongSize 0) _ bytes e in
    let t = cond-accepted (wrong_version v) (refusal_at WrongTapVersion 0) _ bytes s.1 in
    let m = and_then-accepted (data_of v ds) (put_file room v) bytes t.1 in
    let f : accepted (tap_data v ds) ≡ accepted m.0 = (refuse_first-accepted NoTapForm (first_without v ds) (accepted (tap_data v ds)) m.0 m.1).1 in
    let g : tap_data v ds ≡ m.0 = cc in
    let p = if_room-accepted room (length (tap_file v m.0)) _ bytes m.2 in
    let q : tap_file v m.0 ≡ bytes = let z : accepted (tap_file v m.0) ≡ accepted bytes = p.1 in cc in
    record {
      few = ltb-false 1048576 (length ds) s.0;
      old = ltb-false 1 v t.0;
      has = (refuse_first-accepted NoTapForm (first_without v ds) (accepted (tap_data v ds)) m.0 m.1).0;
      fits = rw (← q) p.0;
      file = sym q ∙ ap (tap_file v) (sym g);
    }

-- the other way: writable durations for which there is room
write_tap-writable : (room v : ℕ) (ds : List ℕ) → Writable v ds → length (tap_file v (tap_data v ds)) ≤ room → write_tap room v ds ≡ accepted (tap_file v (tap_data v ds))
unfolding write_tap data_of put_file
write_tap-writable room v ds s h =
    rw (
      le-ltb 1048576 (length ds) s.few,
      le-ltb 1 v s.old,
      first-none (λ i. has_no_form v (get_or ds i 0)) (length ds) 0 (λ i a b. s.forms i (omega arith)),
      if_room-room room (length (tap_file v (tap_data v ds))) _ h,
    )

-- ---- The claim

tap_returned : (v : ℕ) (ds out : List ℕ) → length ds ≤ length out → (r : Result TapInfo Refusal) (out' : List ℕ) (o : Outcome Tap) → o ≡ accepted (tap_with v ds)
    → TapPromise o out r out' → TapReturned v ds out r out'
tap_returned v ds out h r out' o e s =
    let t = rw e at s in
    record {
      answer = t.0;
      put = rw t.1 (part-put out 0 ds (omega arith));
      rest = rw t.1 (rest-front out ds (length ds) refl h);
    }

take-written : (file bytes : List ℕ) (count : ℕ) (file' : List ℕ) → length bytes ≡ count → length bytes ≤ length file → file' ≡ put_at file 0 bytes
    → take count file' ≡ bytes
take-written file bytes count file' l h e = rw (e, ← l) (part-put file 0 bytes (omega arith))

-- what the writer put holds the version and the durations
pub tap_of-written : (v : ℕ) (ds file : List ℕ) (count : ℕ) (file' : List ℕ) → Written (write_tap (length file) v ds) file (Ok count) file'
    → tap_of (take count file') ≡ accepted (tap_with v ds)
tap_of-written v ds file count file' w =
    let m = mapped-accepted length (write_tap (length file) v ds) w.0 in
    let t = write_tap-accepted (length file) v ds m.0 m.1 in
    let p : file' ≡ put_at file 0 m.0 = rw m.1 at w.1 in
    let b : take count file' ≡ m.0 = take-written file m.0 count file' m.2 t.fits p in
    rw (b, t.file) (tap_of-tap_file v ds t.few t.old t.has)

read_tap-room : (v : ℕ) (ds file : List ℕ) (room : ℕ) → tap_of file ≡ accepted (tap_with v ds) → length ds ≤ room → read_tap room file ≡ accepted (tap_with v ds)
unfolding read_tap fitting
read_tap-room v ds file room e h = rw (e, if_room-room room (length ds) _ h)

pub round_trip : RoundTrip
round_trip = record {
  returned = λ v ds file count file' w out h r out'.
      tap_returned v ds out h r out' (read_tap (length out) (take count file')) (read_tap-room v ds (take count file') (length out) (tap_of-written v ds file count file' w) h);
  written = write_tap-writable;
  zero = without-zero;
  one = without-one;
}
