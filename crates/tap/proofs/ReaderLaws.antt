-- Reading the data: what the loops keep, and what the calls come to.
use Prim.Native.Nat.{ℕ, ◌+◌, ◌-◌, ◌≤◌, ◌<◌}
use Rattle.tap.specs.declared.TapInfo.{TapInfo}
use Rattle.std.specs.Prelude.{Result, Err, Ok}
use native.Mathlib.Decide.{ℕ_discrete, dec_le}
use native.Mathlib.Omega.{arith}
use mathlib.Core.Path.{◌≡◌, refl, sym, ap, ap₂, ◌∙◌}
use mathlib.Core.Bool.{true}
use mathlib.Core.List.{List, ◌++◌}
use lib.ListN.{length, drop, get_or, length-append, length-drop}
use lib.Seq.{sets, length-sets, take_all}
use Rattle.lists.specs.Places.{part}
use Rattle.lists.proofs.BufferLaws.{put-room, sets-append}
use Rattle.refusal.specs.declared.Reason.TheVariants.{NoRoom, WrongTapHeader, CutLongForm}
use Rattle.refusal.specs.declared.Refusal.{Refusal}
use Rattle.refusal.specs.Refusal.{refusal_at}
use Rattle.refusal.specs.Outcome.{Outcome, refused, accepted, refused_with, mapped, and_then, puts, outcome_of}
use Rattle.refusal.proofs.OutcomeLaws.{cond-accepted, mapped-refused, mapped-accepted, if_room-no_room, if_room-room}
use Rattle.refusal.proofs.PromiseLaws.{promise-refused}
use Rattle.tap.specs.Reading.{wrong_letters, tap_version, durations_in, Tap, tap_with, info_of, durations_of, tap_of, fitting, read_tap, TapPromise}
use Rattle.tap.specs.private.Forms.{no_zeros}
use Rattle.tap.specs.private.Reader.{read_durations, durations_from, Counted, Cut, Fillable, FilledTo}
use Rattle.tap.proofs.DataLaws.{DurationsBetween, durations_from-byte, durations_from-long, length_run, durations_from-run, durations_from-cut, durations_from-over}
use Rattle.tap.proofs.HeaderLaws.{wrong_letters-long}

-- more of them counted in front
counted-more : (count : ℕ) (xs : List ℕ) (o : Outcome (List ℕ))
    → mapped (λ ds. count + length xs + length ds) o ≡ mapped (λ ds. count + length ds) (mapped (λ ds. xs ++ ds) o)
counted-more count xs (refused why) = refl
counted-more count xs (accepted ds) = ap accepted (let l = length-append xs ds in let z : count + length xs + length ds ≡ count + length (xs ++ ds) = omega arith in z)

module _ (bytes : List ℕ) where
  -- ---- Counting

  module _ {i count : ℕ} (u : Counted bytes i count) where
    pub count-step : {i' : ℕ} {xs : List ℕ} → DurationsBetween bytes i i' xs → Counted bytes i' (count + length xs)
    count-step {i'} {xs} s = record {
      within = s.within;
      few = omega (arith, u.few);
      whole = counted-more count xs (durations_from bytes i') ∙ ap (mapped (λ ds. count + length ds)) (sym s.durations) ∙ u.whole;
    }

    -- bytes that are a form each, to place `end`
    pub count-run : (end : ℕ) → i ≤ end → end ≤ length bytes → no_zeros (part bytes i (end - i)) ≡ true → Counted bytes end (count + (end - i))
    count-run end h w e = let u' = count-step (durations_from-run bytes i end h w e) in rw (length_run bytes i end h w) at u'

    pub count_cut : {r : Refusal} → i < length bytes → Cut bytes i → r ≡ refusal_at CutLongForm i → refused_with r ≡ mapped length (durations_in 1 0 bytes)
    count_cut h w q = ap refused_with q ∙ ap (mapped (λ ds. count + length ds)) (sym (durations_from-cut bytes i h w)) ∙ u.whole

    pub count-done : length bytes ≤ i → accepted count ≡ mapped length (durations_in 1 0 bytes)
    count-done h = ap accepted (let z : count ≡ count + 0 = omega arith in z) ∙ ap (mapped (λ ds. count + length ds)) (sym (durations_from-over bytes i h)) ∙ u.whole

  -- ---- Filling

  -- the data from place i on are sound
  abbrev pub Sound : ℕ → Type 0
  Sound i = durations_from bytes i ≡ accepted (puts (durations_from bytes i))

  -- sound data are sound further on
  sound-step : {i i' : ℕ} {xs : List ℕ} → DurationsBetween bytes i i' xs → Sound i → Sound i' × (puts (durations_from bytes i) ≡ xs ++ puts (durations_from bytes i'))
  sound-step {i' = i'} {xs} s h =
      let m = mapped-accepted (λ ds. xs ++ ds) (durations_from bytes i') (sym h ∙ s.durations) in
      (m.1 ∙ ap accepted (sym (ap puts m.1)), sym m.2 ∙ ap (λ (ds : List ℕ). xs ++ ds) (sym (ap puts m.1)))

  pub sound-long : (i : ℕ) → i < length bytes → Sound i → get_or bytes i 0 ≡ 0 → i + 4 ≤ length bytes
  sound-long i h s z = elim (dec_le (i + 4) (length bytes)) [
    | yes w ↦ w
    | no w ↦ absurd (let e = durations_from-cut bytes i h (record { zero = z; short = omega arith }) in let q : ◌≡◌ {A = ℕ} 0 1 = cc in omega arith)
  ]

  module _ {i k : ℕ} {out : List ℕ} (u : Fillable bytes i out k) where
    pub fillable-room : {i' : ℕ} {xs : List ℕ} → DurationsBetween bytes i i' xs → k + length xs ≤ length out
    fillable-room {i'} {xs} s =
        let e = ap length (sound-step s u.sound).1 in
        let l = length-append xs (puts (durations_from bytes i')) in
        omega (arith, u.room)

    pub fillable-more : i < length bytes → k < length out
    fillable-more h = elim (ℕ_discrete (get_or bytes i 0) 0) [
      | yes z ↦ omega (arith, fillable-room (durations_from-long bytes i z (sound-long i h u.sound z)))
      | no n ↦ omega (arith, fillable-room (durations_from-byte bytes i h n))
    ]

    pub fill-begun : FilledTo bytes i out k i out k
    fill-begun = record { fillable = u; whole = refl }

  module _ {i₀ i k₀ k : ℕ} {out₀ out : List ℕ} (u : FilledTo bytes i₀ out₀ k₀ i out k) where
    pub fill_step : {i' k' : ℕ} {xs out' : List ℕ} → DurationsBetween bytes i i' xs → out' ≡ sets out k xs → k' ≡ k + length xs → FilledTo bytes i₀ out₀ k₀ i' out' k'
    fill_step {i'} {k'} {xs} {out'} s p q =
        let n = sound-step s u.fillable.sound in
        let e = ap length n.1 in
        let l = length-append xs (puts (durations_from bytes i')) in
        let o : length out' ≡ length out = ap length p ∙ length-sets out k xs in
        record {
          fillable = record { within = s.within; sound = n.0; room = omega (arith, u.fillable.room) };
          whole = ap₂ (λ b j. sets b j (puts (durations_from bytes i'))) p q ∙ sym (sets-append xs (puts (durations_from bytes i')) out k) ∙ ap (sets out k) (sym n.1) ∙ u.whole;
        }

    pub fill-length : length out ≡ length out₀
    fill-length = sym (length-sets out k (puts (durations_from bytes i))) ∙ ap length u.whole ∙ length-sets out₀ k₀ (puts (durations_from bytes i₀))

    pub fill_done : length bytes ≤ i → out ≡ sets out₀ k₀ (puts (durations_from bytes i₀))
    fill_done h = ap (sets out k) (sym (ap puts (durations_from-over bytes i h))) ∙ u.whole

-- ---- What the reader comes to

TapPromise-refused : (o : Outcome Tap) (out : List ℕ) {r s : Refusal} → o ≡ refused_with s → r ≡ s → TapPromise o out (Err r) out
TapPromise-refused o out e q = promise-refused info_of durations_of o out e (ap refused_with q)

module _ (v : ℕ) (bytes out : List ℕ) {a : Result ℕ Refusal} (e : outcome_of a ≡ mapped length (durations_in v 0 bytes)) where
  pub read_durations-cut_long_form : {r : Refusal} → a ≡ Err r → TapPromise (read_durations (length out) v bytes) out (Err r) out
  unfolding read_durations
  read_durations-cut_long_form {r} q =
      TapPromise-refused (read_durations (length out) v bytes) out {s = r} (ap (λ o. and_then (mapped (tap_with v) o) (fitting (length out))) (mapped-refused length (durations_in v 0 bytes) r (sym (ap outcome_of q) ∙ e))) refl

  module _ {count : ℕ} (q : a ≡ Ok count) where
    durations_in-counted : (ds : List ℕ) × (durations_in v 0 bytes ≡ accepted ds) × (length ds ≡ count)
    durations_in-counted = mapped-accepted length (durations_in v 0 bytes) (sym (ap outcome_of q) ∙ e)

    pub durations_in-sound : durations_in v 0 bytes ≡ accepted (puts (durations_in v 0 bytes))
    durations_in-sound = durations_in-counted.1 ∙ ap accepted (sym (ap puts durations_in-counted.1))

    pub length-durations_in : length (puts (durations_in v 0 bytes)) ≡ count
    length-durations_in = ap (λ o. length (puts o)) durations_in-counted.1 ∙ durations_in-counted.2

    read_durations-fitting : read_durations (length out) v bytes ≡ fitting (length out) (tap_with v (puts (durations_in v 0 bytes)))
    unfolding read_durations
    read_durations-fitting = ap (λ o. and_then (mapped (tap_with v) o) (fitting (length out))) durations_in-sound

    pub read_durations-no_room : {r : Refusal} → length out < count → r ≡ refusal_at NoRoom 0 → TapPromise (read_durations (length out) v bytes) out (Err r) out
    unfolding fitting
    read_durations-no_room h = TapPromise-refused (read_durations (length out) v bytes) out (read_durations-fitting ∙ rw (if_room-no_room (length out) (length (puts (durations_in v 0 bytes))) _ (rw length-durations_in h)))

    pub read_durations-accepted : {out' : List ℕ} → count ≤ length out → out' ≡ sets out 0 (puts (durations_in v 0 bytes))
        → TapPromise (read_durations (length out) v bytes) out (Ok (record { version = v; count = count })) out'
    unfolding fitting
    read_durations-accepted h s =
        let l = length-durations_in in
        let f : read_durations (length out) v bytes ≡ accepted (tap_with v (puts (durations_in v 0 bytes))) = read_durations-fitting ∙ rw (if_room-room (length out) (length (puts (durations_in v 0 bytes))) _ (omega arith)) in
        rw f (ap (λ n. accepted (record { version = v; count = n })) (sym l), s ∙ put-room out 0 (puts (durations_in v 0 bytes)) (omega arith))

module _ (file out : List ℕ) {h : Result ℕ Refusal} (e : outcome_of h ≡ tap_version file) where
  pub read_tap-wrong_header : {r : Refusal} → h ≡ Err r → TapPromise (read_tap (length out) file) out (Err r) out
  unfolding read_tap tap_of
  read_tap-wrong_header {r} q = TapPromise-refused (read_tap (length out) file) out {s = r} (rw (← e, q)) refl

  module _ {v : ℕ} (q : h ≡ Ok v) where
    tap_version-answered : tap_version file ≡ accepted v
    tap_version-answered = sym e ∙ ap outcome_of q

    pub tap_version-long : 20 ≤ length file
    unfolding tap_version
    tap_version-long = wrong_letters-long file (cond-accepted (wrong_letters file) (refusal_at WrongTapHeader 0) _ v tap_version-answered).0

    read_tap-read_durations : read_tap (length out) file ≡ read_durations (length out) v (drop 20 file)
    unfolding read_tap tap_of read_durations
    read_tap-read_durations = rw tap_version-answered

    pub read_tap-sound_header : (r : Result TapInfo Refusal) {out' : List ℕ} → TapPromise (read_durations (length out) v (part file 20 (length file - 20))) out r out' → TapPromise (read_tap (length out) file) out r out'
    read_tap-sound_header r s = rw (read_tap-read_durations, ← (take_all (length file - 20) (drop 20 file) (rw length-drop (omega arith)))) s
