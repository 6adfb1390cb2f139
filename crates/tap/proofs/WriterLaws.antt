-- Writing: what the loops keep, and what the calls come to.
use Prim.Native.Nat.{ℕ, suc, ◌+◌, ◌-◌, ◌*◌, ◌≤◌, ◌<◌}
use native.Mathlib.Nat.{zero-add}
use native.Mathlib.Omega.{arith}
use mathlib.Core.Path.{◌≡◌, refl, sym, ap, ◌∙◌}
use mathlib.Core.Bool.{Bool, true, false, ◌||◌}
use mathlib.Core.List.{List, [], ◌∷◌, ◌++◌, append_assoc}
use borrow.Rule.Slice.PartMut.{put_mid}
use Rattle.std.specs.Prelude.{Option, None, Some, Result, Err, Ok, cond, not}
use Rattle.std.specs.Bool.{then_some}
use Rattle.std.specs.List.{position_from}
use Rattle.std.specs.Int.{w32, to_le_bytes}
use Rattle.std.specs.Option.{is_some}
use borrow.Author.Tests.{lt-ltb, le-ltb}
use lib.Dec.{eqb}
use lib.ListN.{length, take, drop, get_or, set, length-append, length-set}
use lib.Seq.{sets, sets-eq, drop-drop}
use Rattle.lists.specs.Text.{ascii, low_first}
use Rattle.lists.proofs.PlaceLaws.{position-first}
use Rattle.lists.proofs.TextLaws.{le_bytes-low}
use Rattle.lists.proofs.BufferLaws.{put-room, put_front, sets-append}
use Rattle.lists.proofs.LoopLaws.{first_left, first-passed, first-here, first-over, Putting, put_next, put-done}
use Rattle.refusal.specs.declared.Reason.TheVariants.{WrongSize, NoRoom, WrongTapVersion, NoTapForm}
use Rattle.refusal.specs.declared.Refusal.{Refusal}
use Rattle.refusal.specs.Refusal.{refusal_at}
use Rattle.refusal.specs.Outcome.{accepted, refused_with, mapped, and_then, refuse_first, outcome_of}
use Rattle.refusal.specs.Promise.{Written}
use Rattle.refusal.proofs.OutcomeLaws.{refuse_first-accepted, mapped-refused, mapped-accepted, if_room-no_room, if_room-room}
use Rattle.refusal.proofs.PromiseLaws.{written-refused, written-accepted}
use Rattle.tap.specs.Tap.{tap_header, form_of, tap_data, tap_file, has_no_form, first_without, data_of, put_file, write_tap}
use Rattle.tap.specs.private.Forms.{is_missing}
use Rattle.tap.proofs.FormLaws.{width-form_of, tap_data-next, tap_data-over}

-- values copied into the part of a buffer from a place on
put-part : (out : List ℕ) (at k : ℕ) (values : List ℕ) {copied : List ℕ} → k ≡ length values → at + k ≤ length out → copied ≡ values → put_mid at k out copied ≡ sets out at values
put-part out at k values l h e = rw (e, l, drop-drop) (sym (append_assoc (take at out) values _) ∙ sym (sets-eq values out at (rw l at h)))

-- a long form is a zero byte, and three bytes copied after it
pub sets-long_form : (out : List ℕ) (at n : ℕ) {bytes copied : List ℕ} → at + 4 ≤ length out → bytes ≡ to_le_bytes w32 n → copied ≡ take 3 bytes
    → put_mid (at + 1) (at + 4 - (at + 1)) (set out at 0) copied ≡ sets out at (0 ∷ low_first 3 n)
unfolding low_first
sets-long_form out at n {bytes} {copied} h p q =
    let low : copied ≡ low_first 3 n = q ∙ ap (take 3) (p ∙ le_bytes-low n) in
    let next : at + 1 ≡ suc at = omega arith in
    let room : at + 1 + (at + 4 - (at + 1)) ≤ length (set out at 0) = rw length-set (omega arith) in
    put-part (set out at 0) (at + 1) (at + 4 - (at + 1)) (low_first 3 n) (omega arith) room low ∙ ap (λ i. sets (set out at 0) i (low_first 3 n)) next

-- ---- Measuring

or_step : (m t f : Bool) → ((m || t) || f) ≡ (m || (t || f))
or_step true t f = refl
or_step false t f = refl

or-last : (m : Bool) → m ≡ (m || false)
or-last true = refl
or-last false = refl

sum_either : (m : Bool) (n : ℕ) → then_some (not m) n ≡ cond m None (Some n)
sum_either true n = refl
sum_either false n = refl

some_either : (m : Bool) (n : ℕ) {k : ℕ} → cond m None (Some n) ≡ Some k → (m ≡ false) × (k ≡ n)
some_either true n e = absurd (let z : ◌≡◌ {A = ℕ} 0 1 = cc in omega arith)
some_either false n e = (refl, cc)

module _ (v : ℕ) (ds : List ℕ) where
  abbrev without : ℕ → Bool
  without j = has_no_form v (get_or ds j 0)

  -- the sum, where no form is missing
  abbrev pub sum_of : Option ℕ
  sum_of = cond (is_missing v ds) None (Some (length (tap_data v ds)))

  -- the first without a form, from place i on
  abbrev left : ℕ → Option ℕ
  left i = first_left without (length ds) i

  found-next : (i : ℕ) → i < length ds → is_some (left i) ≡ (without i || is_some (left (i + 1)))
  found-next i h = go (without i) refl
    where
      go : (t : Bool) → without i ≡ t → is_some (left i) ≡ (t || is_some (left (i + 1)))
      go true e = ap is_some (first-here without (length ds) i h e)
      go false e = ap is_some (sym (first-passed without (length ds) i h e))

  -- with the forms of those before place i, those of the rest give all data bytes, and whether one is missing
  pub record MeasuredForms (i n : ℕ) (missing : Bool) : Type 0 where
    pub within : i ≤ length ds
    pub few : n ≤ 4 * i
    pub whole : n + length (tap_data v (drop i ds)) ≡ length (tap_data v ds)
    pub found : (missing || is_some (left i)) ≡ is_missing v ds

  module _ {i n : ℕ} {missing : Bool} (u : MeasuredForms i n missing) where
    pub measure-next : {w : ℕ} → i < length ds → w ≡ length (form_of v (get_or ds i 0)) → MeasuredForms (i + 1) (n + w) (missing || eqb w 0)
    measure-next {w} h e =
        let s = ap length (tap_data-next v ds i h) ∙ length-append (form_of v (get_or ds i 0)) (tap_data v (drop (i + 1) ds)) in
        let f = width-form_of (get_or ds i 0) v in
        record {
          within = omega arith;
          few = omega (arith, u.few);
          whole = omega (arith, u.whole);
          found = or_step missing (eqb w 0) (is_some (left (i + 1)))
              ∙ ap (λ x. missing || (eqb x 0 || is_some (left (i + 1)))) e ∙ ap (λ x. missing || x) (sym (found-next i h)) ∙ u.found;
        }

    pub measure-done : length ds ≤ i → {r : Option ℕ} → r ≡ then_some (not missing) n → r ≡ sum_of
    measure-done h e =
        let l = ap length (tap_data-over v ds i h) in
        let bytes : n ≡ length (tap_data v ds) = omega (arith, u.whole) in
        let some : missing ≡ is_missing v ds = or-last missing ∙ ap (λ o. missing || is_some o) (sym (first-over without (length ds) i h)) ∙ u.found in
        e ∙ rw (bytes, some) (sum_either (is_missing v ds) (length (tap_data v ds)))

  -- ---- The first without a form

  pub first_without-found : {r : Option ℕ} → r ≡ position_from (has_no_form v) 0 ds → r ≡ first_without v ds
  first_without-found e = e ∙ position-first (has_no_form v) without 0 ds 0 (λ k b. ap without (sym (zero-add k)))

  module _ {r : Option ℕ} (e : r ≡ sum_of) where
    pub sum-some : {n : ℕ} → r ≡ Some n → (is_missing v ds ≡ false) × (n ≡ length (tap_data v ds))
    sum-some q = some_either (is_missing v ds) (length (tap_data v ds)) (sym e ∙ q)

  pub data_of-no_tap_form : {i : ℕ} {r : Refusal} → first_without v ds ≡ Some i → r ≡ refusal_at NoTapForm i → refused_with r ≡ mapped length (data_of v ds)
  unfolding data_of
  data_of-no_tap_form e q = rw (e, q)

  pub data_of-accepted : {n : ℕ} → is_missing v ds ≡ false → n ≡ length (tap_data v ds) → accepted n ≡ mapped length (data_of v ds)
  unfolding data_of
  data_of-accepted m e = rw e (go (first_without v ds) m)
    where
      go : (o : Option ℕ) → is_some o ≡ false → accepted (length (tap_data v ds)) ≡ mapped length (refuse_first NoTapForm o (accepted (tap_data v ds)))
      go None m = refl
      go (Some place) m = absurd (let z : ◌≡◌ {A = ℕ} 0 1 = cc in omega arith)

  -- ---- Putting

  module _ (before : List ℕ) (start : ℕ) where
    -- the forms left, put after those that are there, give all
    pub record DataPut (out left : List ℕ) (at : ℕ) : Type 0 where
      pub end : at + length (tap_data v left) ≡ start + length (tap_data v ds)
      pub put : Putting before start (tap_data v ds) out at (tap_data v left)

    module _ {out left : List ℕ} {at : ℕ} (u : DataPut out left at) (forms later : List ℕ) (s : tap_data v left ≡ forms ++ tap_data v later) where
      more : length (tap_data v left) ≡ length forms + length (tap_data v later)
      more = ap length s ∙ length-append forms (tap_data v later)

      pub DataPut-room : start + length (tap_data v ds) ≤ length before → at + length forms ≤ length out
      DataPut-room h = omega (arith, more, u.end, u.put.long)

      pub DataPut-next : {out' : List ℕ} {at' : ℕ} → out' ≡ sets out at forms → at' ≡ at + length forms → DataPut out' later at'
      DataPut-next q l = record { end = omega (arith, more, u.end); put = put_next u.put forms (tap_data v later) s q l }

    module _ {out left : List ℕ} {at : ℕ} (u : DataPut out left at) (h : tap_data v left ≡ []) where
      pub DataPut-end : at ≡ start + length (tap_data v ds)
      DataPut-end = let l = ap length h in omega (arith, u.end)

      pub DataPut-done : out ≡ sets before start (tap_data v ds)
      DataPut-done = put-done u.put h

-- ---- What the writer comes to

pub length-tap_header : (v n : ℕ) → length (tap_header v n) ≡ 20
unfolding tap_header ascii low_first
length-tap_header v n = refl

pub length-tap_file : (v : ℕ) (bytes : List ℕ) → length (tap_file v bytes) ≡ 20 + length bytes
length-tap_file v bytes = length-append (tap_header v (length bytes)) bytes ∙ rw length-tap_header

module _ (out : List ℕ) (v : ℕ) (bytes : List ℕ) {n : ℕ} (e : n ≡ length bytes) where
  pub put_file-no_room : {r : Refusal} → length out < 20 + n → r ≡ refusal_at NoRoom 0 → Written (put_file (length out) v bytes) out (Err r) out
  unfolding put_file
  put_file-no_room h = written-refused (put_file (length out) v bytes) out (rw (if_room-no_room (length out) (length (tap_file v bytes)) _ (rw (length-tap_file v bytes, ← e) h)))

  pub put_file-accepted : {header front two : List ℕ} → 20 + n ≤ length out → header ≡ tap_header v n → front ≡ header → two ≡ sets (front ++ drop 20 out) 20 bytes
      → Written (put_file (length out) v bytes) out (Ok (20 + n)) two
  unfolding put_file
  put_file-accepted {header} {front} {two} h p q s =
      let l = length-tap_file v bytes in
      let k = length-tap_header v (length bytes) in
      let g : front ≡ tap_header v (length bytes) = q ∙ p ∙ ap (tap_header v) e in
      let o : front ++ drop 20 out ≡ sets out 0 (tap_header v (length bytes)) =
      ap (λ f. f ++ drop 20 out) g ∙ ap (λ m. tap_header v (length bytes) ++ drop m out) (sym k)
      ∙ rw (put-room out 0 (tap_header v (length bytes)) (omega arith), put_front out (tap_header v (length bytes)) (omega arith)) in
      let w : two ≡ sets out 0 (tap_file v bytes) = s ∙ ap (λ b. sets b 20 bytes) o ∙ sym (sets-append (tap_header v (length bytes)) bytes out 0 ∙ rw (zero-add, k)) in
      written-accepted (put_file (length out) v bytes) out (rw (if_room-room (length out) (length (tap_file v bytes)) _ (omega arith))) (l ∙ rw e) (w ∙ put-room out 0 (tap_file v bytes) (omega arith))

module _ (out : List ℕ) (v : ℕ) (ds : List ℕ) where
  pub write_tap-wrong_size : {r : Refusal} → 1048576 < length ds → r ≡ refusal_at WrongSize 0 → Written (write_tap (length out) v ds) out (Err r) out
  unfolding write_tap
  write_tap-wrong_size h = written-refused (write_tap (length out) v ds) out (rw (lt-ltb 1048576 (length ds) h))

  module _ (few : length ds ≤ 1048576) where
    pub write_tap-wrong_tap_version : {r : Refusal} → 1 < v → r ≡ refusal_at WrongTapVersion 0 → Written (write_tap (length out) v ds) out (Err r) out
    unfolding write_tap
    write_tap-wrong_tap_version h = written-refused (write_tap (length out) v ds) out (rw (le-ltb 1048576 (length ds) few, lt-ltb 1 v h))

    write_tap-data_of : v ≤ 1 → write_tap (length out) v ds ≡ and_then (data_of v ds) (put_file (length out) v)
    unfolding write_tap
    write_tap-data_of old = rw (le-ltb 1048576 (length ds) few, le-ltb 1 v old)

    module _ (old : v ≤ 1) {a : Result ℕ Refusal} (e : outcome_of a ≡ mapped length (data_of v ds)) where
      pub write_tap-no_tap_form : {r : Refusal} → a ≡ Err r → Written (write_tap (length out) v ds) out (Err r) out
      write_tap-no_tap_form {r} q =
          written-refused (write_tap (length out) v ds) out {s = r} (write_tap-data_of old ∙ ap (λ o. and_then o (put_file (length out) v)) (mapped-refused length (data_of v ds) r (sym (ap outcome_of q) ∙ e))) refl

      module _ {n : ℕ} (q : a ≡ Ok n) where
        data_of-counted : data_of v ds ≡ accepted (tap_data v ds)
        unfolding data_of
        data_of-counted =
            let m = mapped-accepted length (data_of v ds) (sym (ap outcome_of q) ∙ e) in
            m.1 ∙ sym (refuse_first-accepted NoTapForm (first_without v ds) (accepted (tap_data v ds)) m.0 m.1).1

        pub length-data_of : n ≡ length (tap_data v ds)
        length-data_of = let m : accepted n ≡ accepted (length (tap_data v ds)) = sym (ap outcome_of q) ∙ e ∙ ap (mapped length) data_of-counted in cc

        pub write_tap-put_file : (r : Result ℕ Refusal) {out' : List ℕ} → Written (put_file (length out) v (tap_data v ds)) out r out' → Written (write_tap (length out) v ds) out r out'
        write_tap-put_file r w = rw (write_tap-data_of old, data_of-counted) w
