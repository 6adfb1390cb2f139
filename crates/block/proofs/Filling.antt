-- The values by what was kept: which copy's bits they are.
use Prim.Native.Nat.{ℕ, ◌+◌, ◌-◌, ◌*◌, ◌≤◌, ◌<◌}
use native.Mathlib.Decide.{ℕ_discrete, dec_lt}
use native.Mathlib.Omega.{arith}
use mathlib.Core.Path.{◌≡◌, refl, sym, ◌∙◌}
use mathlib.Core.Bool.{Bool, true, false, cond, ◌||◌}
use mathlib.Core.List.{List}
use borrow.Author.Tests.{lt-ltb, le-ltb, ne_eqb}
use lib.Dec.{eqb, ltb}
use lib.ListN.{length, get_or}
use lib.Seq.{sets}
use Rattle.lists.specs.Places.{tabulate}
use Rattle.lists.proofs.PlaceLaws.{tabulate-same, length-tabulate}
use Rattle.lists.proofs.LoopLaws.{table_left, table-begun, table-part, Putting, put_next}
use Rattle.lists.proofs.BoolLaws.{or-false}
use Rattle.lists.proofs.BufferLaws.{get_or-after, get_or-stored, sets-there, sets_over}
use Rattle.lists.proofs.CountLaws.{count_none, count-all}
use Rattle.pulse.specs.declared.Thresholds.{Thresholds}
use Rattle.pulse.specs.declared.Class.{Class}
use Rattle.pulse.specs.Pulse.{classes}
use Rattle.byte.specs.declared.ByteRead.{ByteRead}
use Rattle.byte.specs.declared.ByteRead.TheVariants.{Good, Bad}
use Rattle.byte.specs.Byte.{byte_at, is_bad}
use Rattle.block.specs.Reading.{place_of, no_value, place_value, place_at, is_lost, value_at, values_at}
use Rattle.block.specs.Looking.{is_from_two}
use Rattle.block.specs.private.Values.{bits_at, bits_of, HoldsBits}
use Rattle.block.specs.private.Flags.{flag_at, group_of}
use Rattle.block.specs.private.Checks.{is_repaired, repairs, Flagged, SameFlags, NoneLost}
use Rattle.block.proofs.ValueLaws.{good-bits}

or-zero : (k : ℕ) (b : Bool) → b ≡ false → (eqb k 0 || b) ≡ true → k ≡ 0
or-zero k b e h = elim (ℕ_discrete k 0) [ yes z ↦ z | no z ↦ absurd (let f = rw (ne_eqb k 0 z, e) at h in let w : ◌≡◌ {A = ℕ} 0 1 = cc in omega arith) ]

-- ---- A value that is not lost

module _ (t : Thresholds) (strip : List ℕ) (one two : ℕ) where
  abbrev cs : List Class
  cs = classes t strip

  -- it is copy one's, or it is copy two's
  by_copy : (at : ℕ) (a b : ByteRead) → byte_at cs (one + at) ≡ a → byte_at cs (two + at) ≡ b → no_value (place_of a b) ≡ false
      → bits_at t strip (cond (is_from_two (place_of a b)) two one + at) ≡ place_value (place_of a b)
  by_copy at (Good v) b p q h = good-bits t strip (one + at) p
  by_copy at (Bad cause) (Good v) p q h = good-bits t strip (two + at) q
  by_copy at (Bad cause) (Bad other) p q h = absurd (let z : ◌≡◌ {A = ℕ} 0 1 = cc in omega arith)

  bits-value : (i : ℕ) {repaired : Bool} → is_lost cs one two i ≡ false → is_repaired cs one two i ≡ repaired → bits_of t strip (cond repaired two one) i ≡ value_at cs one two i
  unfolding place_at
  bits-value i h e = rw (← e) (by_copy (20 * (9 + i)) _ _ refl refl h)

  -- ---- Places in a row

  module _ (n : ℕ) (values : NoneLost cs one two n) where
    part-value : (i end : ℕ) {repaired : Bool} → i ≤ end → end ≤ n → ((j : ℕ) → i ≤ j → j < end → is_repaired cs one two j ≡ repaired)
        → tabulate (bits_of t strip (cond repaired two one)) (end - i) i ≡ tabulate (value_at cs one two) (end - i) i
    part-value i end {repaired} h l e =
        tabulate-same (bits_of t strip (cond repaired two one)) (value_at cs one two) (end - i) i
        (λ j a b. bits-value j (values j (omega arith)) (e j a (omega arith)))

    -- where none is repaired, and where each is
    values_one : {repaired : ℕ} → repaired ≡ repairs cs one two n → repaired ≡ 0 → tabulate (bits_of t strip one) n 0 ≡ values_at cs one two n
    values_one c e =
        sym (table-begun (bits_of t strip one) n)
        ∙ part-value 0 n (omega arith) (omega arith) (λ j a b. count_none (is_repaired cs one two) (n + 1) (sym c ∙ e) j (omega arith))
        ∙ table-begun (value_at cs one two) n

    values-two : {repaired : ℕ} → repaired ≡ repairs cs one two n → n < repaired → tabulate (bits_of t strip two) n 0 ≡ values_at cs one two n
    values-two c e =
        sym (table-begun (bits_of t strip two) n)
        ∙ part-value 0 n (omega arith) (omega arith) (λ j a b. count-all (is_repaired cs one two) (n + 1) (omega arith) j (omega arith))
        ∙ table-begun (value_at cs one two) n

    pub values-whole : {repaired copy : ℕ} → repaired ≡ repairs cs one two n → (eqb repaired 0 || ltb n repaired) ≡ true → copy ≡ cond (ltb n repaired) two one
        → tabulate (bits_of t strip copy) n 0 ≡ values_at cs one two n
    values-whole {repaired} c h e = elim (dec_lt n repaired) [
      | yes l ↦ rw (e, lt-ltb n repaired l) (values-two c l)
      | no l ↦
          let z = le-ltb n repaired (omega arith) in
          rw (e, z) (values_one c (or-zero repaired (ltb n repaired) z h))
    ]

    -- where the flags of a run are down copy one's bits are the values
    pub run_value : (row : List ℕ) (i end : ℕ) → Flagged cs one two n row → end ≤ n → SameFlags row i end → flag_at row (group_of i) ≡ false
        → (j : ℕ) → i ≤ j → j < end → bits_of t strip one j ≡ value_at cs one two j
    run_value row i end flagged l same d j a b = bits-value j (values j (omega arith)) (flagged j (omega arith) (same j a b ∙ d))

  -- ---- Another look at copy one's byte

  pub value-one : (i : ℕ) {v : ℕ} → byte_at cs (one + 20 * (9 + i)) ≡ Good v → v ≡ value_at cs one two i
  unfolding place_at
  value-one i e = rw e

  pub value-two : (i : ℕ) → is_lost cs one two i ≡ false → is_bad (byte_at cs (one + 20 * (9 + i))) ≡ true
      → bits_at t strip (two + 20 * (9 + i)) ≡ value_at cs one two i
  unfolding place_at
  value-two i h e = go (byte_at cs (one + 20 * (9 + i))) (byte_at cs (two + 20 * (9 + i))) refl e h
    where
      go : (a b : ByteRead) → byte_at cs (two + 20 * (9 + i)) ≡ b → is_bad a ≡ true → no_value (place_of a b) ≡ false
          → bits_at t strip (two + 20 * (9 + i)) ≡ place_value (place_of a b)
      go (Good w) b f e k = absurd (let z : ◌≡◌ {A = ℕ} 0 1 = cc in omega arith)
      go (Bad cause) (Good v) f e k = good-bits t strip (two + 20 * (9 + i)) f
      go (Bad cause) (Bad other) f e k = absurd (let z : ◌≡◌ {A = ℕ} 0 1 = cc in omega arith)

-- ---- A buffer that holds copy one's bits

module _ (t : Thresholds) (strip : List ℕ) (one n : ℕ) where
  -- they were put
  pub bits-held : {copy : ℕ} (two repaired : ℕ) (out out' : List ℕ) → n ≤ length out → (eqb repaired 0 || ltb n repaired) ≡ false → copy ≡ cond (ltb n repaired) two one
      → out' ≡ sets out 0 (tabulate (bits_of t strip copy) n 0) → HoldsBits t strip one n out' 0
  bits-held two repaired out out' room h e s j a b =
      let l = (or-false (eqb repaired 0) (ltb n repaired) h).1 in
      let same : out' ≡ sets out 0 (tabulate (bits_of t strip one) n 0) = s ∙ rw (e, l) in
      rw same (get_or-stored (bits_of t strip one) n 0 out j (omega arith) a (omega arith))

  -- places after a run that was put hold what they held
  pub bits-after : {i end : ℕ} (out out' : List ℕ) (f : ℕ → ℕ) → i ≤ end → out' ≡ sets out i (tabulate f (end - i) i) → HoldsBits t strip one n out i → HoldsBits t strip one n out' end
  bits-after {i} {end} out out' f h s held j a b =
      rw s (get_or-after (tabulate f (end - i) i) out i j (omega (arith, length-tabulate f (end - i) i)) ∙ held j (omega arith) b)

-- values put over bits are there alone
pub values-over : (t : Thresholds) (strip : List ℕ) (one two n copy : ℕ) (out : List ℕ) {bits out' : List ℕ} → n ≤ length out
    → bits ≡ sets out 0 (tabulate (bits_of t strip copy) n 0) → out' ≡ sets bits 0 (values_at (classes t strip) one two n)
    → out' ≡ sets out 0 (values_at (classes t strip) one two n)
values-over t strip one two n copy out room e s =
    s ∙ rw e (sets_over (bits_of t strip copy) (value_at (classes t strip) one two) n 0 out (omega arith))

-- ---- Values put part by part: with those below i put, the rest put after them gives the whole

module _ (cs : List Class) (one two n : ℕ) (out₀ : List ℕ) where
  abbrev pub ValuesPut : List ℕ → ℕ → Type 0
  ValuesPut out i = Putting out₀ 0 (values_at cs one two n) out i (table_left (value_at cs one two) n i)

  pub values-next : {out out' : List ℕ} {i end : ℕ} → i ≤ end → end ≤ n → ValuesPut out i → out' ≡ sets out i (tabulate (value_at cs one two) (end - i) i) → ValuesPut out' end
  values-next {i = i} {end} h l u e =
      let values = tabulate (value_at cs one two) (end - i) i in
      put_next u values (table_left (value_at cs one two) n end) (table-part (value_at cs one two) n i end h l) e
      (omega (arith, length-tabulate (value_at cs one two) (end - i) i))

  -- a run whose values are there
  pub values-there : {out : List ℕ} {i end : ℕ} → i ≤ end → end ≤ n → n ≤ length out₀ → ValuesPut out i
      → ((j : ℕ) → i ≤ j → j < end → get_or out j 0 ≡ value_at cs one two j) → ValuesPut out end
  values-there {out} {i} {end} h l room u there =
      let long = u.long in
      values-next h l u (sym (sets-there (value_at cs one two) (end - i) i out (omega arith) (λ j a b. there j a (omega arith))))
