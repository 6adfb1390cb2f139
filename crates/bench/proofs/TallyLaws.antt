-- Laws of the loop over bytes: the tally of the bytes passed, with those that are left, is the whole.
use Prim.Native.Nat.{ℕ, suc, ◌+◌, ◌*◌, ◌-◌, ◌/◌, ◌≤◌, ◌<◌}
use Rattle.std.specs.Prelude.{Option, None, Some}
use native.Mathlib.Numerals.{add-one}
use native.Mathlib.Omega.{arith}
use mathlib.Core.Path.{◌≡◌, refl, sym, ap, ◌∙◌}
use mathlib.Core.List.{List, ◌++◌}
use lib.ListN.{length, take, drop, length-append, length-drop}
use lib.Seq.{drop-drop, take-append_seam, drop-append_seam}
use Rattle.lists.specs.Places.{part}
use Rattle.pulse.specs.declared.Thresholds.{Thresholds}
use Rattle.pulse.specs.Pulse.{classes}
use Rattle.pulse.specs.declared.Class.{Class}
use Rattle.byte.specs.declared.ByteRead.{ByteRead}
use Rattle.byte.specs.declared.ByteRead.TheVariants.{Good, Bad}
use Rattle.byte.specs.Byte.{value_in, byte_at, read_frame}
use Rattle.byte.proofs.ByteLaws.{read_frame-part}
use Rattle.bench.specs.declared.BenchTally.{BenchTally}
use Rattle.bench.specs.Bench.{counted, tally_from, tally_of}

-- a frame more: one with a value is a good byte
abbrev pub counted_frame : BenchTally → Option ℕ → BenchTally
counted_frame t (Some v) = counted t (Good v)
counted_frame t None = t

frame-counted : (t : BenchTally) (b : ByteRead) → counted_frame t (value_in b) ≡ counted t b
frame-counted t (Good v) = refl
frame-counted t (Bad cause) = refl

module _ (cs : List Class) (n : ℕ) where
  abbrev pub tally_left : BenchTally → ℕ → BenchTally
  tally_left t i = tally_from cs t (n - i) i

  pub tally-next : (t : BenchTally) (i : ℕ) {b : (Option ℕ)} → i < n → b ≡ value_in (byte_at cs (20 * i)) → tally_left (counted_frame t b) (i + 1) ≡ tally_left t i
  unfolding tally_from
  tally-next t i h e = let s : n - i ≡ suc (n - (i + 1)) = omega arith in rw (s, e, add-one, frame-counted t (byte_at cs (20 * i)))

  pub tally-over : (t : BenchTally) (i : ℕ) → n ≤ i → tally_left t i ≡ t
  unfolding tally_from
  tally-over t i h = let z : n - i ≡ 0 = omega arith in rw z

few-counted : (t : BenchTally) (b : Option ℕ) {n : ℕ} → t.good ≤ n → (counted_frame t b).good ≤ n + 1
few-counted t (Some v) h = omega arith
few-counted t None h = omega arith

-- The tally so far, with the frames that are left, gives the whole. They begin at a place by twenties.
pub record Tallied (th : Thresholds) (pulses left : List ℕ) (t : BenchTally) : Type 0 where
  pub turn : ℕ
  pub within : 20 * turn ≤ length pulses
  pub rest : left ≡ drop (20 * turn) pulses
  pub few : t.good ≤ turn
  pub whole : tally_left (classes th pulses) (length pulses / 20) t turn ≡ tally_of (classes th pulses)

module _ (th : Thresholds) (pulses : List ℕ) where
  module _ {left : List ℕ} {t : BenchTally} (u : Tallied th pulses left t) where
    -- a frame more, and those that are left after it
    pub Tallied-next : (frame : List ℕ) {later : List ℕ} {b : Option ℕ} → left ≡ frame ++ later → length frame ≡ 20 → b ≡ read_frame (classes th frame) → Tallied th pulses later (counted_frame t b)
    Tallied-next frame {later} {b} e l q =
        let n : 20 * u.turn + 20 ≤ length pulses = omega (arith, ap length (sym u.rest ∙ e), length-append frame later, length-drop (20 * u.turn) pulses) in
        let here : frame ≡ part pulses (20 * u.turn) (20 * u.turn + 20 - 20 * u.turn) =
        sym (take-append_seam frame later) ∙ ap (λ xs. take (length frame) xs) (sym e ∙ u.rest) ∙ ap (λ k. part pulses (20 * u.turn) k) (let z : length frame ≡ 20 * u.turn + 20 - 20 * u.turn = omega arith in z) in
        record {
          turn = u.turn + 1;
          within = omega arith;
          rest = sym (drop-append_seam frame later) ∙ ap (λ xs. drop (length frame) xs) (sym e ∙ u.rest) ∙ drop-drop (length frame) (20 * u.turn) pulses
              ∙ ap (λ k. drop k pulses) (let z : 20 * u.turn + length frame ≡ 20 * (u.turn + 1) = omega arith in z);
          few = few-counted t b u.few;
          whole = tally-next (classes th pulses) (length pulses / 20) t u.turn (omega arith) (q ∙ ap (λ f. read_frame (classes th f)) here ∙ read_frame-part th pulses (20 * u.turn) n) ∙ u.whole;
        }

    pub Tallied-over : length left < 20 → tally_of (classes th pulses) ≡ t
    Tallied-over h =
        let l = ap length u.rest ∙ length-drop (20 * u.turn) pulses in
        sym u.whole ∙ tally-over (classes th pulses) (length pulses / 20) t u.turn (omega arith)
