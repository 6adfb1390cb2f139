-- A byte's eight bits as four quarters, whose pulses stand in a table.
use Rattle.std.proofs.Common.{◌≡◌, ℕ, zero, suc, ◌+◌, ◌-◌, ◌*◌, ◌/◌, ◌%◌, ◌<◌, ◌≤◌, List, [], ◌++◌, length, get_or, set, ap, ◌∙◌, add-zero, zero-add, arith, drop_of_length-le}
use native.Mathlib.Nat.{mul-add-mod_self_left}
use lib.ListN.{length-map}
use lib.Seq.{sets}
use Rattle.lists.proofs.LoopLaws.{Putting, Copied, copy-next, put-done}
use Rattle.pulse.specs.Pulse.{written_as, pulses}
use Rattle.pulse.proofs.PulseLaws.{put-pulses}
use Rattle.byte.specs.Byte.{bits, coded}
use Rattle.byte.specs.private.Quarters.{quarter, quarters_from, quarters}
use Rattle.byte.proofs.CodingLaws.{coded-append, length-coded_bits}

length-quarter : (n : ℕ) → length (quarter n) ≡ 4
length-quarter n = length-map (coded (bits 2 n)) written_as ∙ length-coded_bits 2 n

-- ---- The table

row_from : (count at n : ℕ) → n < count → get_or (quarters_from count at) n [] ≡ quarter (at + n)
unfolding quarters_from
row_from zero at n h = absurd (omega arith)
row_from (suc count) at zero h = rw (add-zero at)
row_from (suc count) at (suc n) h = row_from count (suc at) n (omega arith) ∙ ap quarter (let z : suc at + n ≡ at + suc n = omega arith in z)

row_at : {table : List (List ℕ)} (n : ℕ) → table ≡ quarters → n < 4 → get_or table n [] ≡ quarter n
row_at n e h = rw e (row_from 4 0 n h ∙ ap quarter (zero-add n))

-- ---- A quarter is copied from its row

module _ (out₀ : List ℕ) (at n : ℕ) {out : List ℕ} {i : ℕ} (u : Copied out₀ at (quarter n) out i) where
  pub quarter-next : {table : List (List ℕ)} → table ≡ quarters → n < 4 → i < 4
      → Copied out₀ at (quarter n) (set out (at + i) (get_or (get_or table n []) i 0)) (i + 1)
  quarter-next e h l = rw (row_at n e h) (copy-next out₀ at (quarter n) u (rw (length-quarter n) l))

  pub quarter-done : 4 ≤ i → out ≡ sets out₀ at (quarter n)
  quarter-done h = let l : length (quarter n) ≤ i = rw (length-quarter n) h in put-done u (drop_of_length-le (quarter n) l)

-- ---- The eight bits: with i quarters put, the bits of what is left of the byte give the whole

bits-two : (k v : ℕ) → bits (suc (suc k)) v ≡ bits 2 (v % 4) ++ bits k (v / 4)
unfolding bits
bits-two k v =
    let first : v % 2 ≡ v % 4 % 2 = omega arith in
    let half : v / 2 ≡ 2 * (v / 4) + v % 4 / 2 = omega arith in
    let second : v / 2 % 2 ≡ v % 4 / 2 % 2 = rw (half, mul-add-mod_self_left) in
    let later : v / 2 / 2 ≡ v / 4 = omega arith in
    rw (first, second, later)

coded-two : (k v : ℕ) → coded (bits (suc (suc k)) v) ≡ coded (bits 2 (v % 4)) ++ coded (bits k (v / 4))
coded-two k v = ap coded (bits-two k v) ∙ coded-append (bits 2 (v % 4)) (bits k (v / 4))

module _ (out₀ : List ℕ) (at b : ℕ) where
  abbrev pub BitsPut : List ℕ → (rest i : ℕ) → Type 0
  BitsPut out rest i = Putting out₀ at (pulses (coded (bits 8 b))) out (at + 4 * i) (pulses (coded (bits (8 - 2 * i) rest)))

  module _ (rest : ℕ) {out : List ℕ} {i : ℕ} (u : BitsPut out rest i) where
    pub BitsPut-next : {out' : List ℕ} → i < 4 → out' ≡ sets out (at + 4 * i) (quarter (rest % 4)) → BitsPut out' (rest / 4) (i + 1)
    BitsPut-next h e =
        let k = 8 - 2 * (i + 1) in
        let s : 8 - 2 * i ≡ suc (suc k) = omega arith in
        put-pulses (coded (bits 2 (rest % 4))) (coded (bits k (rest / 4))) (rw (s, coded-two k rest) at u) e (length-coded_bits 2 (rest % 4)) (omega arith)

    pub BitsPut-done : 4 ≤ i → out ≡ sets out₀ at (pulses (coded (bits 8 b)))
    unfolding bits coded
    BitsPut-done h = let z : 8 - 2 * i ≡ 0 = omega arith in put-done u (rw z)
