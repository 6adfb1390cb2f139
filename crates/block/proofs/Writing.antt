-- What the writer's loops put: with i elements put, those left give the whole.
use Prim.Native.Nat.{ℕ, zero, suc, ◌+◌, ◌-◌, ◌*◌, ◌≤◌, ◌<◌}
use Rattle.std.specs.Prelude.{Result, ℕ, Err, Ok}
use native.Mathlib.Nat.{zero-add}
use native.Mathlib.Numerals.{add-one}
use native.Mathlib.Omega.{arith}
use mathlib.Core.Path.{◌≡◌, refl, sym, ap, ◌∙◌}
use mathlib.Core.Bool.{true, false}
use mathlib.Core.List.{List, [], ◌∷◌, ◌++◌, append-nil, append_assoc}
use lib.ListN.{length, take, drop, set, replicate, length-replicate, length-map, length-take, length-drop}
use lib.Seq.{sets, sets-eq, drop-drop}
use Rattle.lists.specs.Places.{part}
use Rattle.lists.proofs.BufferLaws.{put-room, sets-lent}
use Rattle.lists.proofs.LoopLaws.{put-begun, put_next, put-done}
use Rattle.refusal.specs.declared.Reason.TheVariants.{WrongSize, NoRoom, WrongLeader}
use Rattle.refusal.specs.declared.Refusal.{Refusal}
use Rattle.refusal.specs.Refusal.{refusal_at}
use Rattle.refusal.specs.Outcome.{Outcome, accepted, refused_with, outcome_of}
use Rattle.refusal.specs.Promise.{Fills, itself, Written}
use Rattle.refusal.proofs.PromiseLaws.{written-refused, written-accepted}
use Rattle.refusal.proofs.OutcomeLaws.{if_room-no_room, if_room-room}
use Rattle.pulse.specs.declared.Class.TheVariants.{Short}
use Rattle.pulse.specs.Pulse.{pulses, written_as}
use Rattle.pulse.proofs.PulseLaws.{put-pulses}
use Rattle.byte.specs.Byte.{bytes_classes, bytes_pulses, write_bytes}
use Rattle.byte.proofs.CodingLaws.{length-bytes, length-bytes_pulses}
use Rattle.byte.proofs.Stores.{write_bytes-stored}
use Rattle.start.specs.Copies.{copy_pulses, copy_two, end_of}
use Rattle.block.specs.Block.{checksum, countdown, copy_bytes, copy_classes, trailer, block_classes, block_pulses, wrong_size, wrong_leader, measure_block, write_block, block_length}
use borrow.Rule.Slice.PartMut.{put_mid}
use Rattle.block.proofs.BlockLaws.{bytes-append, length-countdown, length-copy, length-block_pulses, measure_block-accepted}

-- ---- Short pulses

short-pulses : (count : ℕ) → replicate count 360 ≡ pulses (replicate count Short)
short-pulses zero = refl
short-pulses (suc count) = ap (λ xs. 360 ∷ xs) (short-pulses count)

pub shorts-put : (out : List ℕ) (at count : ℕ) {filled : List ℕ} {v : ℕ} → at + count ≤ length out → filled ≡ replicate (length (part out at (at + count - at))) v → v ≡ 360
    → put_mid at (at + count - at) out filled ≡ sets out at (pulses (replicate count Short))
shorts-put out at count h e f =
    let n : at + count - at ≡ count = omega arith in
    let all : length (part out at (at + count - at)) ≡ count = simp (length-take, length-drop) (omega arith) in
    let text = pulses (replicate count Short) in
    let long : length text ≡ count = length-map (replicate count Short) written_as ∙ length-replicate count Short in
    rw (e, f, all, short-pulses, n, drop-drop)
    (sym (append_assoc (take at out) text _) ∙ ap (λ k. (take at out ++ text) ++ drop (at + k) out) (sym long) ∙ sym (sets-eq text out at (rw long h)))

pub trailer-put : (out : List ℕ) (at long : ℕ) → long ≡ 688 → sets (set out at long) (at + 1) (pulses (replicate 60 Short)) ≡ sets out at (pulses trailer)
unfolding trailer
trailer-put out at long e = rw (e, add-one)

-- ---- A copy: countdown, payload, checksum

-- bytes written into the part of the output from a place on
pub put-stored : (out : List ℕ) (at : ℕ) (bytes : List ℕ) {lent : List ℕ} → at + 20 * length bytes ≤ length out
    → Fills itself (write_bytes (length (part out at (length out - at))) bytes) (part out at (length out - at)) lent
    → take at out ++ (lent ++ drop (length out - at) (drop at out)) ≡ sets out at (bytes_pulses bytes)
put-stored out at bytes h f =
    let long = length-bytes_pulses bytes in
    let room : 20 * length bytes ≤ length (part out at (length out - at)) = simp (length-take, length-drop) (omega arith) in
    sets-lent out (bytes_pulses bytes) at (rw long h) (write_bytes-stored (part out at (length out - at)) bytes room f)

pub copy-put : (out : List ℕ) (at copy : ℕ) (payload : List ℕ) {row one two three : List ℕ} {sum : ℕ}
    → row ≡ countdown copy → sum ≡ checksum payload
    → one ≡ sets out at (bytes_pulses row) → two ≡ sets one (at + 180) (bytes_pulses payload)
    → three ≡ sets two (at + 180 + 20 * length payload) (bytes_pulses (sum ∷ []))
    → three ≡ sets out at (pulses (copy_classes copy payload))
unfolding copy_classes copy_bytes
copy-put out at copy payload {row} {one} {two} {three} {sum} r s e f g =
    let nine = length-countdown copy in
    let xs = bytes_classes (countdown copy) in
    let ys = bytes_classes payload in
    let zs = bytes_classes (checksum payload ∷ []) in
    let w : copy_classes copy payload ≡ xs ++ (ys ++ zs) = rw (bytes-append, bytes-append) in
    let u₀ = put-begun out at at (pulses (copy_classes copy payload)) (pulses (xs ++ (ys ++ zs))) refl (ap pulses (sym w)) in
    let u₁ = put-pulses xs (ys ++ zs) u₀ (rw r at e) (length-bytes (countdown copy) ∙ ap (λ k. 20 * k) nine) refl in
    let u₂ = put-pulses ys zs u₁ f (length-bytes payload) refl in
    let u₃ = put_next u₂ (pulses zs) [] (sym (append-nil (pulses zs))) (rw s at g) refl in
    put-done u₃ refl

-- ---- The block

-- the leader; copy one and its trailer; copy two and its trailer
pub block-put : (out : List ℕ) (k : ℕ) (payload : List ℕ) {led one one_end both both_end : List ℕ} → led ≡ sets out 0 (pulses (replicate k Short))
    → one ≡ sets led k (pulses (copy_classes 0 payload)) → one_end ≡ sets one (k + copy_pulses (length payload)) (pulses trailer)
    → both ≡ sets one_end (copy_two k (length payload)) (pulses (copy_classes 1 payload)) → both_end ≡ sets both (end_of k (length payload)) (pulses trailer)
    → both_end ≡ sets out 0 (block_pulses k payload)
unfolding block_classes trailer
block-put out k payload e f f' g g' =
    let ks = replicate k Short in
    let xs = copy_classes 0 payload in
    let ys = copy_classes 1 payload in
    let u₀ = put-begun out 0 0 (block_pulses k payload) (block_pulses k payload) refl refl in
    let u₁ = put-pulses ks (xs ++ (trailer ++ (ys ++ trailer))) u₀ e (length-replicate k Short) (sym (zero-add k)) in
    let u₂ = put-pulses xs (trailer ++ (ys ++ trailer)) u₁ f (length-copy 0 payload) refl in
    let u₃ = put-pulses trailer (ys ++ trailer) u₂ f' refl refl in
    let u₄ = put-pulses ys trailer u₃ g (length-copy 1 payload) refl in
    let u₅ = put_next u₄ (pulses trailer) [] (sym (append-nil (pulses trailer))) g' refl in
    put-done u₅ refl

-- ---- The number of pulses, known before

module _ (k n : ℕ) where
  pub measure_block-wrong_size : {r : Refusal} → wrong_size n ≡ true → r ≡ refusal_at WrongSize 0 → refused_with r ≡ measure_block k n
  unfolding measure_block
  measure_block-wrong_size t q = rw (t, q)

  pub measure_block-wrong_leader : {r : Refusal} → wrong_size n ≡ false → wrong_leader k ≡ true → r ≡ refusal_at WrongLeader 0 → refused_with r ≡ measure_block k n
  unfolding measure_block
  measure_block-wrong_leader s t q = rw (s, t, q)

  pub measure_block-count : {count : ℕ} → wrong_size n ≡ false → wrong_leader k ≡ false → count ≡ block_length k n → accepted count ≡ measure_block k n
  unfolding measure_block
  measure_block-count s t q = rw (s, t, q)

-- ---- What the writer comes to

module _ (out : List ℕ) (k : ℕ) (payload : List ℕ) where
  abbrev outcome : Outcome (List ℕ)
  outcome = write_block (length out) k payload

  module _ {p : (Result ℕ Refusal)} (e : outcome_of p ≡ measure_block k (length payload)) where
    -- refused as it was measured
    pub write_block-unmeasured : (r : Refusal) → p ≡ Err r → Written outcome out (Err r) out
    unfolding write_block
    write_block-unmeasured r q = written-refused outcome out {r = r} {s = r} (rw (← e, q)) refl

    module _ {count : ℕ} (q : p ≡ Ok count) where
      pub write_block-no_room : {r : Refusal} → length out < count → r ≡ refusal_at NoRoom 0 → Written outcome out (Err r) out
      unfolding write_block
      write_block-no_room h = written-refused outcome out (rw (← e, q, if_room-no_room (length out) count _ h))

      pub write_block-whole : {out' : List ℕ} → count ≤ length out → out' ≡ sets out 0 (block_pulses k payload) → Written outcome out (Ok count) out'
      unfolding write_block
      write_block-whole h s =
          let long : length (block_pulses k payload) ≡ count = length-block_pulses k payload ∙ (measure_block-accepted k (length payload) count (sym e ∙ ap outcome_of q)).count in
          written-accepted outcome out (rw (← e, q, if_room-room (length out) count _ h)) long (s ∙ put-room out 0 (block_pulses k payload) (rw (long, zero-add) h))
