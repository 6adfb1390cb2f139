-- The pulses of bytes, stored one part after the other.
use Rattle.std.proofs.Common.{◌≡◌, ℕ, zero, suc, ◌+◌, ◌*◌, ◌<◌, ◌≤◌, List, [], ◌∷◌, ◌++◌, length, get_or, drop, sym, refl, ap, ◌∙◌, append-nil, add-one, arith, drop_of_length-le, drop-cons}
use Rattle.std.specs.Prelude.{Err, Ok}
use mathlib.Core.List.{map-append}
use lib.Seq.{sets}
use Rattle.lists.specs.Buffer.{put_at}
use Rattle.lists.proofs.BufferLaws.{put-room}
use Rattle.lists.proofs.LoopLaws.{Putting, put-begun, put_next, put-done}
use Rattle.refusal.specs.declared.Reason.TheVariants.{NoRoom}
use Rattle.refusal.specs.declared.Refusal.{Refusal}
use Rattle.refusal.specs.Refusal.{refusal_at}
use Rattle.refusal.specs.Outcome.{accepted}
use Rattle.refusal.specs.Promise.{Fills, itself, Written}
use Rattle.refusal.proofs.OutcomeLaws.{if_room-no_room, if_room-room}
use Rattle.refusal.proofs.PromiseLaws.{written-refused, written-accepted}
use Rattle.pulse.specs.declared.Class.{Class}
use Rattle.pulse.specs.declared.Class.TheVariants.{Short, Medium, Long}
use Rattle.pulse.specs.Pulse.{written_as, pulses}
use Rattle.pulse.proofs.PulseLaws.{put-pulses}
use Rattle.byte.specs.Byte.{bits, parity_bit, coded, byte_classes, byte_pulses, bytes_classes, bytes_pulses, write_bytes}
use Rattle.byte.proofs.CodingLaws.{coded-append, length-coded_bits, length-byte_pulses, length-bytes_pulses}

-- ---- A bit

pub coded-zero : (d : ℕ) → d ≡ 0 → Short ∷ Medium ∷ [] ≡ coded (d ∷ [])
unfolding coded
coded-zero d e = rw e

pub coded-one : (d : ℕ) → (d ≡ 0 → ⊥) → Medium ∷ Short ∷ [] ≡ coded (d ∷ [])
unfolding coded
coded-one zero h = absurd (h refl)
coded-one (suc d) h = refl

-- ---- A byte: the marker, the eight bits, the parity bit

pub byte_put : (out : List ℕ) (at b : ℕ) {one two three : List ℕ} {parity : ℕ}
    → one ≡ sets out at (pulses (Long ∷ Medium ∷ [])) → two ≡ sets one (at + 2) (pulses (coded (bits 8 b)))
    → parity ≡ parity_bit b → three ≡ sets two (at + 18) (pulses (coded (parity ∷ []))) → three ≡ sets out at (byte_pulses b)
unfolding byte_classes
byte_put out at b e f p g =
    let marker = Long ∷ Medium ∷ [] in
    let eight = coded (bits 8 b) in
    let ninth = coded (parity_bit b ∷ []) in
    let w : byte_classes b ≡ marker ++ (eight ++ ninth) = ap (λ (cs : List Class). Long ∷ Medium ∷ cs) (coded-append (bits 8 b) (parity_bit b ∷ [])) in
    let last : at + 18 ≡ at + 2 + 2 * 8 = omega arith in
    let u₀ = put-begun out at at (byte_pulses b) (pulses (marker ++ (eight ++ ninth))) refl (ap pulses (sym w)) in
    let u₁ = put-pulses marker (eight ++ ninth) u₀ e refl refl in
    let u₂ = put-pulses eight ninth u₁ f (length-coded_bits 8 b) last in
    let u₃ = put_next u₂ (pulses ninth) [] (sym (append-nil (pulses ninth))) (rw p at g) refl in
    put-done u₃ refl

-- ---- Bytes: with i of them put, the rest put after them gives the whole

module _ (out₀ bytes : List ℕ) where
  abbrev pub BytesPut : List ℕ → ℕ → Type 0
  BytesPut out i = Putting out₀ 0 (bytes_pulses bytes) out (20 * i) (bytes_pulses (drop i bytes))

  module _ {out : List ℕ} {i : ℕ} (u : BytesPut out i) where
    rest-next : i < length bytes → bytes_pulses (drop i bytes) ≡ byte_pulses (get_or bytes i 0) ++ bytes_pulses (drop (i + 1) bytes)
    unfolding bytes_classes
    rest-next h = rw (drop-cons bytes i 0 h, add-one) (map-append written_as (byte_classes (get_or bytes i 0)) (bytes_classes (drop (suc i) bytes)))

    pub BytesPut-next : {out' : List ℕ} → i < length bytes → out' ≡ sets out (20 * i) (byte_pulses (get_or bytes i 0)) → BytesPut out' (i + 1)
    BytesPut-next h e =
        put_next u (byte_pulses (get_or bytes i 0)) (bytes_pulses (drop (i + 1) bytes)) (rest-next h) e (rw (length-byte_pulses (get_or bytes i 0)) (omega arith))

    pub write_bytes-whole : length bytes ≤ i → 20 * length bytes ≤ length out₀ → Written (write_bytes (length out₀) bytes) out₀ (Ok (20 * length bytes)) out
    unfolding bytes_classes write_bytes
    write_bytes-whole h room =
        let long = length-bytes_pulses bytes in
        written-accepted (write_bytes (length out₀) bytes) out₀ (if_room-room (length out₀) (length (bytes_pulses bytes)) _ (rw long room)) long
        (put-done u (ap bytes_pulses (drop_of_length-le bytes h)) ∙ put-room out₀ 0 (bytes_pulses bytes) (omega arith))

  pub write_bytes-no_room : {r : Refusal} → length out₀ < 20 * length bytes → r ≡ refusal_at NoRoom 0
      → Written (write_bytes (length out₀) bytes) out₀ (Err r) out₀
  unfolding write_bytes
  write_bytes-no_room full =
      written-refused (write_bytes (length out₀) bytes) out₀ (if_room-no_room (length out₀) (length (bytes_pulses bytes)) _ (rw (length-bytes_pulses bytes) full))

-- where there is room, the pulses are stored
pub write_bytes-stored : (out : List ℕ) {out' : List ℕ} (bytes : List ℕ) → 20 * length bytes ≤ length out
    → Fills itself (write_bytes (length out) bytes) out out' → out' ≡ put_at out 0 (bytes_pulses bytes)
unfolding write_bytes
write_bytes-stored out bytes room f = rw (if_room-room (length out) (length (bytes_pulses bytes)) (accepted (bytes_pulses bytes)) (rw (length-bytes_pulses bytes) room)) at f
