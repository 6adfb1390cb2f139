-- Laws of blocks as written: how many pulses and bytes there are, where they stand, and that no pulse is noise.
use Prim.Native.Nat.{ℕ, zero, suc, ◌+◌, ◌-◌, ◌*◌, ◌≤◌, ◌<◌}
use native.Mathlib.Nat.{zero-add}
use native.Mathlib.Decide.{dec_lt}
use native.Mathlib.Omega.{arith}
use mathlib.Core.Path.{◌≡◌, refl, ap, ◌∙◌}
use mathlib.Core.Bool.{true, false}
use mathlib.Core.List.{List, [], ◌∷◌, ◌++◌, append_assoc}
use borrow.Author.Tests.{le-ltb, ltb-false, ne_eqb, eqb-false}
use lib.Bits.{bit_xor, xor_lt}
use lib.Dec.{eqb, ltb, lit<}
use lib.ListN.{length, get_or, replicate, length-append, length-replicate, length-map, get_or-append, get_or-eq_default}
use lib.Seq.{take_at, get_or-append-add}
use Rattle.lists.specs.Places.{part, Below}
use Rattle.lists.proofs.BoolLaws.{or-false, cond-first}
use Rattle.lists.proofs.PlaceLaws.{length-tabulate, get_d_tabulate, below-append, below_one}
use Rattle.lists.proofs.PartLaws.{part-past}
use Rattle.refusal.specs.declared.Reason.TheVariants.{WrongSize, WrongLeader}
use Rattle.refusal.specs.declared.Refusal.{Refusal}
use Rattle.refusal.specs.Refusal.{refusal_at}
use Rattle.refusal.specs.Outcome.{accepted, refused_with}
use Rattle.refusal.proofs.OutcomeLaws.{cond-accepted, if_room-room}
use Rattle.pulse.specs.declared.Class.{Class}
use Rattle.pulse.specs.declared.Class.TheVariants.{Short, Long}
use Rattle.pulse.specs.Pulse.{same, written_as, NoNoise}
use Rattle.pulse.proofs.PulseLaws.{NoNoise-cons, NoNoise-append, NoNoise-replicate}
use Rattle.byte.specs.Byte.{byte_classes, bytes_classes, twenty}
use Rattle.byte.proofs.CodingLaws.{length-byte, length-bytes, bytes-NoNoise}
use Rattle.start.specs.Copies.{copy_pulses, copy_two, end_of}
use Rattle.block.specs.Block.{xor_from, checksum, first_byte, countdown, copy_bytes, copy_classes, trailer, block_classes, block_pulses, wrong_size, wrong_leader, measure_block, write_block, block_length}
use Rattle.block.specs.Damage.{one_at, two_at}

-- ---- bytes_classes

pub bytes-append : (xs ys : List ℕ) → bytes_classes (xs ++ ys) ≡ bytes_classes xs ++ bytes_classes ys
unfolding bytes_classes
bytes-append [] ys = refl
bytes-append (x ∷ xs) ys = rw append_assoc (ap (λ (cs : List Class). byte_classes x ++ cs) (bytes-append xs ys))

-- the twenty pulses of byte i
bytes-at : (bs : List ℕ) (rest : List Class) (i : ℕ) → i < length bs → twenty (bytes_classes bs ++ rest) (20 * i) ≡ byte_classes (get_or bs i 0)
unfolding bytes_classes
bytes-at [] rest i h = absurd (omega arith)
bytes-at (b ∷ bs) rest zero h = rw append_assoc (take_at (byte_classes b) (bytes_classes bs ++ rest) 20 (length-byte b))
bytes-at (b ∷ bs) rest (suc i) h =
    let e : 20 * suc i ≡ 20 + 20 * i = omega arith in
    rw (append_assoc, e) (part-past (byte_classes b) (bytes_classes bs ++ rest) 20 (20 * i) 20 (length-byte b) ∙ bytes-at bs rest i (omega arith))

-- ---- checksum

xor_from-lt : (x : ℕ) (bs : List ℕ) → x < 256 → Below 256 bs → xor_from x bs < 256
unfolding xor_from
xor_from-lt x [] h below = h
xor_from-lt x (b ∷ bs) h below = xor_from-lt (bit_xor x b) bs (xor_lt 8 x b h (below 0)) (λ i. below (suc i))

checksum-lt : (payload : List ℕ) → Below 256 payload → checksum payload < 256
checksum-lt payload below = xor_from-lt 0 payload (lit< tt) below

-- ---- countdown

pub length-countdown : (copy : ℕ) → length (countdown copy) ≡ 9
unfolding countdown
length-countdown copy = length-tabulate (λ i. first_byte copy - i) 9 0

pub countdown-at : (copy i : ℕ) → i < 9 → get_or (countdown copy) i 0 ≡ first_byte copy - i
unfolding countdown
countdown-at copy i h = get_d_tabulate (λ j. first_byte copy - j) 9 0 i h ∙ rw zero-add

-- ---- copy_bytes

module _ (copy : ℕ) (payload : List ℕ) where
  length-copy_bytes : length (copy_bytes copy payload) ≡ length payload + 10
  unfolding copy_bytes
  length-copy_bytes = simp (length-append, length-countdown) (omega arith)

  -- the countdown
  pub copy-countdown : (i : ℕ) → i < 9 → get_or (copy_bytes copy payload) i 0 ≡ first_byte copy - i
  unfolding copy_bytes
  copy-countdown i h = get_or-append (countdown copy) (payload ++ (checksum payload ∷ [])) 0 i (rw length-countdown h) ∙ countdown-at copy i h

  -- after it the payload and the checksum
  pub copy-value : (i : ℕ) → get_or (copy_bytes copy payload) (9 + i) 0 ≡ get_or (payload ++ (checksum payload ∷ [])) i 0
  unfolding copy_bytes
  copy-value i = rw (← (length-countdown copy)) (get_or-append-add (countdown copy) (payload ++ (checksum payload ∷ [])) i 0)

-- ---- Every byte of a copy is a byte

first-lt : (copy : ℕ) → first_byte copy < 256
first-lt zero = lit< tt
first-lt (suc copy) = lit< tt

below-countdown : (copy : ℕ) → Below 256 (countdown copy)
below-countdown copy i = elim (dec_lt i 9) [
  | yes h ↦ rw (countdown-at copy i h) (omega (arith, first-lt copy))
  | no h ↦ rw (get_or-eq_default (countdown copy) 0 {n = i} (rw length-countdown (omega arith))) (lit< tt)
]

pub below_copy : (copy : ℕ) (payload : List ℕ) → Below 256 payload → Below 256 (copy_bytes copy payload)
unfolding copy_bytes
below_copy copy payload below =
    below-append (countdown copy) (payload ++ (checksum payload ∷ [])) (below-countdown copy)
    (below-append payload (checksum payload ∷ []) below (below_one (checksum payload) (checksum-lt payload below)))

-- ---- copy_classes

module _ (copy : ℕ) (payload : List ℕ) where
  pub length-copy : length (copy_classes copy payload) ≡ copy_pulses (length payload)
  unfolding copy_classes
  length-copy = length-bytes (copy_bytes copy payload) ∙ ap (λ n. 20 * n) (length-copy_bytes copy payload)

  -- byte place i of a copy
  copy_at : (rest : List Class) (i : ℕ) → i < length payload + 10
      → twenty (copy_classes copy payload ++ rest) (20 * i) ≡ byte_classes (get_or (copy_bytes copy payload) i 0)
  unfolding copy_classes
  copy_at rest i h = bytes-at (copy_bytes copy payload) rest i (rw (length-copy_bytes copy payload) h)

-- ---- block_classes

module _ (k : ℕ) (payload : List ℕ) where
  pub length-block : length (block_classes k payload) ≡ block_length k (length payload)
  unfolding block_classes trailer
  length-block = simp (length-append, length-copy, length-replicate) (omega arith)

  pub length-block_pulses : length (block_pulses k payload) ≡ block_length k (length payload)
  length-block_pulses = length-map (block_classes k payload) written_as ∙ length-block

  pub leader-at : part (block_classes k payload) 0 k ≡ replicate k Short
  unfolding block_classes
  leader-at = take_at (replicate k Short) _ k (length-replicate k Short)

  -- byte place i of copy one, and of copy two
  abbrev from_two : List Class
  from_two = copy_classes 1 payload ++ trailer

  abbrev from_one : List Class
  from_one = copy_classes 0 payload ++ (trailer ++ from_two)

  pub one-at : (i : ℕ) → i < length payload + 10 → one_at k i (block_classes k payload) ≡ byte_classes (get_or (copy_bytes 0 payload) i 0)
  unfolding block_classes
  one-at i h = part-past (replicate k Short) from_one k (20 * i) 20 (length-replicate k Short) ∙ copy_at 0 payload (trailer ++ from_two) i h

  pub two_at_lem : (i : ℕ) → i < length payload + 10 → two_at k (length payload) i (block_classes k payload) ≡ byte_classes (get_or (copy_bytes 1 payload) i 0)
  unfolding block_classes trailer
  two_at_lem i h =
      let m = copy_pulses (length payload) in
      let e : copy_two k (length payload) + 20 * i ≡ k + (m + (61 + 20 * i)) = omega arith in
      rw e (part-past (replicate k Short) from_one k (m + (61 + 20 * i)) 20 (length-replicate k Short)
      ∙ part-past (copy_classes 0 payload) (trailer ++ from_two) m (61 + 20 * i) 20 (length-copy 0 payload)
      ∙ part-past trailer from_two 61 (20 * i) 20 refl
      ∙ copy_at 1 payload trailer i h)

  -- the 61 pulses after copy two
  pub after-at : part (block_classes k payload) (end_of k (length payload)) 61 ≡ trailer
  unfolding block_classes trailer
  after-at =
      let m = copy_pulses (length payload) in
      let e : end_of k (length payload) ≡ k + (m + (61 + (m + 0))) = omega arith in
      rw e (part-past (replicate k Short) from_one k (m + (61 + (m + 0))) 61 (length-replicate k Short)
      ∙ part-past (copy_classes 0 payload) (trailer ++ from_two) m (61 + (m + 0)) 61 (length-copy 0 payload)
      ∙ part-past trailer from_two 61 (m + 0) 61 refl
      ∙ part-past (copy_classes 1 payload) trailer m 0 61 (length-copy 1 payload))

-- ---- No pulse is noise

trailer-NoNoise : NoNoise trailer
unfolding trailer same
trailer-NoNoise = NoNoise-cons Long (replicate 60 Short) refl (NoNoise-replicate 60 Short refl)

copy-NoNoise : (copy : ℕ) (payload : List ℕ) → NoNoise (copy_classes copy payload)
unfolding copy_classes
copy-NoNoise copy payload = bytes-NoNoise (copy_bytes copy payload)

pub block-NoNoise : (k : ℕ) (payload : List ℕ) → NoNoise (block_classes k payload)
unfolding block_classes same
block-NoNoise k payload =
    let two = NoNoise-append (copy_classes 1 payload) trailer (copy-NoNoise 1 payload) trailer-NoNoise in
    let after = NoNoise-append trailer (from_two k payload) trailer-NoNoise two in
    NoNoise-append (replicate k Short) (from_one k payload) (NoNoise-replicate k Short refl)
    (NoNoise-append (copy_classes 0 payload) (trailer ++ from_two k payload) (copy-NoNoise 0 payload) after)

-- ---- What the writer takes

pub record Within (least most n : ℕ) : Type 0 where
  pub low : least ≤ n
  pub high : n ≤ most

pub wrong_size-within : (n : ℕ) → wrong_size n ≡ false → Within 1 8192 n
wrong_size-within n e =
    let h = or-false (eqb n 0) (ltb 8192 n) e in
    let some : n ≡ 0 → ⊥ = eqb-false n 0 h.0 in
    record { low = elim (dec_lt 0 n) [ yes l ↦ l | no l ↦ absurd (some (omega arith)) ]; high = ltb-false 8192 n h.1 }

pub wrong_size-right : (n : ℕ) → Within 1 8192 n → wrong_size n ≡ false
wrong_size-right n w = rw (ne_eqb n 0 (λ e. omega arith), le-ltb 8192 n w.high)

pub wrong_leader-within : (k : ℕ) → wrong_leader k ≡ false → Within 64 65535 k
wrong_leader-within k e = let h = or-false (ltb k 64) (ltb 65535 k) e in record { low = ltb-false k 64 h.0; high = ltb-false 65535 k h.1 }

pub wrong_leader-right : (k : ℕ) → Within 64 65535 k → wrong_leader k ≡ false
wrong_leader-right k w = rw (le-ltb k 64 w.low, le-ltb 65535 k w.high)

-- ---- measure_block

-- a block of n payload bytes with a leader of k has this many pulses
pub record Measured (k n pulses : ℕ) : Type 0 where
  pub size : wrong_size n ≡ false
  pub leader : wrong_leader k ≡ false
  pub count : block_length k n ≡ pulses

module _ (k n : ℕ) where
  pub measure_block-accepted : (pulses : ℕ) → measure_block k n ≡ accepted pulses → Measured k n pulses
  unfolding measure_block
  measure_block-accepted pulses e =
      let a = cond-accepted (wrong_size n) (refusal_at WrongSize 0) _ pulses e in
      let b = cond-accepted (wrong_leader k) (refusal_at WrongLeader 0) _ pulses a.1 in
      record { size = a.0; leader = b.0; count = cc }

  -- a payload of a right size is refused for its leader
  pub measure_block-refused : (r : Refusal) → wrong_size n ≡ false → measure_block k n ≡ refused_with r → wrong_leader k ≡ true
  unfolding measure_block
  measure_block-refused r size e = (cond-first (wrong_leader k) _ _ (refused_with r) (λ q. let z : ◌≡◌ {A = ℕ} 0 1 = cc in omega arith) (rw size at e)).0

-- where there is room for a block that was measured, it is written
pub write_block-measured : (room k : ℕ) (payload : List ℕ) {pulses : ℕ} → Measured k (length payload) pulses → pulses ≤ room
    → write_block room k payload ≡ accepted (block_pulses k payload)
unfolding write_block measure_block
write_block-measured room k payload m h = rw (m.size, m.leader, m.count, if_room-room room _ _ h)
