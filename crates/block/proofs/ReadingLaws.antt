-- Laws of reading: rule 4 in words, enough room, and what is known of an accepted block.
use Prim.Native.Nat.{ℕ, ◌+◌, ◌≤◌}
use native.Mathlib.Omega.{arith}
use mathlib.Core.Path.{◌≡◌, refl}
use mathlib.Core.Bool.{true, false}
use mathlib.Core.List.{List}
use lib.ListN.{length}
use Rattle.lists.specs.Places.{first_from}
use Rattle.lists.proofs.BoolLaws.{cond-first}
use Rattle.lists.proofs.PlaceLaws.{length-tabulate}
use Rattle.refusal.specs.declared.Causes.{Causes}
use Rattle.refusal.specs.declared.Reason.TheVariants.{WrongCountdown, LostByte}
use Rattle.refusal.specs.Outcome.{accepted}
use Rattle.refusal.proofs.OutcomeLaws.{refuse_there-accepted, refuse_first-accepted, if_room-room, and_then-accepted}
use Rattle.pulse.specs.declared.Class.{Class}
use Rattle.byte.specs.declared.ByteRead.{ByteRead}
use Rattle.byte.specs.declared.ByteRead.TheVariants.{Good, Bad}
use Rattle.byte.specs.Byte.{first_wrong, twenty, byte_at, is_bad}
use Rattle.byte.proofs.CauseLaws.{byte_at-bad}
use Rattle.start.specs.Copies.{byte_place, copy_two, end_of, locate_copies}
use Rattle.start.specs.Start.{find_start}
use Rattle.start.proofs.CopiesLaws.{locate_copies-accepted}
use Rattle.block.specs.Block.{wrong_size}
use Rattle.block.specs.Reading.{is_miscounted, Place, FromOne, FromTwo, Lost, place_of, no_value, causes_in, is_lost, causes_at, value_at, values_at, sum_holds, BlockRead, block_at, read_copies, read_at, read_from, read_block, place_at}

-- ---- Rule 4

-- copy one's value where that byte is good, whatever copy two holds
pub place_of-one : (v : ℕ) (one two : ByteRead) → one ≡ Good v → place_of one two ≡ FromOne v
place_of-one v one two e = rw e

-- else copy two's, where that byte is good
pub place_of-two : (v : ℕ) (one two : ByteRead) → is_bad one ≡ true → two ≡ Good v → place_of one two ≡ FromTwo v
place_of-two v (Good w) two h e = absurd (let z : ◌≡◌ {A = ℕ} 0 1 = cc in omega arith)
place_of-two v (Bad cause) two h e = rw e

-- else it is lost, for the causes of both bytes
place_of-lost : (one two : ByteRead) → no_value (place_of one two) ≡ true → (is_bad one ≡ true) × (is_bad two ≡ true)
place_of-lost (Good v) two e = absurd (let z : ◌≡◌ {A = ℕ} 0 1 = cc in omega arith)
place_of-lost (Bad one) (Good v) e = absurd (let z : ◌≡◌ {A = ℕ} 0 1 = cc in omega arith)
place_of-lost (Bad one) (Bad two) e = (refl, refl)

both-lost : (one two : ByteRead) → is_bad one ≡ true → is_bad two ≡ true → no_value (place_of one two) ≡ true
both-lost (Good v) two h k = absurd (let z : ◌≡◌ {A = ℕ} 0 1 = cc in omega arith)
both-lost (Bad one) (Good v) h k = absurd (let z : ◌≡◌ {A = ℕ} 0 1 = cc in omega arith)
both-lost (Bad one) (Bad two) h k = refl

-- a lost place is its causes
pub lost-is : (p : Place) → no_value p ≡ true → Lost (causes_in p) ≡ p
lost-is (FromOne v) e = absurd (let z : ◌≡◌ {A = ℕ} 0 1 = cc in omega arith)
lost-is (FromTwo v) e = absurd (let z : ◌≡◌ {A = ℕ} 0 1 = cc in omega arith)
lost-is (Lost causes) e = refl

-- the same of payload place i of a strip, and of place n for the checksum
module _ (cs : List Class) (one two i : ℕ) where
  pub place_at-one : (v : ℕ) → byte_at cs (byte_place one (9 + i)) ≡ Good v → place_at cs one two i ≡ FromOne v
  unfolding place_at
  place_at-one v e = place_of-one v (byte_at cs (byte_place one (9 + i))) (byte_at cs (byte_place two (9 + i))) e

  pub place_at-two : (v : ℕ) → is_bad (byte_at cs (byte_place one (9 + i))) ≡ true → byte_at cs (byte_place two (9 + i)) ≡ Good v → place_at cs one two i ≡ FromTwo v
  unfolding place_at
  place_at-two v h e = place_of-two v (byte_at cs (byte_place one (9 + i))) (byte_at cs (byte_place two (9 + i))) h e

  pub place_at-both : is_bad (byte_at cs (byte_place one (9 + i))) ≡ true → is_bad (byte_at cs (byte_place two (9 + i))) ≡ true → is_lost cs one two i ≡ true
  unfolding place_at
  place_at-both h k = both-lost (byte_at cs (byte_place one (9 + i))) (byte_at cs (byte_place two (9 + i))) h k

  -- the bytes of a lost place, and why they are bad
  pub place_at-lost : is_lost cs one two i ≡ true → (is_bad (byte_at cs (byte_place one (9 + i))) ≡ true) × (is_bad (byte_at cs (byte_place two (9 + i))) ≡ true)
  unfolding place_at
  place_at-lost e = place_of-lost (byte_at cs (byte_place one (9 + i))) (byte_at cs (byte_place two (9 + i))) e

  pub causes-lost : is_lost cs one two i ≡ true
      → ◌≡◌ {A = Causes} (record { one = first_wrong (twenty cs (byte_place one (9 + i))); two = first_wrong (twenty cs (byte_place two (9 + i))) }) (causes_at cs one two i)
  unfolding place_at
  causes-lost e = let bad = place_at-lost e in rw (byte_at-bad cs (byte_place one (9 + i)) bad.0, byte_at-bad cs (byte_place two (9 + i)) bad.1)

-- ---- Enough room

-- for a right n and enough room the reader does what the rules say
pub read_block-room : (cs : List Class) (room from n : ℕ) → wrong_size n ≡ false → n ≤ room → read_block cs room from n ≡ read_from cs from n
unfolding read_block
read_block-room cs room from n size enough = rw (size, if_room-room room n _ enough)

-- ---- An accepted block lies on the strip, and its payload has n bytes

module _ (cs : List Class) (n : ℕ) (b : BlockRead) where
  pub read_at-accepted : (p : ℕ) → read_at cs p n ≡ accepted b → (end_of p n ≤ length cs) × (block_at p n (values_at cs p (copy_two p n) n) ≡ b)
  unfolding read_at read_copies
  read_at-accepted p e =
      let q = copy_two p n in
      let within = and_then-accepted (locate_copies (length cs) p n) (λ copies. read_copies cs p n) b e in
      let counted = (refuse_first-accepted WrongCountdown (first_from (is_miscounted cs p q) 9 0) _ b within.2).1 in
      let found = (refuse_there-accepted (λ i. LostByte (causes_at cs p q i)) (first_from (is_lost cs p q) (n + 1) 0) _ b counted).1 in
      let whole = (cond-first (sum_holds cs p q n) _ _ (accepted b) (λ w. let z : ◌≡◌ {A = ℕ} 0 1 = cc in omega arith) found).1 in
      ((locate_copies-accepted (length cs) p n within.0 within.1).0, cc)

  pub read_from-length : (from : ℕ) → read_from cs from n ≡ accepted b → length b.payload ≡ n
  unfolding read_from
  read_from-length from e =
      let s = and_then-accepted (find_start cs from) (λ p. read_at cs p n) b e in
      rw (← (read_at-accepted s.0 s.2).1) (length-tabulate (value_at cs s.0 (copy_two s.0 n)) n 0)
