-- Laws of copy two against copy one: after the last place the numbers are those of the reading rule.
use Prim.Native.Nat.{ℕ, zero, suc, ◌+◌, ◌-◌, ◌≤◌, ◌<◌}
use native.Mathlib.Nat.{zero-add}
use native.Mathlib.Omega.{arith}
use mathlib.Core.Path.{◌≡◌, refl, sym, ap, ap₂, ◌∙◌}
use mathlib.Core.Bool.{Bool, true, false, cond}
use mathlib.Core.List.{List, [], ◌∷◌, ◌++◌}
use Rattle.std.specs.Prelude.{Option, None, Some}
use borrow.Author.Tests.{lt-ltb, le-ltb, le-leb, lt-leb}
use lib.Bits.{bit_xor, xor_zero_r}
use lib.Dec.{eqb, leb, ltb, lit≤}
use Rattle.lists.specs.Places.{first_from, tabulate}
use Rattle.lists.specs.Buffer.{put_at}
use Rattle.lists.proofs.BufferLaws.{put_front}
use Rattle.lists.proofs.PlaceLaws.{tabulate-snoc, or_else}
use Rattle.refusal.specs.declared.Causes.{Causes}
use Rattle.refusal.specs.declared.Reason.TheVariants.{WrongCountdown, LostByte, WrongChecksum}
use Rattle.refusal.specs.Outcome.{Outcome, accepted, refuse, refuse_there, refuse_first, mapped, puts}
use Rattle.pulse.specs.declared.Class.{Class}
use Rattle.byte.specs.declared.ByteRead.{ByteRead}
use Rattle.byte.specs.Byte.{byte_at}
use Rattle.start.specs.Copies.{byte_place, copy_two}
use Rattle.block.specs.Block.{xor_from, checksum}
use Rattle.block.specs.Reading.{is_counted, is_miscounted, Place, FromOne, FromTwo, Lost, no_value, place_value, place_at, is_lost, value_at, causes_at, values_at, sum_holds, BlockRead, extent_of, payload_of, block_at, read_copies}
use Rattle.deck.specs.declared.Checks.{Checks}
use Rattle.deck.specs.Work.{payload_in}
use Rattle.deck.specs.Judge.{checks_of, no_checks, check_place, check_byte, answer_by, filled}
use Rattle.deck.specs.Calls.{outcome_by}
use Rattle.deck.proofs.FrameLaws.{or_most, first_more, first-lt, first-earlier}

xor-snoc : (x : ℕ) (bytes : List ℕ) (b : ℕ) → xor_from x (bytes ++ (b ∷ [])) ≡ bit_xor (xor_from x bytes) b
unfolding xor_from
xor-snoc x [] b = refl
xor-snoc x (c ∷ bytes) b = xor-snoc (bit_xor x c) bytes b

module _ (cs : List Class) (p n : ℕ) where
  abbrev q : ℕ
  q = copy_two p n

  -- byte place i of copy one, and of copy two
  abbrev pub one_byte : ℕ → ByteRead
  one_byte i = byte_at cs (byte_place p i)

  abbrev pub two_byte : ℕ → ByteRead
  two_byte i = byte_at cs (byte_place q i)

  -- after i places of copy two
  unfoldable pub checks_after : ℕ → Checks
  checks_after zero = no_checks n
  checks_after (suc i) = check_byte n i (one_byte i) (two_byte i) (checks_after i)

  abbrev countdown_first : ℕ → Option ℕ
  countdown_first i = first_from (is_miscounted cs p q) i 0

  abbrev lost_first : ℕ → Option ℕ
  lost_first i = first_from (is_lost cs p q) i 0

  -- the causes of the first lost place
  abbrev causes_first : Option ℕ → Causes
  causes_first None = record { one = 0; two = 0 }
  causes_first (Some i) = causes_at cs p q i

  abbrev checks_with : (failed lost : Option ℕ) (sum : ℕ) → Checks
  checks_with failed lost sum = checks_of (or_most (n + 1) lost) (or_most 9 failed) sum (causes_first lost).one (causes_first lost).two

  -- the countdown
  checks-head : (i : ℕ) → i ≤ 9 → checks_after i ≡ checks_with (countdown_first i) None 0
  unfolding checks_after check_byte is_counted first_from
  checks-head zero h = refl
  checks-head (suc i) h =
      rw (checks-head i (omega arith), lt-ltb i 9 (omega arith), first-earlier (is_miscounted cs p q) 9 i (omega arith))

  sum_more : (j : ℕ) → checksum (values_at cs p q (suc j)) ≡ bit_xor (checksum (values_at cs p q j)) (value_at cs p q j)
  sum_more j =
      ap (xor_from 0) (tabulate-snoc (value_at cs p q) j 0) ∙ xor-snoc 0 (values_at cs p q j) (value_at cs p q (0 + j))
      ∙ ap (λ x. bit_xor (checksum (values_at cs p q j)) (value_at cs p q x)) (zero-add j)

  -- the sum with the value of place j
  abbrev summed : (j sum : ℕ) → Place → ℕ
  summed j sum place = cond (ltb j n) (bit_xor sum (place_value place)) sum

  -- a place after the countdown
  place-more : (j sum : ℕ) (failed : Option ℕ) → j ≤ n
      → check_place n j (place_at cs p q j) (checks_with failed (lost_first j) sum)
      ≡ checks_with failed (lost_first (suc j)) (summed j sum (place_at cs p q j))
  place-more j sum failed h = rw (first_more (is_lost cs p q) j) (go (place_at cs p q j) refl (lost_first j) (first-lt (is_lost cs p q) j))
    where
      same_sum : (t : Bool) → sum ≡ cond t (bit_xor sum 0) sum
      same_sum true = sym (xor_zero_r sum)
      same_sum false = refl

      go : (place : Place) → place_at cs p q j ≡ place → (o : Option ℕ) → ((i : ℕ) → o ≡ Some i → i < j)
          → check_place n j place (checks_with failed o sum) ≡ checks_with failed (or_else o (cond (no_value place) (Some j) None)) (summed j sum place)
      go (FromOne v) e None l = refl
      go (FromOne v) e (Some i) l = refl
      go (FromTwo v) e None l = refl
      go (FromTwo v) e (Some i) l = refl
      go (Lost causes) e None l =
          rw (lt-ltb j (n + 1) (omega arith), e)
          (ap (λ x. checks_of j (or_most 9 failed) x causes.one causes.two) (same_sum (ltb j n)))
      go (Lost causes) e (Some i) l =
          rw (le-ltb j i (omega (arith, l i refl)))
          (ap (λ x. checks_of i (or_most 9 failed) x (causes_at cs p q i).one (causes_at cs p q i).two) (same_sum (ltb j n)))

  body_more : (j sum : ℕ) (failed : Option ℕ) → j ≤ n → checks_after (9 + j) ≡ checks_with failed (lost_first j) sum
      → checks_after (suc (9 + j)) ≡ checks_with failed (lost_first (suc j)) (summed j sum (place_at cs p q j))
  unfolding checks_after check_byte place_at
  body_more j sum failed h r =
      let e : 9 + j - 9 ≡ j = omega arith in
      rw (r, le-ltb (9 + j) 9 (omega arith), e) (place-more j sum failed h)

  checks-body : (j : ℕ) → j ≤ n → checks_after (9 + j) ≡ checks_with (countdown_first 9) (lost_first j) (checksum (values_at cs p q j))
  checks-body zero h = checks-head 9 (lit≤ tt) ∙ (unfold first_from xor_from tabulate in refl)
  checks-body (suc j) h =
      let e : 9 + suc j ≡ suc (9 + j) = omega arith in
      let more = body_more j (checksum (values_at cs p q j)) (countdown_first 9) (omega arith) (checks-body j (omega arith)) in
      rw (e, more, lt-ltb j n (omega arith), sum_more j)

  pub checks-all : checks_after (n + 10) ≡ checks_with (countdown_first 9) (lost_first (n + 1)) (checksum (values_at cs p q n))
  checks-all =
      let e : n + 10 ≡ suc (9 + n) = omega arith in
      let e' : suc n ≡ n + 1 = omega arith in
      let sum = checksum (values_at cs p q n) in
      ap checks_after e ∙ body_more n sum (countdown_first 9) (omega arith) (checks-body n (omega arith))
      ∙ ap₂ (λ (j : ℕ) (t : Bool). checks_with (countdown_first 9) (lost_first j) (cond t (bit_xor sum (value_at cs p q n)) sum)) e'
      (le-ltb n n (omega arith))

  -- ---- The answer

  abbrev pub checks_last : Checks
  checks_last = checks_after (n + 10)

  abbrev pub answer_last : ℕ
  answer_last = answer_by n (value_at cs p q n) checks_last

  abbrev outcome_with : (failed lost : Option ℕ) (holds : Bool) → Outcome BlockRead
  outcome_with failed lost holds =
      refuse_first WrongCountdown failed (refuse_there (λ i. LostByte (causes_at cs p q i)) lost
      (cond holds (accepted (block_at p n (values_at cs p q n))) (refuse WrongChecksum n)))

  abbrev answer_with : (failed lost : Option ℕ) (holds : Bool) → ℕ
  answer_with failed lost holds = cond (ltb (or_most 9 failed) 9) 5 (cond (leb (or_most (n + 1) lost) n) 6 (cond holds 0 7))

  -- the answer by its number is that of the reading rule, and so is the output
  pub outcome-is : outcome_by n p answer_last checks_last ≡ mapped extent_of (read_copies cs p n)
  unfolding answer_by read_copies outcome_by
  outcome-is = rw checks-all
      (go (countdown_first 9) (first-lt (is_miscounted cs p q) 9) (lost_first (n + 1)) (first-lt (is_lost cs p q) (n + 1)) (sum_holds cs p q n))
    where
      go : (failed : Option ℕ) → ((i : ℕ) → failed ≡ Some i → i < 9) → (lost : Option ℕ) → ((i : ℕ) → lost ≡ Some i → i < n + 1) → (holds : Bool)
          → outcome_by n p (answer_with failed lost holds) (checks_with failed lost (checksum (values_at cs p q n)))
          ≡ mapped extent_of (outcome_with failed lost holds)
      go (Some i) f lost l holds = rw (lt-ltb i 9 (f i refl))
      go None f (Some i) l holds = rw (le-leb i n (omega (arith, l i refl)))
      go None f None l true = rw (lt-leb (n + 1) n (omega arith))
      go None f None l false = rw (lt-leb (n + 1) n (omega arith))

  pub filled_is : (work out : List ℕ) → payload_in n work ≡ values_at cs p q n
      → filled n answer_last work out ≡ put_at out 0 (puts (mapped payload_of (read_copies cs p n)))
  unfolding answer_by read_copies filled
  filled_is work out e = rw (checks-all, e)
      (go (countdown_first 9) (first-lt (is_miscounted cs p q) 9) (lost_first (n + 1)) (first-lt (is_lost cs p q) (n + 1)) (sum_holds cs p q n))
    where
      nothing : out ≡ put_at out 0 []
      nothing = sym (put_front out [] (omega arith))

      go : (failed : Option ℕ) → ((i : ℕ) → failed ≡ Some i → i < 9) → (lost : Option ℕ) → ((i : ℕ) → lost ≡ Some i → i < n + 1) → (holds : Bool)
          → cond (eqb (answer_with failed lost holds) 0) (put_at out 0 (values_at cs p q n)) out
          ≡ put_at out 0 (puts (mapped payload_of (outcome_with failed lost holds)))
      go (Some i) f lost l holds = rw (lt-ltb i 9 (f i refl)) nothing
      go None f (Some i) l holds = rw (le-leb i n (omega (arith, l i refl))) nothing
      go None f None l true = rw (lt-leb (n + 1) n (omega arith))
      go None f None l false = rw (lt-leb (n + 1) n (omega arith)) nothing
