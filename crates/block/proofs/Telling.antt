-- What a refusal tells of the causes of bad bytes, and what the eleven counts of a block add up to.
use Prim.Native.Nat.{ℕ, zero, suc, ◌+◌, ◌*◌, ◌≤◌, ◌<◌}
use native.Mathlib.Decide.{ℕ_discrete}
use native.Mathlib.Omega.{arith}
use mathlib.Core.Path.{◌≡◌, refl, sym, ap}
use mathlib.Core.Bool.{Bool, true, false, cond, ◌&&◌}
use mathlib.Core.List.{List}
use Rattle.std.specs.Prelude.{Option, None, Some}
use borrow.Author.Tests.{eq-eqb, ne_eqb}
use lib.Dec.{eqb, ltb}
use lib.ListN.{length}
use Rattle.lists.specs.Places.{first_from, First, count_below, tabulate}
use Rattle.lists.proofs.PlaceLaws.{some_first}
use Rattle.refusal.specs.declared.Reason.{Reason}
use Rattle.refusal.specs.declared.Reason.TheVariants.{WrongSize, NoRoom, NoStart, CutShort, WrongCountdown, LostByte, WrongChecksum}
use Rattle.refusal.specs.Refusal.{Why, number_of, causes_of, refusal_at, why_of, why_in}
use Rattle.refusal.specs.Outcome.{Outcome, refused, accepted, refuse, refuse_there, refuse_first, if_room, and_then}
use Rattle.pulse.specs.declared.Class.{Class}
use Rattle.byte.specs.declared.ByteRead.{ByteRead}
use Rattle.byte.specs.declared.ByteRead.TheVariants.{Good, Bad}
use Rattle.byte.specs.Byte.{first_wrong, twenty, byte_at, is_bad, is_bad_by}
use Rattle.byte.proofs.CauseLaws.{byte_at-bad, byte_at-most, first_wrong-most}
use Rattle.start.specs.Start.{start_of, start_at, find_start}
use Rattle.start.specs.Copies.{byte_place, copy_two, end_of, copies_of, locate_copies}
use Rattle.block.specs.Block.{wrong_size}
use Rattle.block.specs.Reading.{is_miscounted, place_of, no_value, place_at, is_lost, causes_at, values_at, sum_holds, BlockRead, block_at, read_copies, read_at, read_from, read_block}
use Rattle.block.specs.Looking.{is_from_one, is_from_two, each_cause, cause_numbers, tally_of}
use Rattle.block.specs.Claim.{LostTold, sum_of, spare_bad, CausesTold}
use Rattle.block.proofs.ReadingLaws.{place_at-lost, causes-lost}

-- ---- Refusals

-- any other reason than a lost byte is told with another number than 6, without causes, of block 0
pub refuse-plain : {A : Type 0} (why : Why) (reason : Reason) (place : ℕ) → (number_of reason ≡ 6 → ⊥) → causes_of reason ≡ None
    → ◌≡◌ {A = Outcome A} (refuse reason place) (refused why) → (why.number ≡ 6 → ⊥) × (why.causes ≡ None) × (why.block ≡ 0)
refuse-plain why reason place six causes e = let same : why_of (refusal_at reason place) ≡ why = cc in rw (← same) (six, causes, refl)

-- the same refusal, of another block, tells the same
pub lost-in : (cs : List Class) (from n k : ℕ) (why : Why) → LostTold cs from n why → LostTold cs from n (why_in k why)
lost-in cs from n k why t = record {
  start = t.start;
  one = t.one;
  two = t.two;
  found = t.found;
  within = t.within;
  least = t.least;
  causes = t.causes;
  most = t.most;
  first = t.first;
  second = t.second;
}

-- what a refusal of the block of n bytes from a place on tells: the causes of the two bytes at its place where it is 6, and else none
pub record Tells (cs : List Class) (from n : ℕ) (why : Why) : Type 0 where
  pub lost : why.number ≡ 6 → LostTold cs from n why
  pub others : (why.number ≡ 6 → ⊥) → why.causes ≡ None
  pub block : why.block ≡ 0

module _ (cs : List Class) (from n : ℕ) (why : Why) where
  plain : {A : Type 0} (reason : Reason) (place : ℕ) → (number_of reason ≡ 6 → ⊥) → causes_of reason ≡ None
      → ◌≡◌ {A = Outcome A} (refuse reason place) (refused why) → Tells cs from n why
  plain reason place six causes e =
      let p = refuse-plain why reason place six causes e in
      record { lost = λ s. absurd (p.0 s); others = λ _. p.1; block = p.2 }

  module _ (p : ℕ) (f : find_start cs from ≡ accepted p) where
    abbrev q : ℕ
    q = copy_two p n

    -- what rule 5 comes to, where it holds and where not
    abbrev summed : Bool → Outcome BlockRead
    summed holds = cond holds (accepted (block_at p n (values_at cs p q n))) (refuse WrongChecksum n)

    -- the first lost place
    lost-there : (i : ℕ) → First (is_lost cs p q) (n + 1) 0 i → ◌≡◌ {A = Outcome BlockRead} (refuse (LostByte (causes_at cs p q i)) i) (refused why)
        → Tells cs from n why
    lost-there i first e =
        let bad = place_at-lost cs p q i first.passes in
        let same : record { number = 6; block = 0; place = i; causes = Some (causes_at cs p q i) } ≡ why = cc in
        rw (← same) (record {
          lost = λ s. record {
            start = p;
            one = first_wrong (twenty cs (byte_place p (9 + i)));
            two = first_wrong (twenty cs (byte_place q (9 + i)));
            found = f;
            within = omega (arith, first.high);
            least = λ j h. first.least j (omega arith) h;
            causes = ap Some (sym (causes-lost cs p q i first.passes));
            most = (first_wrong-most (twenty cs (byte_place p (9 + i))), first_wrong-most (twenty cs (byte_place q (9 + i))));
            first = byte_at-bad cs (byte_place p (9 + i)) bad.0;
            second = byte_at-bad cs (byte_place q (9 + i)) bad.1;
          };
          others = λ six. absurd (six refl);
          block = refl;
        })

    copies-tell : read_copies cs p n ≡ refused why → Tells cs from n why
    unfolding read_copies
    copies-tell e = go (first_from (is_miscounted cs p q) 9 0) (first_from (is_lost cs p q) (n + 1) 0) refl (sum_holds cs p q n) e
      where
        go : (counted found : Option ℕ) → first_from (is_lost cs p q) (n + 1) 0 ≡ found → (holds : Bool)
            → refuse_first WrongCountdown counted (refuse_there (λ i. LostByte (causes_at cs p q i)) found (summed holds)) ≡ refused why
            → Tells cs from n why
        go (Some i) found g holds e = plain WrongCountdown i (λ z. omega arith) refl e
        go None (Some i) g holds e = lost-there i (some_first (is_lost cs p q) (n + 1) 0 i g) e
        go None None g true e = absurd (let z : ◌≡◌ {A = ℕ} 0 1 = cc in omega arith)
        go None None g false e = plain WrongChecksum n (λ z. omega arith) refl e

    -- with the start known
    at-tell : read_at cs p n ≡ refused why → Tells cs from n why
    unfolding read_at locate_copies
    at-tell e = go (ltb (length cs) (end_of p n)) e
      where
        go : (short : Bool) → and_then (cond short (refuse CutShort p) (accepted (copies_of p n))) (λ copies. read_copies cs p n) ≡ refused why
            → Tells cs from n why
        go true e = plain CutShort p (λ z. omega arith) refl e
        go false e = copies-tell e

  -- from a place on
  pub read_from-tells : read_from cs from n ≡ refused why → Tells cs from n why
  unfolding read_from find_start
  read_from-tells e = go (start_of cs from) refl e
    where
      go : (o : Option ℕ) → start_of cs from ≡ o → and_then (start_at o) (λ p. read_at cs p n) ≡ refused why → Tells cs from n why
      go None g e = plain NoStart 0 (λ z. omega arith) refl e
      go (Some p) g e = at-tell p (ap start_at g) e

  -- with so many places lent
  read_block-tells : (room : ℕ) → read_block cs room from n ≡ refused why → Tells cs from n why
  unfolding read_block if_room
  read_block-tells room e = go (wrong_size n) (ltb room n) e
    where
      go : (wrong short : Bool) → cond wrong (refuse WrongSize 0) (cond short (refuse NoRoom 0) (read_from cs from n)) ≡ refused why
          → Tells cs from n why
      go true short e = plain WrongSize 0 (λ z. omega arith) refl e
      go false true e = plain NoRoom 0 (λ z. omega arith) refl e
      go false false e = read_from-tells e

-- ---- Counts

-- among numbers from `at` on, k is not there where it is below `at`, and once where it is one of them
once-none : (k count at : ℕ) → k < at → sum_of (tabulate (λ c. cond (eqb k c) 1 0) count at) ≡ 0
unfolding sum_of tabulate
once-none k zero at h = refl
once-none k (suc count) at h = rw (ne_eqb k at (λ e. omega arith)) (omega (arith, once-none k count (suc at) (omega arith)))

once : (k count at : ℕ) → at ≤ k → k < at + count → sum_of (tabulate (λ c. cond (eqb k c) 1 0) count at) ≡ 1
unfolding sum_of tabulate
once k zero at l h = absurd (omega arith)
once k (suc count) at l h = elim (ℕ_discrete k at) [
  | yes e ↦ rw (eq-eqb k at e) (omega (arith, once-none k count (suc at) (omega arith)))
  | no d ↦ rw (ne_eqb k at d) (omega (arith, once k count (suc at) (omega arith) (omega arith)))
]

-- a bad byte counts once, and a good one not at all
one_byte_lem : (r : ByteRead) → ((cause : ℕ) → r ≡ Bad cause → cause ≤ 10)
    → sum_of (cause_numbers (each_cause (λ c. cond (is_bad_by c r) 1 0))) ≡ cond (is_bad r) 1 0
unfolding sum_of tabulate
one_byte_lem (Good v) small = refl
one_byte_lem (Bad cause) small = once cause 11 0 (omega arith) (omega (arith, small cause refl))

-- the bad bytes of a place, by where its value comes from
one_place : (a b : ByteRead)
    → cond (is_bad a) 1 0 + cond (is_bad b) 1 0
    ≡ 2 * cond (no_value (place_of a b)) 1 0 + cond (is_from_two (place_of a b)) 1 0 + cond (is_from_one (place_of a b) && is_bad b) 1 0
one_place (Good v) (Good w) = refl
one_place (Good v) (Bad two) = refl
one_place (Bad one) (Good w) = refl
one_place (Bad one) (Bad two) = refl

-- place after place, for any bytes
module _ (a b : ℕ → ByteRead) (small : (i cause : ℕ) → a i ≡ Bad cause → cause ≤ 10) (small' : (i cause : ℕ) → b i ≡ Bad cause → cause ≤ 10) where
  all-places : (n : ℕ)
      → sum_of (cause_numbers (each_cause (λ c. count_below (λ i. is_bad_by c (a i)) n + count_below (λ i. is_bad_by c (b i)) n)))
      ≡ 2 * count_below (λ i. no_value (place_of (a i) (b i))) n + count_below (λ i. is_from_two (place_of (a i) (b i))) n
      + count_below (λ i. is_from_one (place_of (a i) (b i)) && is_bad (b i)) n
  unfolding sum_of count_below
  all-places zero = refl
  all-places (suc n) = omega (arith, all-places n, one_byte_lem (a n) (small n), one_byte_lem (b n) (small' n), one_place (a n) (b n))

counts : (cs : List Class) (one two n : ℕ)
    → (let t = tally_of cs one two n in sum_of (cause_numbers t.bad) ≡ 2 * t.lost + t.two + spare_bad cs one two n)
unfolding tally_of place_at
counts cs one two n =
    all-places (λ i. byte_at cs (byte_place one (9 + i))) (λ i. byte_at cs (byte_place two (9 + i)))
    (λ i cause e. byte_at-most cs (byte_place one (9 + i)) e) (λ i cause e. byte_at-most cs (byte_place two (9 + i)) e) (n + 1)

-- ---- All of them

pub causes-told : CausesTold
causes-told = record {
  lost = λ cs room from n why e. (read_block-tells cs from n why room e).lost;
  others = λ cs room from n why e. (read_block-tells cs from n why room e).others;
  counts = counts;
}
