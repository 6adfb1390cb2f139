-- The places of all blocks, one step after the other: what was counted, with what is left, is all, and that is bounded.
use Prim.Native.Nat.{ℕ, zero, suc, ◌+◌, ◌-◌, ◌*◌, ◌^◌, ◌≤◌, ◌<◌}
use native.Mathlib.Nat.{mul-suc, mul-le-mul_left}
use native.Mathlib.Decide.{dec_lt}
use native.Mathlib.Omega.{arith}
use mathlib.Core.Path.{◌≡◌, refl, sym, ap, ◌∙◌}
use mathlib.Core.List.{List, []}
use lib.ListN.{length}
use Rattle.refusal.specs.declared.Refusal.{Refusal}
use Rattle.refusal.specs.Outcome.{Outcome, refused, accepted, refused_with}
use Rattle.pulse.specs.declared.Class.{Class}
use Rattle.block.specs.declared.ByCause.{ByCause}
use Rattle.block.specs.declared.Tally.{Tally}
use Rattle.block.specs.Looking.{for_cause, no_bad, no_tally}
use Rattle.block.proofs.LookingLaws.{for-each, for-none, for-most, each_same}
use Rattle.wear.specs.declared.Spot.{Spot}
use Rattle.wear.specs.Walk.{Block, step_from, then_blocks, walk_for, blocks_from, blocks, beginning}
use Rattle.wear.specs.Report.{total, one_of, two_of, lost_of, bad_of}
use Rattle.wear.specs.private.Counts.{places_of, both_bad, BothFit, both_tallies, TalliesFit}
use Rattle.wear.proofs.WalkLaws.{Told, step-told, told-counted, told-bad, walk-unfolds}

-- ---- A block has at most 8,193 places, and a strip no more blocks than pulses

module _ (cs : List Class) (count : Block → ℕ) (bound : ℕ) (small : (at : Spot) (b : Block) → Told cs at b → count b ≤ bound) where
  walk-most : (k : ℕ) (at : Spot) → total count (walk_for k cs at) ≤ bound * (length cs - at.from)
  unfolding total walk_for
  walk-most zero at = omega arith
  walk-most (suc k) at = go (walk-most k) (step_from cs at) refl
    where
      go : ((on : Spot) → total count (walk_for k cs on) ≤ bound * (length cs - on.from)) → (o : Outcome Block) → step_from cs at ≡ o
          → total count (then_blocks o (λ b. walk_for k cs b.next)) ≤ bound * (length cs - at.from)
      go later (refused why) e = omega arith
      go later (accepted b) e =
          let t = step-told cs at b e in
          let more : bound * suc (length cs - b.next.from) ≤ bound * (length cs - at.from) = mul-le-mul_left bound (omega (arith, t.after, t.before, t.within)) in
          let step : bound * suc (length cs - b.next.from) ≡ bound * (length cs - b.next.from) + bound = mul-suc bound (length cs - b.next.from) in
          omega (arith, small at b t, later b.next, more, step)

  blocks-most : total count (blocks cs) ≤ bound * length cs
  unfolding blocks_from
  blocks-most = let z : length cs - 0 ≡ length cs = omega arith in rw z at (walk-most (length cs) beginning)

pub one-most : (cs : List Class) → total one_of (blocks cs) ≤ 8193 * length cs
one-most cs = blocks-most cs one_of 8193 (λ at b t. omega (arith, told-counted cs at b t))

pub two-most : (cs : List Class) → total two_of (blocks cs) ≤ 8193 * length cs
two-most cs = blocks-most cs two_of 8193 (λ at b t. omega (arith, told-counted cs at b t))

pub lost-most : (cs : List Class) → total lost_of (blocks cs) ≤ 8193 * length cs
lost-most cs = blocks-most cs lost_of 8193 (λ at b t. omega (arith, told-counted cs at b t))

pub bad-most : (cs : List Class) (cause : ℕ) → total (bad_of cause) (blocks cs) ≤ 16386 * length cs
bad-most cs cause = blocks-most cs (bad_of cause) 16386 (λ at b t. told-bad cs at b t cause)

-- ---- Step after step

pub record Walking (cs : List Class) (sum : Tally) (at : Spot) : Type 0 where
  pub ones : sum.one + total one_of (blocks_from cs at) ≡ total one_of (blocks cs)
  pub twos : sum.two + total two_of (blocks_from cs at) ≡ total two_of (blocks cs)
  pub losts : sum.lost + total lost_of (blocks_from cs at) ≡ total lost_of (blocks cs)
  pub bads : (cause : ℕ) → for_cause cause sum.bad + total (bad_of cause) (blocks_from cs at) ≡ total (bad_of cause) (blocks cs)

none-bad : (cause : ℕ) → for_cause cause no_bad ≡ 0
none-bad cause = let z = for-most (λ _. 0) 0 (λ c. omega arith) cause in omega arith

pub walking-begun : (cs : List Class) {sum : Tally} → sum ≡ no_tally → Walking cs sum beginning
walking-begun cs e = rw e (record { ones = omega arith; twos = omega arith; losts = omega arith; bads = λ cause. omega (arith, none-bad cause) })

-- the number for a cause of bad bytes that were added
both-for : (a b : ByCause) (cause : ℕ) → for_cause cause (both_bad a b) ≡ for_cause cause a + for_cause cause b
both-for a b cause = elim (dec_lt cause 11) [
  | yes h ↦ for-each (λ c. for_cause c a + for_cause c b) cause h
  | no h ↦ omega (arith, for-none (both_bad a b) cause (omega arith), for-none a cause (omega arith), for-none b cause (omega arith))
]

pub both-fit : (a b : ByCause) → ((cause : ℕ) → for_cause cause a + for_cause cause b < 2 ^ 64) → BothFit a b
both-fit a b h = record {
  marker = h 0;
  bit0 = h 1;
  bit1 = h 2;
  bit2 = h 3;
  bit3 = h 4;
  bit4 = h 5;
  bit5 = h 6;
  bit6 = h 7;
  bit7 = h 8;
  parity = h 9;
  ones = h 10;
}

module _ {cs : List Class} {sum : Tally} {at : Spot} (u : Walking cs sum at) where
  module _ (b : Block) (e : step_from cs at ≡ accepted b) where
    left : (count : Block → ℕ) → total count (blocks_from cs at) ≡ count b + total count (blocks_from cs b.next)
    unfolding total
    left count = ap (total count) (walk-unfolds cs at ∙ ap (λ (o : Outcome Block). then_blocks o (λ b. blocks_from cs b.next)) e)

    pub walking-next : {sum' : Tally} → sum' ≡ both_tallies sum b.tally → Walking cs sum' b.next
    walking-next e' =
        let ones = u.ones in
        let twos = u.twos in
        let losts = u.losts in
        rw e' (record {
          ones = omega (arith, left one_of);
          twos = omega (arith, left two_of);
          losts = omega (arith, left lost_of);
          bads = λ cause. omega (arith, u.bads cause, left (bad_of cause), both-for sum.bad b.tally.bad cause);
        })

    -- no sum is too large
    pub walking-fits : length cs ≤ 1048576 → TalliesFit sum b.tally
    walking-fits h =
        let ones = u.ones in
        let twos = u.twos in
        let losts = u.losts in
        record {
          one = omega (arith, left one_of, one-most cs);
          two = omega (arith, left two_of, two-most cs);
          lost = omega (arith, left lost_of, lost-most cs);
          bad = both-fit sum.bad b.tally.bad (λ cause. omega (arith, u.bads cause, left (bad_of cause), bad-most cs cause));
        }

    -- the place goes on
    pub walking_on : length cs - b.next.from < length cs - at.from
    walking_on = let t = step-told cs at b e in omega (arith, t.after, t.before, t.within)

  pub walking-done : (r : Refusal) → refused_with r ≡ step_from cs at → sum ≡ places_of (blocks cs)
  unfolding places_of total
  walking-done r e =
      let over : blocks_from cs at ≡ [] = walk-unfolds cs at ∙ ap (λ (o : Outcome Block). then_blocks o (λ b. blocks_from cs b.next)) (sym e) in
      let a : sum.one ≡ total one_of (blocks cs) = omega (arith, rw over at u.ones) in
      let b : sum.two ≡ total two_of (blocks cs) = omega (arith, rw over at u.twos) in
      let c : sum.lost ≡ total lost_of (blocks cs) = omega (arith, rw over at u.losts) in
      let d = each_same (λ cause. for_cause cause sum.bad) (λ cause. total (bad_of cause) (blocks cs)) (λ cause. omega (arith, rw over at (u.bads cause))) in
      let same : ◌≡◌ {A = Tally} (record { one = sum.one; two = sum.two; lost = sum.lost; bad = sum.bad }) (places_of (blocks cs)) = rw (a, b, c, ← d) in
      same
