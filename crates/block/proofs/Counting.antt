-- Places 0 to n, one after the other, counted to the end.
use Prim.Native.Nat.{ℕ, ◌+◌, ◌-◌, ◌≤◌, ◌<◌}
use native.Mathlib.Numerals.{add-one}
use native.Mathlib.Omega.{arith}
use mathlib.Core.Path.{◌≡◌, refl, sym, ap, ◌∙◌}
use mathlib.Core.Bool.{false, cond}
use mathlib.Core.List.{List}
use Rattle.std.specs.Prelude.{Option, Result, Ok, Err, ⊤}
use Rattle.std.specs.Result.{result_and}
use lib.Bits.{bit_xor, xor_zero_r}
use lib.Dec.{eqb}
use Rattle.lists.specs.Places.{first_from, count_below}
use Rattle.lists.proofs.CountLaws.{count_most, count-three}
use Rattle.lists.proofs.LoopLaws.{first_left, first-begun, first-passed, first-here, first-over}
use Rattle.pulse.specs.declared.Class.{Class}
use Rattle.block.specs.declared.ByCause.{ByCause}
use Rattle.block.specs.declared.Tally.{Tally}
use Rattle.refusal.specs.declared.Causes.{Causes}
use Rattle.refusal.specs.declared.Reason.TheVariants.{LostByte}
use Rattle.refusal.specs.declared.Refusal.{Refusal}
use Rattle.refusal.specs.Refusal.{refusal_at}
use Rattle.refusal.specs.Outcome.{Outcome, accepted, refuse_there, and_then, outcome_of}
use Rattle.block.specs.Reading.{Place, FromOne, FromTwo, Lost, no_value, place_value, causes_in, place_at, is_lost, causes_at, sum_holds}
use Rattle.block.specs.Looking.{is_from_one, is_from_two, places_from, each_cause, bad_by, tally_of}
use Rattle.block.specs.private.Checks.{sum_checked, is_repaired, values_checked}
use Rattle.block.proofs.RuleLaws.{outcome-and, lost-sum}
use Rattle.block.proofs.Summing.{Summed, summed-begun, summed-next, summed-holds}

-- ---- Each place is taken from copy one, taken from copy two, or lost

one_of_three : (p : Place) → cond (is_from_one p) 1 0 + cond (is_from_two p) 1 0 + cond (no_value p) 1 0 ≡ 1
one_of_three (FromOne v) = refl
one_of_three (FromTwo v) = refl
one_of_three (Lost causes) = refl

pub places-whole : (cs : List Class) (one two n : ℕ)
    → places_from is_from_one cs one two n + places_from is_from_two cs one two n + places_from no_value cs one two n ≡ n + 1
places-whole cs one two n = count-three _ _ _ (λ i. one_of_three (place_at cs one two i)) (n + 1)

-- ---- What the loop knows before place i

abbrev lost_there : (cs : List Class) (one two : ℕ) → Option ℕ → Outcome ⊤
lost_there cs one two lost = refuse_there (λ i. LostByte (causes_at cs one two i)) lost (accepted tt)

pub record Counting (cs : List Class) (one two n sum repaired lost : ℕ) (check : Result ⊤ Refusal) (i : ℕ) : Type 0 where
  pub few : i ≤ n + 1
  pub summed : Summed cs one two n sum i
  pub twos : repaired ≡ count_below (is_repaired cs one two) i
  pub losts : lost ≡ count_below (is_lost cs one two) i
  -- the refusal so far, and else that of the places left, is that of all
  pub refused : and_then {A = ⊤} {B = ⊤} (outcome_of check) (λ _. lost_there cs one two (first_left (is_lost cs one two) (n + 1) i))
      ≡ lost_there cs one two (first_from (is_lost cs one two) (n + 1) 0)

pub counting-begun : (cs : List Class) (one two n : ℕ) → Counting cs one two n 0 0 0 (Ok tt) 0
unfolding count_below
counting-begun cs one two n = record {
  few = omega arith;
  summed = summed-begun cs one two n;
  twos = refl;
  losts = refl;
  refused = ap (lost_there cs one two) (first-begun (is_lost cs one two) (n + 1));
}

module _ {cs : List Class} {one two n sum repaired lost : ℕ} {check : Result ⊤ Refusal} {i : ℕ} (u : Counting cs one two n sum repaired lost check i) where
  pub counting-few : (repaired ≤ n + 1) × (lost ≤ n + 1)
  counting-few =
      let few = u.few in
      let twos = u.twos in
      let losts = u.losts in
      (omega (arith, count_most (is_repaired cs one two) i), omega (arith, count_most (is_lost cs one two) i))

  module _ {sum' repaired' lost' : ℕ} {check' : Result ⊤ Refusal} (h : i ≤ n) where
    -- a place with a value
    counting-value : {v : ℕ} → no_value (place_at cs one two i) ≡ false → place_value (place_at cs one two i) ≡ v → sum' ≡ bit_xor sum v
        → repaired' ≡ cond (is_repaired cs one two i) 1 0 + repaired → lost' ≡ lost → check' ≡ check
        → Counting cs one two n sum' repaired' lost' check' (i + 1)
    unfolding count_below
    counting-value p q s r l c = rw (s, l, c) (record {
      few = omega arith;
      summed = summed-next u.summed h q;
      twos = rw add-one (r ∙ ap (λ k. cond (is_repaired cs one two i) 1 0 + k) u.twos);
      losts = rw (add-one, p) (let e = u.losts in omega arith);
      refused =
          ap (λ left. and_then {A = ⊤} {B = ⊤} (outcome_of check) (λ _. lost_there cs one two left)) (first-passed (is_lost cs one two) (n + 1) i (omega arith) p) ∙ u.refused;
    })

    pub counting-one : {v : ℕ} → place_at cs one two i ≡ FromOne v → sum' ≡ bit_xor sum v → repaired' ≡ repaired → lost' ≡ lost → check' ≡ check
        → Counting cs one two n sum' repaired' lost' check' (i + 1)
    counting-one p s r = counting-value (ap no_value p) (ap place_value p) s (rw p (omega arith))

    pub counting-two : {v : ℕ} → place_at cs one two i ≡ FromTwo v → sum' ≡ bit_xor sum v → repaired' ≡ repaired + 1 → lost' ≡ lost → check' ≡ check
        → Counting cs one two n sum' repaired' lost' check' (i + 1)
    counting-two p s r = counting-value (ap no_value p) (ap place_value p) s (rw p (omega arith))

    pub counting-lost : {causes : Causes} {r : Refusal} → place_at cs one two i ≡ Lost causes → sum' ≡ sum → repaired' ≡ repaired
        → r ≡ refusal_at (LostByte causes) i → check' ≡ result_and check (Err r) → lost' ≡ lost + 1
        → Counting cs one two n sum' repaired' lost' check' (i + 1)
    unfolding count_below
    counting-lost {causes} {r} p s t q c l = record {
      few = omega arith;
      summed = rw (s, ← (xor_zero_r sum)) (summed-next u.summed h (ap place_value p));
      twos = rw (add-one, p) (let e = u.twos in omega arith);
      losts = rw (add-one, p) (let e = u.losts in omega arith);
      refused = rw c (go check u.refused);
    }
      where
        go : (check : Result ⊤ Refusal) → and_then {A = ⊤} {B = ⊤} (outcome_of check) (λ _. lost_there cs one two (first_left (is_lost cs one two) (n + 1) i))
            ≡ lost_there cs one two (first_from (is_lost cs one two) (n + 1) 0)
            → and_then {A = ⊤} {B = ⊤} (outcome_of (result_and check (Err r))) (λ _. lost_there cs one two (first_left (is_lost cs one two) (n + 1) (i + 1)))
            ≡ lost_there cs one two (first_from (is_lost cs one two) (n + 1) 0)
        go (Ok given) e = rw (q, ← (ap causes_in p)) (rw (first-here (is_lost cs one two) (n + 1) i (omega arith) (ap no_value p)) at e)
        go (Err r) e = e

  -- ---- After the checksum's place

  module _ (last : n < i) where
    pub counted-last : i ≡ n + 1
    counted-last = let few = u.few in omega arith

    counted-two : repaired ≡ places_from is_from_two cs one two n
    counted-two = u.twos ∙ ap (count_below (is_repaired cs one two)) counted-last

    counted-lost : lost ≡ places_from no_value cs one two n
    counted-lost = u.losts ∙ ap (count_below (is_lost cs one two)) counted-last

    pub counted-one : places_from is_from_one cs one two n + repaired + lost ≡ n + 1
    counted-one = rw (counted-two, counted-lost) (places-whole cs one two n)

    pub counted-tally : {bad : ByCause} → bad ≡ each_cause (λ cause. bad_by cause cs one n + bad_by cause cs two n)
        → ◌≡◌ {A = Tally} (record { one = n + 1 - repaired - lost; two = repaired; lost = lost; bad = bad }) (tally_of cs one two n)
    unfolding tally_of
    counted-tally b =
        let g : n + 1 - repaired - lost ≡ places_from is_from_one cs one two n = omega (arith, counted-one) in
        rw (g, b, ← counted-two, ← counted-lost)

    counted-refused : outcome_of check ≡ lost_there cs one two (first_from (is_lost cs one two) (n + 1) 0)
    counted-refused = whole check ∙ ap (λ left. and_then {A = ⊤} {B = ⊤} (outcome_of check) (λ _. lost_there cs one two left)) (sym (first-over (is_lost cs one two) (n + 1) i (omega arith))) ∙ u.refused
      where
        whole : (check : Result ⊤ Refusal) → outcome_of check ≡ and_then {A = ⊤} {B = ⊤} (outcome_of check) (λ _. accepted tt)
        whole (Ok given) = refl
        whole (Err r) = refl

    pub counted-check : (s : Result ⊤ Refusal) → outcome_of s ≡ sum_checked (eqb sum 0) n tt → outcome_of (result_and check s) ≡ values_checked cs one two n tt
    counted-check s e =
        outcome-and check s
        ∙ rw (counted-refused, e, summed-holds u.summed last)
        (lost-sum (λ i. LostByte (causes_at cs one two i)) (first_from (is_lost cs one two) (n + 1) 0) (sum_holds cs one two n) n)
