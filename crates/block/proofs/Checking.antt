-- Rules 4 and 5, place after place: what the loop over the values knows, and what it answers.
use Prim.Native.Nat.{ℕ, ◌+◌, ◌*◌, ◌≤◌, ◌<◌}
use native.Mathlib.Nat.{zero-add, add_comm}
use native.Mathlib.Numerals.{add-one}
use native.Mathlib.Omega.{arith}
use mathlib.Core.Path.{◌≡◌, refl, sym, ap, ◌∙◌}
use mathlib.Core.Bool.{false, cond}
use mathlib.Core.List.{List}
use Rattle.std.specs.Prelude.{None, Result, Err}
use borrow.Author.Count.{below_more}
use lib.Bits.{bit_xor}
use lib.Dec.{eqb}
use lib.ListN.{length}
use Rattle.lists.specs.Places.{first_from, count_below}
use Rattle.lists.proofs.CountLaws.{count_most}
use Rattle.lists.proofs.LoopLaws.{first_left, first-begun, first-passed, first-here, first-over}
use Rattle.pulse.specs.declared.Class.{Class}
use Rattle.refusal.specs.declared.Causes.{Causes}
use Rattle.refusal.specs.declared.Reason.TheVariants.{LostByte}
use Rattle.refusal.specs.declared.Refusal.{Refusal}
use Rattle.refusal.specs.Refusal.{refusal_at}
use Rattle.refusal.specs.Outcome.{outcome_of}
use Rattle.block.specs.Reading.{FromOne, FromTwo, Lost, no_value, place_value, place_at, is_lost}
use Rattle.block.specs.Looking.{is_from_two}
use Rattle.block.specs.private.Flags.{flag_at, raised, group_of}
use Rattle.block.specs.private.Checks.{sum_checked, is_repaired, repairs, Checked}
use Rattle.block.proofs.FlagLaws.{length-raised, raised-down, raised_keeps}
use Rattle.block.proofs.Summing.{Summed, summed-begun, summed-next, summed-holds}

-- ---- Places 0 to n

-- as `Flagged`, of the places before i
abbrev pub FlaggedBefore : (cs : List Class) (one two n i : ℕ) (row : List ℕ) → Type 0
FlaggedBefore cs one two n i row = (j : ℕ) → j < i → j < n → flag_at row (group_of j) ≡ false → is_repaired cs one two j ≡ false

-- no place before i is lost; the sum, XORed with the values left, is that of all; the count and the flags are those of the places before i
pub record Checking (cs : List Class) (one two n : ℕ) (row₀ row : List ℕ) (sum repaired i : ℕ) : Type 0 where
  pub few : i ≤ n + 1
  pub left : first_left (is_lost cs one two) (n + 1) i ≡ first_from (is_lost cs one two) (n + 1) 0
  pub summed : Summed cs one two n sum i
  pub counted : repaired ≡ count_below (is_repaired cs one two) i
  pub long : length row ≡ length row₀
  pub flagged : FlaggedBefore cs one two n i row

pub checking-begun : (cs : List Class) (one two n : ℕ) (row : List ℕ) → Checking cs one two n row row 0 0 0
unfolding count_below
checking-begun cs one two n row = record {
  few = omega arith;
  left = first-begun (is_lost cs one two) (n + 1);
  summed = summed-begun cs one two n;
  counted = refl;
  long = refl;
  flagged = λ j h. absurd (omega arith);
}

module _ {cs : List Class} {one two n : ℕ} {row₀ row : List ℕ} {sum repaired i : ℕ} (u : Checking cs one two n row₀ row sum repaired i) where
  pub check_values-lost : {row' : List ℕ} {causes : Causes} {r : Refusal} → i ≤ n → place_at cs one two i ≡ Lost causes → r ≡ refusal_at (LostByte causes) i
      → Checked cs one two n (Err r) row'
  check_values-lost h e q =
      let f = sym u.left ∙ first-here (is_lost cs one two) (n + 1) i (omega arith) (ap no_value e) in
      record {
        says = rw (f, q, e) refl;
        flagged = λ g. absurd (let z : ◌≡◌ {A = ℕ} 0 1 = cc in omega arith);
      }

  pub checking-few : repaired ≤ n + 1
  checking-few = let few = u.few in let counted = u.counted in omega (arith, count_most (is_repaired cs one two) i)

  -- a place with a value, whichever copy it is from
  checking-next : {row' : List ℕ} {repaired' v : ℕ} → i ≤ n → no_value (place_at cs one two i) ≡ false → place_value (place_at cs one two i) ≡ v
      → repaired' ≡ cond (is_repaired cs one two i) 1 0 + repaired → length row' ≡ length row → FlaggedBefore cs one two n (i + 1) row'
      → Checking cs one two n row₀ row' (bit_xor sum v) repaired' (i + 1)
  unfolding count_below
  checking-next h p q c l m = record {
    few = omega arith;
    left = first-passed (is_lost cs one two) (n + 1) i (omega arith) p ∙ u.left;
    summed = summed-next u.summed h q;
    counted = rw add-one (c ∙ ap (λ k. cond (is_repaired cs one two i) 1 0 + k) u.counted);
    long = l ∙ u.long;
    flagged = m;
  }

  module _ {row' : List ℕ} {sum' repaired' v : ℕ} (h : i ≤ n) (added : sum' ≡ bit_xor sum v) where
    pub checking-one : place_at cs one two i ≡ FromOne v → row' ≡ row → repaired' ≡ repaired → Checking cs one two n row₀ row' sum' repaired' (i + 1)
    checking-one p f c =
        rw (f, added, c)
        (checking-next h (ap no_value p) (ap place_value p) (rw p (sym (zero-add repaired))) refl (below_more _ _ u.flagged (λ l d. ap is_from_two p)))

    pub checking-two : n ≤ 128 * length row₀ → place_at cs one two i ≡ FromTwo v → row' ≡ raised row (group_of i) → repaired' ≡ repaired + 1
        → Checking cs one two n row₀ row' sum' repaired' (i + 1)
    checking-two room p f c =
        let long = u.long in
        rw added
        (checking-next h (ap no_value p) (ap place_value p) (rw p (c ∙ add_comm repaired 1)) (ap length f ∙ length-raised row (group_of i))
        (below_more _ _ (λ j l m d. u.flagged j l m (raised_keeps row (group_of i) (group_of j) (rw f at d)))
        (λ l d. absurd ((raised-down row (group_of i) (group_of i) (omega arith) (rw f at d)).0 refl))))

  -- after the checksum's place
  module _ (last : n < i) where
    none-lost : None ≡ first_from (is_lost cs one two) (n + 1) 0
    none-lost = sym (first-over (is_lost cs one two) (n + 1) i (omega arith)) ∙ u.left

    all-counted : repaired ≡ repairs cs one two n
    all-counted = let few = u.few in u.counted ∙ ap (count_below (is_repaired cs one two)) (omega arith)

    pub check_values-ended : {answer : Result ℕ Refusal} → outcome_of answer ≡ sum_checked (eqb sum 0) n repaired → Checked cs one two n answer row
    check_values-ended e = record {
      says = rw (← none-lost, ← (summed-holds u.summed last), ← all-counted) e;
      flagged = λ g j l. u.flagged j (omega arith) l;
    }
