-- What looking at a block tells, by what its parts found.
use Prim.Native.Nat.{ℕ, ◌+◌, ◌≤◌, ◌<◌}
use mathlib.Core.Path.{◌≡◌, refl, sym, ap, ap₂, ◌∙◌}
use mathlib.Core.Bool.{false}
use mathlib.Core.List.{List}
use Rattle.std.specs.Prelude.{Result, Err, Ok, ⊤}
use Rattle.std.specs.Result.{result_and}
use borrow.Author.Tests.{lt-ltb, le-ltb}
use lib.ListN.{length, length-map}
use Rattle.lists.specs.Places.{first_from}
use Rattle.refusal.specs.declared.Reason.TheVariants.{WrongSize, WrongCountdown, LostByte}
use Rattle.refusal.specs.declared.Refusal.{Refusal}
use Rattle.refusal.specs.Refusal.{refusal_at}
use Rattle.refusal.specs.Outcome.{Outcome, accepted, refuse, refused_with, mapped, outcome_of}
use Rattle.refusal.proofs.OutcomeLaws.{cond-accepted}
use Rattle.pulse.specs.declared.Thresholds.{Thresholds}
use Rattle.pulse.specs.declared.Class.{Class}
use Rattle.pulse.specs.Pulse.{class_of, classes}
use Rattle.start.specs.declared.Copies.{Copies}
use Rattle.start.specs.Copies.{copies_of, copy_two, end_of, locate_copies}
use Rattle.start.proofs.CopiesLaws.{locate_copies-accepted}
use Rattle.block.specs.declared.Extent.{Extent}
use Rattle.block.specs.declared.Look.{Look}
use Rattle.block.specs.declared.Tally.{Tally}
use Rattle.block.specs.Block.{wrong_size}
use Rattle.block.specs.Reading.{Place, is_miscounted, is_lost, place_at, causes_at, values_at, sum_holds, extent_of, block_at, read_copies}
use Rattle.block.specs.Looking.{tally_of, no_tally, Looked, copies_at, look_at, look_answer, read_place}
use Rattle.block.specs.private.Checks.{countdown_checked, values_checked}
use Rattle.block.proofs.RuleLaws.{outcome-and, all-given}

-- ---- Rules 3 to 5

abbrev looked : Outcome Extent → Tally → Looked
looked outcome tally = record { outcome = outcome; tally = tally }

pub look-copied : (cs : List Class) (p n two end : ℕ) (c s : Result ⊤ Refusal) {tally : Tally} → two ≡ copy_two p n → end ≡ end_of p n
    → outcome_of c ≡ countdown_checked cs p two tt → outcome_of s ≡ values_checked cs p two n tt → tally ≡ tally_of cs p two n
    → looked (outcome_of (result_and (result_and c s) (Ok (record { n = n; start = p; end = end })))) tally
    ≡ looked (mapped extent_of (read_copies cs p n)) (tally_of cs p two n)
unfolding read_copies
look-copied cs p n two end c s second last counted checked told =
    let q = copy_two p n in
    ap₂ looked
    (outcome-and (result_and c s) _
    ∙ rw (outcome-and c s, counted, checked, second, last)
    (all-given (λ i. LostByte (causes_at cs p q i)) (λ _. WrongCountdown) (first_from (is_miscounted cs p q) 9 0) (first_from (is_lost cs p q) (n + 1) 0) (sum_holds cs p q n) n
    extent_of (block_at p n (values_at cs p q n))))
    told

-- ---- Refusals 1 and 4

pub copies_at-accepted : (count p n : ℕ) (copies : Copies) → copies_at count p n ≡ accepted copies
    → (wrong_size n ≡ false) × (end_of p n ≤ count) × (copies_of p n ≡ copies)
unfolding copies_at
copies_at-accepted count p n copies e =
    let r = cond-accepted (wrong_size n) (refusal_at WrongSize 0) (locate_copies count p n) copies e in
    let w = locate_copies-accepted count p n copies r.1 in
    (r.0, w.0, w.1)

module _ (t : Thresholds) (strip : List ℕ) (p n : ℕ) {a : Result Copies Refusal} (e : outcome_of a ≡ copies_at (length strip) p n) where
  pub look-refused : {r : Refusal} (l : Look) → a ≡ Err r → look_answer l ≡ looked (refused_with r) no_tally → look_answer l ≡ look_at (classes t strip) p n
  unfolding look_at
  look-refused l g q = rw (length-map strip (class_of t), ← e, g) q

  pub place-refused : {r : Refusal} (i : ℕ) → i ≤ n → a ≡ Err r → refused_with r ≡ read_place (classes t strip) p n i
  unfolding read_place
  place-refused i h g = rw (length-map strip (class_of t), le-ltb n i h, ← e, g)

  module _ {copies : Copies} (g : a ≡ Ok copies) where
    there : (wrong_size n ≡ false) × (end_of p n ≤ length strip) × (copies_of p n ≡ copies)
    there = copies_at-accepted (length strip) p n copies (sym e ∙ ap outcome_of g)

    pub look-there : (copies.two ≡ copy_two copies.one n) × (copies.end ≡ end_of copies.one n) × (copies.end ≤ length strip)
    look-there = rw (← there.2) (refl, refl, there.1)

    pub look-accepted : (l : Look) → look_answer l ≡ looked (mapped extent_of (read_copies (classes t strip) copies.one n)) (tally_of (classes t strip) copies.one copies.two n)
        → look_answer l ≡ look_at (classes t strip) p n
    unfolding look_at
    look-accepted l q = rw (length-map strip (class_of t), ← e, g) (rw (← there.2) at q)

    pub place-accepted : {x : Place} (i : ℕ) → i ≤ n → x ≡ place_at (classes t strip) copies.one copies.two i → accepted x ≡ read_place (classes t strip) p n i
    unfolding read_place
    place-accepted i h q = rw (length-map strip (class_of t), le-ltb n i h, ← e, g) (ap accepted (rw (← there.2) at q))

pub place-above : (cs : List Class) (p n i : ℕ) → n < i → read_place cs p n i ≡ refuse WrongSize 0
unfolding read_place
place-above cs p n i h = rw (lt-ltb n i h)
