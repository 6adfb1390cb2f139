-- One step of the walk, by what its parts found.
use Prim.Native.Nat.{ℕ, ◌≤◌, ◌<◌}
use Rattle.std.specs.Prelude.{Option, Result, Ok, Err, IsOk, ℕ, None, Some}
use native.Mathlib.Omega.{arith}
use mathlib.Core.Path.{◌≡◌, refl, sym, ap, ap₂, ◌∙◌}
use mathlib.Core.Bool.{true, false}
use mathlib.Core.List.{List, [], ◌∷◌}
use lib.ListN.{length, length-map}
use Rattle.lists.specs.Places.{tabulate}
use Rattle.std.specs.Option.{ok_or}
use Rattle.std.specs.Result.{MatchResult, IsErrAnd}
use Rattle.refusal.specs.declared.Reason.{Reason}
use Rattle.refusal.specs.Refusal.{in_block}
use Rattle.refusal.specs.declared.Reason.TheVariants.{WrongSize, NoStart}
use Rattle.refusal.specs.declared.Refusal.{Refusal}
use Rattle.refusal.specs.Outcome.{Outcome, accepted, refuse, mapped, of_block, outcome_of}
use Rattle.refusal.proofs.OutcomeLaws.{mapped-accepted}
use Rattle.pulse.specs.declared.Class.{Class}
use Rattle.pulse.specs.Pulse.{class_of, fixed, classes}
use Rattle.start.specs.Start.{find_start, start_at}
use Rattle.start.specs.Copies.{copy_two, end_of}
use Rattle.start.proofs.StartLaws.{find_start-within}
use Rattle.block.specs.declared.Extent.{Extent}
use Rattle.block.specs.declared.Look.{Look}
use Rattle.block.specs.declared.PlaceRead.{PlaceRead}
use Rattle.block.specs.Block.{wrong_size}
use Rattle.block.specs.Reading.{place_at, place_value, value_at, values_at, BlockRead, extent_of, read_at}
use Rattle.block.specs.Looking.{Looked, look_at, look_answer, read_place, place_read, place_answer}
use Rattle.block.proofs.ReadingLaws.{read_at-accepted}
use Rattle.block.proofs.LookingLaws.{look-reads, place-within}
use Rattle.header.specs.Header.{fields_of}
use Rattle.wear.specs.declared.Trial.{Trial}
use Rattle.wear.specs.declared.Spot.{Spot}
use Rattle.wear.specs.Walk.{size_of, block_of, spot, after_block, next_spot, Block, try_at, step_from, tried_block}

-- the classes of a strip, one for each pulse
abbrev on : List ℕ → List Class
on = classes fixed

length-on : (strip : List ℕ) → length (on strip) ≡ length strip
length-on strip = length-map strip (class_of fixed)

-- ---- The bytes of a header

module _ (strip : List ℕ) (p i : ℕ) (within : end_of p 192 ≤ length strip) (h : i ≤ 192) where
  -- both copies lie on the strip
  there : read_place (on strip) p 192 i ≡ accepted (place_at (on strip) p (copy_two p 192) i)
  there = place-within (on strip) p 192 refl i (rw (length-on strip) within) h

  pub byte-there : (r : Result PlaceRead Refusal) → place_answer r ≡ read_place (on strip) p 192 i → IsOk r
  byte-there (Ok read) e = refl
  byte-there (Err why) e = let q = e ∙ there in absurd cc

  pub byte-read : {r : Result PlaceRead Refusal} {read : PlaceRead} → place_answer r ≡ read_place (on strip) p 192 i → r ≡ Ok read
      → place_value (place_read read) ≡ value_at (on strip) p (copy_two p 192) i
  byte-read {read = read} e is =
      let q = sym (ap place_answer is) ∙ e ∙ there in
      ap place_value (let z : place_read read ≡ place_at (on strip) p (copy_two p 192) i = cc in z)

-- type and addresses stand in the first five bytes
pub fields-front : (f : ℕ → ℕ) → fields_of (f 0 ∷ f 1 ∷ f 2 ∷ f 3 ∷ f 4 ∷ []) ≡ fields_of (tabulate f 192 0)
unfolding fields_of tabulate
fields-front f = refl

-- ---- Where the walk goes on

module _ (strip : List ℕ) (trial : Trial) (p : ℕ) where
  abbrev outcome : Outcome BlockRead
  outcome = read_at (on strip) p (size_of trial)

  module _ {e : Extent} (q : accepted e ≡ mapped extent_of outcome) where
    read : (b : BlockRead) × (outcome ≡ accepted b) × (b.extent ≡ e)
    read = mapped-accepted extent_of outcome q

    pub next-within : end_of p (size_of trial) ≤ length strip
    next-within = rw (length-on strip) at (read_at-accepted (on strip) (size_of trial) read.0 p read.1).0

    pub next-accepted : {t : Trial} → t ≡ after_block trial (values_at (on strip) p (copy_two p (size_of trial)) (size_of trial))
        → spot e.end t ≡ next_spot trial p outcome
    next-accepted g =
        let b = (read_at-accepted (on strip) (size_of trial) read.0 p read.1).1 in
        ap₂ spot (ap (λ (x : Extent). x.end) (sym read.2)) (g ∙ ap (λ (x : BlockRead). after_block trial x.payload) b) ∙ ap (next_spot trial p) (sym read.1)

-- ---- The block at a start

-- an answer whose refusal names another block
pub in-block : {P : Refusal → Refusal → Type 0} (k : ℕ) (a b : Result Extent Refusal) → MatchResult a (λ e. b ≡ Ok e) (λ r. IsErrAnd b (P r))
    → ((r s : Refusal) → P r s → s ≡ in_block k r) → outcome_of b ≡ of_block k (outcome_of a)
in-block k (Ok e) b w h = rw w
in-block k (Err r) (Ok e) w h = absurd w
in-block k (Err r) (Err s) w h = rw (h r s w)

module _ (strip : List ℕ) (trial : Trial) (p : ℕ) (size : wrong_size (size_of trial) ≡ false) {n : ℕ} (l : Look) (e : look_answer l ≡ look_at (on strip) p n) (m : n ≡ size_of trial) where
  pub tried-reads : outcome_of l.answer ≡ mapped extent_of (read_at (on strip) p (size_of trial))
  tried-reads = ap (λ (x : Looked). x.outcome) e ∙ ap (λ k. (look_at (on strip) p k).outcome) m ∙ look-reads (on strip) p (size_of trial) size

  pub tried-block : (a : Result Extent Refusal) {next : Spot} → outcome_of a ≡ of_block (block_of trial) (outcome_of l.answer) → next ≡ next_spot trial p (read_at (on strip) p (size_of trial))
      → tried_block (record { n = n; start = p; answer = a; tally = l.tally; next = next }) ≡ try_at (on strip) trial p
  unfolding try_at
  tried-block a q g =
      let o = tried-reads in
      let t = ap (λ (x : Looked). x.tally) e ∙ ap (λ k. (look_at (on strip) p k).tally) m in
      rw (q, o, t, m, g)

-- ---- The step

none-found : (f : Option ℕ) {why : Reason} → ok_or f NoStart ≡ Err why → (f ≡ None) × (why ≡ NoStart)
none-found None e = (refl, cc)
none-found (Some p) e = absurd cc

module _ (strip : List ℕ) (at : Spot) where
  pub step-wrong_size : wrong_size (size_of at.trial) ≡ true → refuse WrongSize 0 ≡ step_from (on strip) at
  unfolding step_from
  step-wrong_size e = rw e

  module _ (size : wrong_size (size_of at.trial) ≡ false) (f : Option ℕ) (e : start_at f ≡ find_start (on strip) at.from) where
    pub step-NoStart : {why : Reason} → ok_or f NoStart ≡ Err why → refuse why 0 ≡ step_from (on strip) at
    unfolding step_from
    step-NoStart g = let n = none-found f g in rw (n.1, size, ← e, n.0)

    module _ {p : ℕ} (g : f ≡ Some p) where
      pub step-within : p < length strip
      step-within = let w = (find_start-within (on strip) at.from p (sym e ∙ ap start_at g)).1 in omega (arith, length-on strip)

      pub step-found : {b : Block} → b ≡ try_at (on strip) at.trial p → accepted b ≡ step_from (on strip) at
      unfolding step_from
      step-found q = rw (size, ← e, g) (ap accepted q)
