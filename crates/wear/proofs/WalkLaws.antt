-- Laws of the walk: each step goes on, so the walk ends, and it is one step and the walk from there.
use Prim.Native.Nat.{ℕ, zero, suc, ◌+◌, ◌≤◌, ◌<◌}
use native.Mathlib.Omega.{arith}
use mathlib.Core.Path.{◌≡◌, refl, sym, ap, subst}
use mathlib.Core.Bool.{false}
use mathlib.Core.List.{List, [], ◌∷◌}
use native.Mathlib.Decide.{dec_le}
use lib.ListN.{length}
use Rattle.refusal.specs.declared.Reason.TheVariants.{WrongSize}
use Rattle.refusal.specs.Refusal.{refusal_at}
use Rattle.refusal.specs.Outcome.{Outcome, refused, accepted, mapped}
use Rattle.refusal.proofs.OutcomeLaws.{cond-accepted, mapped-accepted}
use Rattle.pulse.specs.declared.Class.{Class}
use Rattle.start.specs.Start.{find_start}
use Rattle.start.specs.Copies.{copy_two, end_of}
use Rattle.start.proofs.StartLaws.{find_start-within}
use Rattle.block.specs.Block.{wrong_size}
use Rattle.block.specs.Reading.{BlockRead, read_at}
use Rattle.block.specs.declared.Tally.{Tally}
use Rattle.block.specs.Looking.{for_cause, counted, Looked, look_at}
use Rattle.block.proofs.BlockLaws.{wrong_size-within}
use Rattle.block.proofs.ReadingLaws.{read_at-accepted}
use Rattle.block.proofs.LookingLaws.{tally-whole, look-within, look-cut_short, for-most, tally-bad}
use Rattle.wear.specs.declared.Trial.{Trial}
use Rattle.wear.specs.declared.Spot.{Spot}
use Rattle.wear.specs.Walk.{size_of, next_spot, Block, try_at, step_from, then_blocks, walk_for, blocks_from}
use Rattle.wear.specs.Report.{bad_of}

-- ---- One step

module _ (cs : List Class) (trial : Trial) (p : ℕ) (there : p + 20 ≤ length cs) where
  -- the walk goes on after the start, on the strip
  next-on : (o : Outcome BlockRead) → read_at cs p (size_of trial) ≡ o → (p < (next_spot trial p o).from) × ((next_spot trial p o).from ≤ length cs)
  next-on (refused why) e = (omega arith, omega arith)
  next-on (accepted b) e =
      let w = read_at-accepted cs (size_of trial) b p e in
      let z : end_of p (size_of trial) ≡ b.extent.end = ap (λ (x : BlockRead). x.extent.end) w.1 in
      (omega (arith, w.0), omega (arith, w.0))

-- what is known of a block that a step found
pub record Told (cs : List Class) (at : Spot) (b : Block) : Type 0 where
  pub size : wrong_size (size_of at.trial) ≡ false
  pub found : find_start cs at.from ≡ accepted b.start
  pub tried : try_at cs at.trial b.start ≡ b
  pub after : at.from + 16 ≤ b.start
  pub before : b.start < b.next.from
  pub within : b.next.from ≤ length cs

pub step-told : (cs : List Class) (at : Spot) (b : Block) → step_from cs at ≡ accepted b → Told cs at b
unfolding step_from try_at
step-told cs at b e =
    let r = cond-accepted (wrong_size (size_of at.trial)) (refusal_at WrongSize 0) (mapped (try_at cs at.trial) (find_start cs at.from)) b e in
    let f = mapped-accepted (try_at cs at.trial) (find_start cs at.from) (sym r.1) in
    told r.0 f.0 f.1 f.2
  where
    told : wrong_size (size_of at.trial) ≡ false → (p : ℕ) → find_start cs at.from ≡ accepted p → try_at cs at.trial p ≡ b → Told cs at b
    told size p f t =
        let w = find_start-within cs at.from p f in
        let on = next-on cs at.trial p w.1 (read_at cs p (size_of at.trial)) refl in
        rw (← t) (record { size = size; found = f; tried = refl; after = w.0; before = on.0; within = on.1 })

-- its places are those of the rules: n + 1 of them, or none where the strip ends before copy two does
pub told-counted : (cs : List Class) (at : Spot) (b : Block) → Told cs at b → counted b.tally ≤ 8193
unfolding try_at
told-counted cs at b t =
    let n = size_of at.trial in
    let size = wrong_size-within n t.size in
    let same : (look_at cs b.start n).tally ≡ b.tally = ap (λ (x : Block). x.tally) t.tried in
    rw (← same) (elim (dec_le (end_of b.start n) (length cs)) [
      | yes h ↦ rw (look-within cs b.start n t.size h) (omega (arith, tally-whole cs b.start (copy_two b.start n) n))
      | no h ↦ rw (look-cut_short cs b.start n t.size (omega arith)) (omega arith)
    ])

-- its bad bytes are at most two for each of its places
pub told-bad : (cs : List Class) (at : Spot) (b : Block) → Told cs at b → (cause : ℕ) → bad_of cause b ≤ 16386
unfolding try_at
told-bad cs at b t cause =
    let n = size_of at.trial in
    let size = wrong_size-within n t.size in
    let same : (look_at cs b.start n).tally ≡ b.tally = ap (λ (x : Block). x.tally) t.tried in
    let few : Tally → Type 0 = λ x. for_cause cause x.bad ≤ 16386 in
    subst few same (elim (dec_le (end_of b.start n) (length cs)) [
      | yes h ↦ subst few (sym (look-within cs b.start n t.size h)) (omega (arith, tally-bad cs b.start (copy_two b.start n) n cause))
      | no h ↦ subst few (sym (ap (λ (x : Looked). x.tally) (look-cut_short cs b.start n t.size (omega arith)))) (for-most (λ _. 0) 16386 (λ c. omega arith) cause)
    ])

-- ---- Step after step

module _ (cs : List Class) where
  same_then : (o : Outcome Block) (f g : Block → List Block) → ((b : Block) → o ≡ accepted b → f b ≡ g b) → then_blocks o f ≡ then_blocks o g
  same_then (refused why) f g h = refl
  same_then (accepted b) f g h = ap (λ (bs : List Block). b ∷ bs) (h b refl)

  -- past the strip there is no step
  no_step : (at : Spot) (f : Block → List Block) → length cs ≤ at.from → then_blocks (step_from cs at) f ≡ []
  no_step at f h = go (step_from cs at) refl
    where
      go : (o : Outcome Block) → step_from cs at ≡ o → then_blocks o f ≡ []
      go (refused why) e = refl
      go (accepted b) e = let t = step-told cs at b e in absurd (omega (arith, t.after, t.before, t.within))

  -- enough steps give the whole walk
  walk-over : (k : ℕ) (at : Spot) → length cs ≤ at.from → walk_for k cs at ≡ []
  unfolding walk_for
  walk-over zero at h = refl
  walk-over (suc k) at h = no_step at _ h

  walk_same : (k m : ℕ) (at : Spot) → length cs ≤ at.from + k → length cs ≤ at.from + m → walk_for k cs at ≡ walk_for m cs at
  unfolding walk_for
  walk_same zero m at h g = sym (walk-over m at (omega arith))
  walk_same (suc k) zero at h g = walk-over (suc k) at (omega arith)
  walk_same (suc k) (suc m) at h g =
      same_then (step_from cs at) (λ b. walk_for k cs b.next) (λ b. walk_for m cs b.next)
      (λ b e. let t = step-told cs at b e in walk_same k m b.next (omega (arith, t.after, t.before)) (omega (arith, t.after, t.before)))

  -- the walk is one step and the walk from there
  pub walk-unfolds : (at : Spot) → blocks_from cs at ≡ then_blocks (step_from cs at) (λ b. blocks_from cs b.next)
  unfolding blocks_from walk_for
  walk-unfolds at = walk_same (length cs) (suc (length cs)) at (omega arith) (omega arith)
