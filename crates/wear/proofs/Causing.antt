-- What the walk tells of the causes of bad bytes.
use Prim.Native.Nat.{ℕ, ◌+◌, ◌*◌}
use native.Mathlib.Decide.{dec_le}
use native.Mathlib.Omega.{arith}
use mathlib.Core.Path.{◌≡◌, refl, sym, ap, ◌∙◌}
use mathlib.Core.Logic.{◌⊎◌, inl, inr}
use mathlib.Core.Bool.{true, false}
use mathlib.Core.List.{List}
use Rattle.std.specs.Prelude.{None}
use lib.ListN.{length}
use Rattle.refusal.specs.Refusal.{Why, why_in}
use Rattle.refusal.specs.Outcome.{Outcome, refused, accepted, mapped, of_block}
use Rattle.pulse.specs.declared.Class.{Class}
use Rattle.start.specs.Copies.{copy_two, end_of}
use Rattle.block.specs.declared.Tally.{Tally}
use Rattle.block.specs.Reading.{BlockRead, extent_of, read_at, read_from}
use Rattle.block.specs.Looking.{cause_numbers, tally_of, no_bad, no_tally, counted, Looked, look_at}
use Rattle.block.specs.Claim.{LostTold, sum_of, spare_bad}
use Rattle.block.proofs.LookingLaws.{tally-whole, look-within, look-cut_short}
use Rattle.block.proofs.Telling.{lost-in, Tells, read_from-tells, causes-told}
use Rattle.wear.specs.declared.Spot.{Spot}
use Rattle.wear.specs.Walk.{size_of, block_of, Block, try_at, step_from}
use Rattle.wear.specs.Claim.{is_cut, WalksCauses}
use Rattle.wear.proofs.WalkLaws.{step-told}
use Rattle.wear.proofs.Walking.{bad-most}
use Rattle.wear.proofs.Claims.{walks}

-- an outcome that is told as a refusal is one, but for the block's number
told-refused : (k : ℕ) (o : Outcome BlockRead) (why : Why) → of_block k (mapped extent_of o) ≡ refused why
    → (inner : Why) × (o ≡ refused inner) × (why_in k inner ≡ why)
told-refused k (refused inner) why e = (inner, refl, cc)
told-refused k (accepted b) why e = absurd cc

module _ (cs : List Class) (at : Spot) (b : Block) (e : step_from cs at ≡ accepted b) where
  -- ---- The counts

  abbrev two : ℕ
  two = copy_two b.start b.n

  -- all places are counted, or none is
  tally-told : (b.tally ≡ tally_of cs b.start two b.n) ⊎ (b.tally ≡ no_tally)
  unfolding try_at
  tally-told =
      let t = step-told cs at b e in
      let n = size_of at.trial in
      let size : n ≡ b.n = ap (λ (x : Block). x.n) t.tried in
      let same : (look_at cs b.start n).tally ≡ b.tally = ap (λ (x : Block). x.tally) t.tried in
      elim (dec_le (end_of b.start n) (length cs)) [
        | yes h ↦ inl (sym same ∙ look-within cs b.start n t.size h ∙ ap (λ k. tally_of cs b.start (copy_two b.start k) k) size)
        | no h ↦ inr (sym same ∙ ap (λ (x : Looked). x.tally) (look-cut_short cs b.start n t.size (omega arith)))
      ]

  cut : is_cut b.outcome ≡ true → b.tally.bad ≡ no_bad
  cut c = elim tally-told [
    | inl w ↦ absurd (omega (arith, ap counted w, tally-whole cs b.start two b.n, rw c at (walks.counts cs at b e)))
    | inr w ↦ ap (λ (x : Tally). x.bad) w
  ]

  counts : is_cut b.outcome ≡ false
      → sum_of (cause_numbers b.tally.bad) ≡ 2 * b.tally.lost + b.tally.two + spare_bad cs b.start two b.n
  counts c = elim tally-told [
    | inl w ↦ rw w (causes-told.counts cs b.start two b.n)
    | inr w ↦ absurd (omega (arith, ap counted w, rw c at (walks.counts cs at b e)))
  ]

  -- ---- Refusals

  -- what the reader tells from where the walk stands, with the block's number changed
  record Inner (why : Why) : Type 0 where
    inner : Why
    tells : Tells cs at.from b.n inner
    same : why_in (block_of at.trial) inner ≡ why

  inner-told : (why : Why) → b.outcome ≡ refused why → Inner why
  unfolding try_at read_from
  inner-told why o =
      let t = step-told cs at b e in
      let n = size_of at.trial in
      let size : n ≡ b.n = ap (λ (x : Block). x.n) t.tried in
      let r = told-refused (block_of at.trial) (read_at cs b.start n) why (ap (λ (x : Block). x.outcome) t.tried ∙ o) in
      let whole : read_from cs at.from n ≡ refused r.0 = rw t.found r.1 in
      record { inner = r.0; tells = read_from-tells cs at.from b.n r.0 (ap (read_from cs at.from) (sym size) ∙ whole); same = r.2 }

  lost : (why : Why) → b.outcome ≡ refused why → why.number ≡ 6 → LostTold cs at.from b.n why
  lost why o six =
      let i = inner-told why o in
      let told = i.tells.lost (ap (λ (w : Why). w.number) i.same ∙ six) in
      rw (← i.same) (lost-in cs at.from b.n (block_of at.trial) i.inner told)

  others : (why : Why) → b.outcome ≡ refused why → (why.number ≡ 6 → ⊥) → why.causes ≡ None
  others why o six =
      let i = inner-told why o in
      sym (ap (λ (w : Why). w.causes) i.same) ∙ i.tells.others (λ s. six (sym (ap (λ (w : Why). w.number) i.same) ∙ s))

-- ---- All of them

pub walks-causes : WalksCauses
walks-causes = record {
  short = cut;
  counts = counts;
  lost = λ cs at b why e. lost cs at b e why;
  others = λ cs at b why e. others cs at b e why;
  bounded = bad-most;
}
