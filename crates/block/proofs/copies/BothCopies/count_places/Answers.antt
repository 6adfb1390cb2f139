-- `block::copies::BothCopies::count_places` meets its contract. The invariant: what is counted before place i, the sum with the values left, and the
-- refusal so far.
use Rattle.std.proofs.Common.{arith, sym, ap, ◌∙◌}
use Rattle.refusal.specs.Outcome.{outcome_of}
use Rattle.block.specs.Looking.{place_read}
use Rattle.block.proofs.CauseCounts.{told-begun, told-small, told-next, told-all}
use Rattle.block.proofs.Counting.{counting-begun, counting-few, counting-one, counting-two, counting-lost, counted-one, counted-tally, counted-check, counted-last}
use Rattle.block.proofs.copies.BothCopies.count_places.Goals as goal
use Rattle.block.proofs.copies.BothCopies.count_places.Goals.{in-One, in-Two, in-Neither}

pub loop-i-init : goal.loop-i-init
loop-i-init c = (counting-begun _ _ _ _, told-begun _ _ _)

pub count_place-requires : goal.count_place-requires
count_place-requires c = (omega arith, told-small _ _ _ c.loop-i.invariant.1 (omega arith))

pub overflow_add-repaired : goal.overflow_add-repaired
overflow_add-repaired c = record { fits = omega (arith, counting-few c.loop-i.invariant.0) }

pub overflow_add-lost : goal.overflow_add-lost
overflow_add-lost c = record { fits = omega (arith, counting-few c.loop-i.invariant.0) }

pub loop-i-preserved : goal.loop-i-preserved
loop-i-preserved c =
    let e = sym c.count_place.ensures.place in (
      elim c.match-count_place.branch [
        | in-One w ↦ counting-one c.loop-i.invariant.0 (omega arith) (e ∙ ap place_read w.in-One.is) w.sum-is w.repaired-is w.lost-is w.check-is
        | in-Two w ↦ counting-two c.loop-i.invariant.0 (omega arith) (e ∙ ap place_read w.in-Two.is) w.sum-is w.repaired-is w.lost-is w.check-is
        | in-Neither w ↦ counting-lost c.loop-i.invariant.0 (omega arith) (e ∙ ap place_read w.in-Neither.is) w.sum-is w.repaired-is w.at.ensures (w.check-is ∙ w.and-check.ensures) w.lost-is
      ],
      told-next _ _ _ c.loop-i.invariant.1 c.count_place.ensures.bad_after,
    )

pub overflow_sub-result : goal.overflow_sub-result
overflow_sub-result c = let whole = counted-one c.loop-i.invariant.0 (omega arith) in omega arith

pub overflow_sub-result-2 : goal.overflow_sub-result-2
overflow_sub-result-2 c = let whole = counted-one c.loop-i.invariant.0 (omega arith) in omega arith

pub returns : goal.returns
returns c =
    record {
      check = ap outcome_of c.and.ensures ∙ counted-check c.loop-i.invariant.0 (omega arith) _ c.check_sum.ensures;
      tally = counted-tally c.loop-i.invariant.0 (omega arith) (c.from.ensures ∙ told-all _ _ _ c.loop-i.invariant.1 _ (counted-last c.loop-i.invariant.0 (omega arith)));
    }
