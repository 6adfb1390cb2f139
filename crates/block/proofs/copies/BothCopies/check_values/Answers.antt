-- `block::copies::BothCopies::check_values` meets its contract. The invariant: no place so far is lost, the sum so far, XORed with the values left,
-- is that of all, and the count and the flags are those of the places so far.
use Rattle.std.proofs.Common.{arith, sym, ap, ◌∙◌}
use Rattle.refusal.specs.Outcome.{outcome_of, and_then, accepted}
use Rattle.block.specs.Looking.{place_read}
use Rattle.block.proofs.RuleLaws.{outcome-and, sum-given}
use Rattle.block.proofs.Checking.{checking-begun, check_values-lost, check_values-ended, checking-few, checking-one, checking-two}
use Rattle.block.proofs.copies.BothCopies.check_values.Goals as goal
use Rattle.block.proofs.copies.BothCopies.check_values.Goals.{in-One, in-Two}

pub loop-i-init : goal.loop-i-init
loop-i-init c = checking-begun _ _ _ _ _

pub overflow_add-repaired : goal.overflow_add-repaired
overflow_add-repaired c = omega (arith, checking-few c.loop-i.invariant)

pub returns-in-Neither : goal.returns-in-Neither
returns-in-Neither c = check_values-lost c.loop-i.invariant (omega arith) (sym c.read_place.ensures ∙ ap place_read c.in-Neither.is) c.at.ensures

pub loop-i-preserved : goal.loop-i-preserved
loop-i-preserved c =
    let e = sym c.read_place.ensures in
    elim c.match-read_place.branch [
      | in-One w ↦ checking-one c.loop-i.invariant (omega arith) w.sum-is (e ∙ ap place_read w.in-One.is) w.row-is w.repaired-is
      | in-Two w ↦ checking-two c.loop-i.invariant (omega arith) w.sum-is c.requires (e ∙ ap place_read w.in-Two.is) (w.row-is ∙ w.raise_flag.ensures) w.repaired-is
    ]

pub returns : goal.returns
returns c =
    check_values-ended c.loop-i.invariant (omega arith)
    (ap outcome_of c.and.ensures ∙ outcome-and c.check_sum.result _ ∙ ap (λ o. and_then o (λ _. accepted c.loop-i.repaired)) c.check_sum.ensures ∙ sum-given _ _ _)
