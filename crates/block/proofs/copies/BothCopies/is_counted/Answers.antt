-- `block::copies::BothCopies::is_counted` meets its contract: copy one's byte decides, and copy two's where that is another.
use Rattle.std.proofs.Common.{arith, sym, ap, ◌∙◌, lit<}
use Rattle.block.proofs.Countdowns.{has_value, row_at, is_counted-one, is_counted-two}
use Rattle.block.proofs.copies.BothCopies.is_counted.Goals as goal

pub returns-then-eq : goal.returns-then-eq
returns-then-eq c =
    c.if-eq.true
    ∙ is_counted-one _ _ _ _ _ (row_at 0 (lit< tt) c.args.i (omega arith)) (ap (has_value _) (sym c.value.ensures) ∙ sym c.eq.ensures ∙ c.if-eq.true)

pub returns-else-eq : goal.returns-else-eq
returns-else-eq c =
    is_counted-two _ _ _ _ _ _ (row_at 0 (lit< tt) c.args.i (omega arith)) (row_at 1 (lit< tt) c.args.i (omega arith))
    (ap (has_value _) (sym c.value.ensures) ∙ sym c.eq.ensures ∙ c.if-eq.false) (c.eq-else-eq.ensures ∙ ap (has_value _) c.value-else-eq.ensures)
