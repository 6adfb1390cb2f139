-- `block::measure_block` meets its contract: refusals 1 and 14, and else the number of pulses, which fits.
use native.Mathlib.Omega.{arith}
use mathlib.Core.Path.{sym, ◌∙◌}
use Rattle.block.proofs.Writing.{measure_block-wrong_size, measure_block-wrong_leader, measure_block-count}
use Rattle.block.proofs.measure_block.Goals as goal

pub returns-then-wrong_size : goal.returns-then-wrong_size
returns-then-wrong_size c =
    measure_block-wrong_size c.args.leader c.args.n (sym c.wrong_size.ensures ∙ c.if-wrong_size.true) c.into.ensures

pub returns-then-wrong_leader : goal.returns-then-wrong_leader
returns-then-wrong_leader c =
    measure_block-wrong_leader c.args.leader c.args.n (sym c.wrong_size.ensures ∙ c.if-wrong_size.false)
    (sym c.wrong_leader.ensures ∙ c.if-wrong_leader.true) c.into-then-wrong_leader.ensures

pub returns : goal.returns
returns c =
    measure_block-count c.args.leader c.args.n (sym c.wrong_size.ensures ∙ c.if-wrong_size.false) (sym c.wrong_leader.ensures ∙ c.if-wrong_leader.false)
    (omega arith)
