-- `wear::Totals::is_full` meets its contract: the strips, the seven counts and the eleven causes.
use Rattle.wear.proofs.Adding.{full-any}
use Rattle.wear.proofs.Totals.is_full.Goals as goal

pub returns : goal.returns
returns c = full-any c.args.self.now c.any_above.ensures (rw (← c.from-causes.ensures) c.any_above-2.ensures)
