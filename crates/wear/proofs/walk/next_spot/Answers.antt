-- `wear::walk::next_spot` meets its contract.
use Rattle.wear.proofs.Steps.{next-within, next-accepted}
use Rattle.wear.proofs.walk.next_spot.Goals as goal

pub next_trial-requires : goal.next_trial-requires
next_trial-requires c = next-within c.args.strip.now c.args.trial c.args.start (rw c.in-Ok.is at c.requires.0)

pub returns-in-Ok : goal.returns-in-Ok
returns-in-Ok c = next-accepted c.args.strip.now c.args.trial c.args.start (rw c.in-Ok.is at c.requires.0) c.next_trial.ensures
