use Rattle.deck.proofs.Coding.{get-good, get-bad}
use Rattle.deck.proofs.work.get.Goals as goal

pub returns-then-mark-eq0 : goal.returns-then-mark-eq0
returns-then-mark-eq0 c = get-good c.args.work.now c.args.place c.if-mark-eq0.true

pub returns : goal.returns
returns c = get-bad c.args.work.now c.args.place c.if-mark-eq0.false
