use Rattle.deck.proofs.Answering.{fill-next, fill_done}
use Rattle.deck.proofs.work.fill.Goals as goal

pub loop-i-preserved : goal.loop-i-preserved
loop-i-preserved c = fill-next c.args.out.now c.args.work.now c.args.n c.loop-i.invariant c.loop-i-test.true

pub returns : goal.returns
returns c = fill_done c.args.out.now c.args.work.now c.args.n c.loop-i.invariant c.loop-i-test.false c.requires.1
