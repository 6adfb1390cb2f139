use Rattle.deck.proofs.Answering.{filled-yes, filled-no}
use Rattle.deck.proofs.step.fill_accepted.Goals as goal

pub returns-then-answer-eq-ACCEPTED : goal.returns-then-answer-eq-ACCEPTED
returns-then-answer-eq-ACCEPTED c = filled-yes c.args.n c.args.work.now c.args.out.now c.if-answer-eq-ACCEPTED.true c.fill.ensures

pub returns-else-answer-eq-ACCEPTED : goal.returns-else-answer-eq-ACCEPTED
returns-else-answer-eq-ACCEPTED c = filled-no c.args.n c.args.work.now c.args.out.now c.if-answer-eq-ACCEPTED.false
