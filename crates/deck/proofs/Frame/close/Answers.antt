use Rattle.deck.proofs.Coding.{closed-by}
use Rattle.deck.proofs.Frame.close.Goals as goal

pub returns-then-self-odd : goal.returns-then-self-odd
returns-then-self-odd c = closed-by _ (rw c.from.ensures at c.if-self-odd.true)

pub returns : goal.returns
returns c = closed-by _ (rw c.from.ensures at c.if-self-odd.false)
