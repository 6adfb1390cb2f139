use native.Mathlib.Omega.{arith}
use Rattle.deck.proofs.Answering.{end-away, end-ends}
use Rattle.deck.proofs.Deck.end.Goals as goal

pub returns-in-Some : goal.returns-in-Some
returns-in-Some c = end-away c.args.self c.args.work.now c.args.out.now (omega arith) c.turned_away.ensures c.in-Some.is

pub returns : goal.returns
returns c = end-ends c.args.self c.args.work.now c.args.out.now c.turned_away.ensures c.in_default.is c.finish.ensures
