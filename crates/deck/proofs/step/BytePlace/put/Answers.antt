use native.Mathlib.Omega.{arith}
use Rattle.deck.proofs.Stepping.{placed-next, placed-last}
use Rattle.deck.proofs.step.BytePlace.put.Goals as goal

pub returns-then-self : goal.returns-then-self
returns-then-self c = λ k out. placed-next c.args.self.n k c.args.self.start c.args.self.place c.args.read c.args.work.now out (omega arith) c.put.ensures c.one_at.ensures

pub returns : goal.returns
returns c = λ k out. placed-last c.args.self.n k c.args.self.start c.args.self.place c.args.read c.args.work.now out (omega arith) (λ z. omega arith) c.put.ensures
