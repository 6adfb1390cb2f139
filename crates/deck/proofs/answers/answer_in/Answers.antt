use native.Mathlib.Omega.{arith}
use Rattle.deck.proofs.Answering.{outcome-accepted, outcome-start, outcome-cut, outcome-countdown, outcome-lost, outcome-sum}
use Rattle.deck.proofs.answers.answer_in.Goals as goal

pub returns-in-0 : goal.returns-in-0
returns-in-0 c = outcome-accepted c.args.n c.args.start c.args.checks c.args.answer c.in-0.is

pub returns-in-3 : goal.returns-in-3
returns-in-3 c = outcome-start c.args.n c.args.start c.args.checks c.args.answer c.in-3.is c.into.ensures

pub returns-in-4 : goal.returns-in-4
returns-in-4 c = outcome-cut c.args.n c.args.start c.args.checks c.args.answer c.in-4.is c.at.ensures

pub returns-in-5 : goal.returns-in-5
returns-in-5 c = outcome-countdown c.args.n c.args.start c.args.checks c.args.answer c.in-5.is (rw c.from.ensures at c.at-in-5.ensures)

pub returns-in-6 : goal.returns-in-6
returns-in-6 c = outcome-lost c.args.n c.args.start c.args.checks c.args.answer c.in-6.is c.at-in-6.ensures

pub returns-in_default : goal.returns-in_default
returns-in_default c = outcome-sum c.args.n c.args.start c.args.checks c.args.answer (λ z. omega arith) (λ z. omega arith) (λ z. omega arith) (λ z. omega arith) (λ z. omega arith) c.at-in_default.ensures
