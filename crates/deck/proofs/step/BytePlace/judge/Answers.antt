use native.Mathlib.Omega.{arith}
use Rattle.deck.proofs.Stepping.{judged-countdown, judged-next, judged-last}
use Rattle.deck.proofs.step.BytePlace.judge.Goals as goal

pub returns-then-place-lt-COUNTDOWN : goal.returns-then-place-lt-COUNTDOWN
returns-then-place-lt-COUNTDOWN c = λ k. judged-countdown c.args.self.n k c.args.self.start c.args.self.place c.args.two c.args.checks c.args.work.now c.args.out.now c.get-one.ensures (omega arith) c.check_countdown.ensures c.two_at.ensures

pub returns-then-place-n : goal.returns-then-place-n
returns-then-place-n c = λ k. judged-next c.args.self.n k c.args.self.start c.args.self.place c.args.two c.args.checks c.args.work.now c.args.out.now c.get-one.ensures c.of-read.ensures (omega arith) c.check_value-checks.ensures c.mend.ensures (omega arith) c.two_at-then-place-n.ensures

pub returns : goal.returns
returns c = λ k. judged-last c.args.self.n k c.args.self.start c.args.self.place c.args.two c.args.checks c.args.work.now c.args.out.now c.get-one.ensures c.of-read.ensures (omega arith) c.check_value-checks.ensures c.mend.ensures (omega arith) (omega arith) c.answer-answer.ensures c.value.ensures c.fill_accepted.ensures
