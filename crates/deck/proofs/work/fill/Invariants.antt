use Rattle.deck.proofs.Answering.{PayloadPut}
use Rattle.deck.proofs.work.fill.Given as goal

abbrev pub invariant-loop-i : goal.invariant-loop-i
invariant-loop-i l = PayloadPut l.initial.out l.work l.n l.out l.i
