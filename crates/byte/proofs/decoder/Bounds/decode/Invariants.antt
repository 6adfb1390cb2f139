-- `byte::decoder::Bounds::decode` meets its contract.
use Rattle.byte.proofs.FrameLaws.{Framing}
use Rattle.byte.proofs.decoder.Bounds.decode.Given as goal

abbrev pub invariant-loop-i : goal.invariant-loop-i
invariant-loop-i l = Framing l.self l.frame l.i l.word l.out
