use Rattle.deck.proofs.Coding.{pulse-first, pulse-second}
use Rattle.deck.proofs.Frame.take_pulse.Goals as goal

pub returns-then-heard-eq0 : goal.returns-then-heard-eq0
returns-then-heard-eq0 c = pulse-first _ _ _ c.code-last.ensures c.if-heard-eq0.true

pub returns : goal.returns
returns c = pulse-second c.args.heard c.args.self _ c.code-last.ensures c.if-heard-eq0.false c.with_bit.ensures c.is_sound.ensures c.earlier.ensures
