use Rattle.deck.proofs.Coding.{sound-marker, sound-bit}
use Rattle.deck.proofs.decode.is_sound.Goals as goal

pub returns-then-i-eq0 : goal.returns-then-i-eq0
returns-then-i-eq0 c = sound-marker _ c.args.first c.args.last c.if-i-eq0.true

pub returns : goal.returns
returns c = sound-bit _ c.args.first c.args.last c.if-i-eq0.false
