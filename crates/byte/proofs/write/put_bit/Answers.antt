-- `byte::write::put_bit` meets its contract: the pair that it puts is the code of the bit.
use Rattle.std.proofs.Common.{ap, ◌∙◌}
use lib.Seq.{sets}
use Rattle.pulse.specs.Pulse.{pulses}
use Rattle.byte.proofs.Stores.{coded-zero, coded-one}
use Rattle.byte.proofs.write.put_bit.Goals as goal

pub returns-then-bit-eq0 : goal.returns-then-bit-eq0
returns-then-bit-eq0 c =
    c.put_pair.ensures ∙ ap (λ cs. sets c.args.out.now c.args.at (pulses cs)) (coded-zero c.args.bit c.if-bit-eq0.true)

pub returns-else-bit-eq0 : goal.returns-else-bit-eq0
returns-else-bit-eq0 c =
    c.put_pair-else-bit-eq0.ensures ∙ ap (λ cs. sets c.args.out.now c.args.at (pulses cs)) (coded-one c.args.bit c.if-bit-eq0.false)
