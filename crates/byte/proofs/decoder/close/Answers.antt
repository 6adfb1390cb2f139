-- `byte::decoder::close` meets its contract: the test picks the case of `closed`.
use mathlib.Core.Path.{◌∙◌}
use Rattle.lists.proofs.BoolLaws.{then_some-cond}
use Rattle.byte.specs.private.Frame.{closed}
use Rattle.byte.proofs.decoder.close.Goals as goal

pub returns : goal.returns
unfolding closed
returns c = rw (← c.is_odd-odd.ensures) (c.then_some.ensures ∙ then_some-cond _ _)
