-- `byte::parity_bit` meets its contract: code and definition go by the same test.
use Rattle.std.proofs.Common.{sym, ◌∙◌}
use Rattle.byte.specs.Byte.{parity_bit}
use Rattle.byte.proofs.parity_bit.Goals as goal

pub returns-then-is_odd : goal.returns-then-is_odd
unfolding parity_bit
returns-then-is_odd c = rw (sym c.is_odd.ensures ∙ c.if-is_odd.true)

pub returns-else-is_odd : goal.returns-else-is_odd
unfolding parity_bit
returns-else-is_odd c = rw (sym c.is_odd.ensures ∙ c.if-is_odd.false)
