-- `block::copies_at` meets its contract.
use mathlib.Core.Path.{sym, ◌∙◌}
use Rattle.block.specs.Looking.{copies_at}
use Rattle.block.proofs.copies_at.Goals as goal

pub returns-then-wrong_size : goal.returns-then-wrong_size
unfolding copies_at
returns-then-wrong_size c = rw (c.into.ensures, sym c.wrong_size.ensures ∙ c.if-wrong_size.true)

pub returns : goal.returns
unfolding copies_at
returns c = rw (c.locate_copies.ensures, sym c.wrong_size.ensures ∙ c.if-wrong_size.false)
