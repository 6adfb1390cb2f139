-- `block::copies::BothCopies::count_byte` meets its contract: a byte without a value is counted by its cause.
use Rattle.std.proofs.Common.{◌∙◌}
use Rattle.block.proofs.CauseCounts.{cause-small, bad-counted, bad-told}
use Rattle.block.proofs.copies.BothCopies.count_byte.Goals as goal

pub bounds-bad-from : goal.bounds-bad-from
bounds-bad-from c = cause-small _ (c.from.ensures ∙ c.cause-cause.ensures)

pub bounds-bad-from-in_default : goal.bounds-bad-from-in_default
bounds-bad-from-in_default c = cause-small _ (c.from.ensures ∙ c.cause-cause.ensures)

pub returns-in_default-clause-byte : goal.returns-in_default-clause-byte
returns-in_default-clause-byte c = bad-told _ _ c.args.bad.now c.requires.read c.in_default.is c.cause-cause.ensures

pub returns-in_default-clause-bad_after : goal.returns-in_default-clause-bad_after
returns-in_default-clause-bad_after c = bad-counted _ _ c.args.bad.now c.requires.read c.in_default.is (c.from.ensures ∙ c.cause-cause.ensures)
