-- `block::flags::flag` meets its contract: past the row's end no flag is; a shift brings the flag to the lowest bit.
use mathlib.Core.Path.{refl, sym}
use borrow.Author.Tests.{ltb-false}
use Rattle.block.specs.private.Flags.{flag_at}
use Rattle.block.proofs.FlagLaws.{flag_at-past}
use Rattle.block.proofs.flags.flag.Goals as goal

pub returns-in_default : goal.returns-in_default
returns-in_default c = sym (flag_at-past c.args.row.now c.args.i (ltb-false _ _ (sym c.in_default.ensures.lookup.0)))

pub returns : goal.returns
unfolding flag_at
returns c = rw (c.in-Some.ensures.lookup.3.1 0) refl
