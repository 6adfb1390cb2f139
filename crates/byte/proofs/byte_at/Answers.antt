-- `byte::byte_at` meets its contract: past the end, with fewer than twenty pulses left, with a good byte, with a bad one.
use Rattle.std.proofs.Common.{sym, ap, ◌∙◌, arith}
use Rattle.byte.specs.declared.ByteRead.TheVariants.{Bad}
use Rattle.byte.proofs.CauseLaws.{past-there, cut-there, value_there, none-there}
use Rattle.byte.proofs.byte_at.Goals as goal

pub returns-then-strip-at : goal.returns-then-strip-at
returns-then-strip-at c = past-there c.args.t c.args.strip.now c.args.at c.if-strip-at.true

pub returns-then-strip-at-lt-BYTE_PULSES : goal.returns-then-strip-at-lt-BYTE_PULSES
returns-then-strip-at-lt-BYTE_PULSES c =
    ap Bad c.first_wrong.ensures ∙ cut-there c.args.t c.args.strip.now c.args.at (omega arith) (omega arith)

pub returns-in-Some : goal.returns-in-Some
returns-in-Some c =
    value_there c.args.t c.args.strip.now c.args.at _ (omega arith) (sym c.in-Some.is ∙ c.lone_frame.ensures)

pub returns-in-None : goal.returns-in-None
returns-in-None c =
    ap Bad c.first_wrong-in-None.ensures
    ∙ none-there c.args.t c.args.strip.now c.args.at (omega arith) (sym c.in-None.is ∙ c.lone_frame.ensures)
