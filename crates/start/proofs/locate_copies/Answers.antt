-- `start::locate_copies` meets its contract: refusal 4, and else the places, which fit.
use Prim.Native.Nat.{◌≤◌}
use mathlib.Core.Path.{sym, ap, ◌∙◌}
use borrow.Author.Tests.{ltb-true, ltb-false}
use Rattle.refusal.specs.Outcome.{refused_with}
use Rattle.start.specs.Copies.{end_of}
use Rattle.start.proofs.CopiesLaws.{locate_copies-cut_short, locate_copies-within}
use Rattle.start.proofs.locate_copies.Goals as goal
use Rattle.start.proofs.locate_copies.Goals.{Else-is_cut_short}

-- copy two ends on the strip, so that the sums below fit
within : (c : Else-is_cut_short) → end_of c.args.start c.args.n ≤ c.args.count
within c =
    ltb-false c.args.count (end_of c.args.start c.args.n) (sym c.is_cut_short.ensures ∙ c.if-is_cut_short.false)

pub returns-then-is_cut_short : goal.returns-then-is_cut_short
returns-then-is_cut_short c =
    ap refused_with c.at.ensures
    ∙ sym (locate_copies-cut_short c.args.count c.args.start c.args.n
    (ltb-true c.args.count (end_of c.args.start c.args.n) (sym c.is_cut_short.ensures ∙ c.if-is_cut_short.true)))

pub returns : goal.returns
returns c = sym (locate_copies-within c.args.count c.args.start c.args.n (within c))
