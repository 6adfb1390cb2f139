-- `wear::walk::step_at` meets its contract: refusals 1 and 3, and else the block at the start.
use mathlib.Core.Path.{sym, ◌∙◌}
use Rattle.std.proofs.lemmas.Result.{err_from_is_err_and}
use Rattle.wear.proofs.Steps.{step-wrong_size, step-NoStart, step-within, step-found}
use Rattle.wear.proofs.walk.step_at.Goals as goal

pub returns-then-wrong_size : goal.returns-then-wrong_size
returns-then-wrong_size c = rw c.into.ensures (step-wrong_size c.args.strip.now c.args.at (cc))

pub returns-in_err-start : goal.returns-in_err-start
returns-in_err-start c =
    let p = err_from_is_err_and c.from_residual.result c.from_residual.ensures.1 in
    rw (p.1, p.2)
    (step-NoStart c.args.strip.now c.args.at (cc) c.start_from.result c.start_from.ensures (sym c.ok_or.ensures.value ∙ c.in_err-start.was))

pub try_at-requires : goal.try_at-requires
try_at-requires c =
    (cc, step-within c.args.strip.now c.args.at (cc) c.start_from.result c.start_from.ensures (rw c.in_ok-start.was at c.ok_or.ensures.ok_part))

pub returns : goal.returns
returns c =
    step-found c.args.strip.now c.args.at (cc) c.start_from.result c.start_from.ensures (rw c.in_ok-start.was at c.ok_or.ensures.ok_part)
    c.try_at.ensures
