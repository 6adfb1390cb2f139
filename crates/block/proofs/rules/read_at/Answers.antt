-- `block::rules::read_at` meets its contract: refusal 4, and else what the copies come to.
use Rattle.std.proofs.lemmas.Result.{err_from_is_err_and}
use Rattle.block.proofs.Answers.{read_at-cut_short, copies-there, read_at-copies}
use Rattle.block.proofs.rules.read_at.Goals as goal

pub new-requires : goal.new-requires
new-requires c = copies-there c.args.t c.args.strip.now c.args.start c.args.n c.args.out.now c.locate_copies.ensures c.in_ok-copies.was

pub returns-in_err-copies : goal.returns-in_err-copies
returns-in_err-copies c =
    let p = err_from_is_err_and c.from_residual.result c.from_residual.ensures.1 in
    rw (p.1, p.2) (read_at-cut_short c.args.t c.args.strip.now c.args.start c.args.n c.args.out.now c.locate_copies.ensures c.in_err-copies.was)

pub returns : goal.returns
returns c =
    let new = c.new.ensures in
    read_at-copies c.args.t c.args.strip.now c.args.start c.args.n c.args.out.now c.locate_copies.ensures c.in_ok-copies.was
    c.read_payload.result (rw (new.0, new.1, new.2, new.4) at c.read_payload.ensures)
