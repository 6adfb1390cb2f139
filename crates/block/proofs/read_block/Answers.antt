-- `block::read_block` meets its contract: refusals 1, 2 and 3, and else what is read at the start.
use Rattle.std.proofs.Common.{◌≡◌, None, arith, sym, ap, ◌∙◌}
use Rattle.refusal.specs.declared.Reason.TheVariants.{NoStart}
use Rattle.refusal.specs.Refusal.{refusal_at}
use Rattle.std.proofs.lemmas.Result.{err_from_is_err_and}
use Rattle.pulse.specs.Pulse.{fixed, classes}
use Rattle.block.proofs.Answers.{read_block-wrong_size, read_block-no_room, read_block-NoStart, read_block-found}
use Rattle.block.proofs.read_block.Goals as goal

pub returns-then-wrong_size : goal.returns-then-wrong_size
returns-then-wrong_size c =
    read_block-wrong_size (classes fixed c.args.strip.now) c.args.from c.args.n c.args.out.now (sym c.wrong_size.ensures ∙ c.if-wrong_size.true) c.into.ensures

pub returns-then-out-n : goal.returns-then-out-n
returns-then-out-n c =
    read_block-no_room (classes fixed c.args.strip.now) c.args.from c.args.n c.args.out.now (sym c.wrong_size.ensures ∙ c.if-wrong_size.false) c.if-out-n.true c.into-then-out-n.ensures

pub returns-in_err-start : goal.returns-in_err-start
returns-in_err-start c =
    let p = err_from_is_err_and c.from_residual.result c.from_residual.ensures.1 in
    let none : c.start_from.result ≡ None = c.in_err-start.ensures.ok_part in
    let why : c.in_err-start.field-0.0 ≡ NoStart = let told = rw none at c.in_err-start.ensures.value in cc in
    rw p.1
    (read_block-NoStart (classes fixed c.args.strip.now) c.args.from c.args.n c.args.out.now (sym c.wrong_size.ensures ∙ c.if-wrong_size.false) c.if-out-n.false
    c.start_from.ensures none (p.2 ∙ ap (λ reason. refusal_at reason 0) why))

pub returns : goal.returns
returns c =
    read_block-found (classes fixed c.args.strip.now) c.args.from c.args.n c.args.out.now (sym c.wrong_size.ensures ∙ c.if-wrong_size.false) c.if-out-n.false
    c.start_from.ensures c.read_at.result (grind arith) (rw c.fixed.ensures at c.read_at.ensures)
