-- `block::copies::BothCopies::read_payload` meets its contract: each answer is the outcome's, by what the parts of the reader found.
use Rattle.std.proofs.Common.{refl}
use Rattle.std.proofs.lemmas.Result.{err_from_is_err_and}
use Rattle.block.proofs.Answers.{read_copies-wrong_countdown, read_copies-unread, check-passed, read_copies-accepted}
use Rattle.block.proofs.copies.BothCopies.read_payload.Goals as goal

pub returns-in_err-check_countdown : goal.returns-in_err-check_countdown
returns-in_err-check_countdown c =
    let p = err_from_is_err_and c.from_residual.result c.from_residual.ensures.1 in
    rw (p.1, p.2)
    (read_copies-wrong_countdown c.args.self.now.t c.args.self.now.strip.now c.args.self.now.one c.args.self.now.n c.args.out.now c.args.self.now.within.0 c.check_countdown.ensures c.in_err-check_countdown.was)

pub returns-in_err-repaired : goal.returns-in_err-repaired
returns-in_err-repaired c =
    let p = err_from_is_err_and c.from_residual-in_err-repaired.result c.from_residual-in_err-repaired.ensures.1 in
    rw (p.1, p.2)
    (read_copies-unread c.args.self.now.t c.args.self.now.strip.now c.args.self.now.one c.args.self.now.n c.args.out.now c.args.self.now.within.0 c.check_countdown.ensures c.in_ok-check_countdown.was
    c.check_values.ensures c.in_err-repaired.was)

pub fill_values-requires : goal.fill_values-requires
fill_values-requires c =
    record { room = c.requires.1; none_lost = check-passed c.check_values.ensures c.in_ok-repaired.was }

pub returns : goal.returns
returns c =
    rw c.extent.ensures
    (read_copies-accepted c.args.self.now.t c.args.self.now.strip.now c.args.self.now.one c.args.self.now.n c.args.out.now c.args.self.now.within.0 c.check_countdown.ensures c.in_ok-check_countdown.was
    c.check_values.ensures refl c.requires.1 c.in_ok-repaired.was c.fill_values.ensures)
