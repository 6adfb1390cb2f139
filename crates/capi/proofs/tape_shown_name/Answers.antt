-- `capi::tape_shown_name` meets its contract: it refuses as `header::unpack_header` does, and else the part is as long as `header::shown_name`.
use mathlib.Core.Path.{◌≡◌, sym, ap, ◌∙◌}
use Rattle.refusal.specs.Outcome.{outcome_of}
use borrow.Author.Rules.{rules}
use Rattle.header.specs.Header.{shown_span}
use Rattle.header.proofs.HeaderLaws.{length-shown}
use Rattle.capi.specs.Flat.{no_refusal}
use Rattle.capi.proofs.tape_shown_name.Goals as goal

pub returns-in-Ok : goal.returns-in-Ok
unfolding shown_span
returns-in-Ok c =
    let unpacked = sym c.unpack_header.ensures ∙ ap outcome_of c.in-Ok.is in
    let accepts : c.default.result ≡ no_refusal = search rules in
    rw (c.shown_name.ensures.bytes, length-shown c.args.header.now unpacked, unpacked, accepts)

pub returns-in-Err : goal.returns-in-Err
unfolding shown_span
returns-in-Err c =
    rw (← c.unpack_header.ensures, c.in-Err.is, c.from.ensures) (search rules)
