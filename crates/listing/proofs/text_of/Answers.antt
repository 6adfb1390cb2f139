-- `listing::text_of` meets its contract: the heading, and after it the line of the answer.
use Rattle.std.proofs.Common.{arith}
use Rattle.lists.specs.Text.{ascii}
use Rattle.header.proofs.HeaderLaws.{shown_name-width}
use Rattle.listing.proofs.text_of.Goals as goal

pub put_fields-requires : goal.put_fields-requires
put_fields-requires c =
    let w = shown_name-width c.args.header.now in
    rw (c.shown_name.ensures.bytes, c.push_str.ensures.bytes, c.new-text.ensures) (omega (arith, w))

pub returns-in-Err : goal.returns-in-Err
unfolding ascii
returns-in-Err c = rw (c.put_refusal.ensures, c.push_str.ensures.bytes, c.new-text.ensures, c.in-Err.is)

pub returns-in-Ok : goal.returns-in-Ok
unfolding ascii
returns-in-Ok c = rw (c.put_fields.ensures, c.push_str.ensures.bytes, c.new-text.ensures, c.in-Ok.is, c.shown_name.ensures.bytes)
