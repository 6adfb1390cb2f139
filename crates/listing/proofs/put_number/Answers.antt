-- `listing::put_number` meets its contract: itoa's text is std's, and that has the same digits.
use Rattle.std.proofs.Common.{append_assoc}
use Rattle.listing.proofs.LineLaws.{decimal-same}
use Rattle.listing.proofs.put_number.Goals as goal

pub returns-clause-text : goal.returns-clause-text
returns-clause-text c =
    rw (c.push.ensures.ascii c.requires.ascii, c.push_str.ensures.bytes, c.format.ensures.text, decimal-same c.args.n c.ranges.n.fits, append_assoc)
