-- `listing::put_printed` meets its contract. The invariant: the characters of the bytes so far are appended.
use Rattle.std.proofs.Common.{◌≡◌, ◌++◌, map, take}
use Rattle.listing.specs.Listing.{printed}
use Rattle.listing.proofs.put_printed.Given as goal

abbrev pub invariant-loop-b : goal.invariant-loop-b
invariant-loop-b l = l.text.bytes ≡ l.initial.text.bytes ++ map printed (take l.b-index l.name)
