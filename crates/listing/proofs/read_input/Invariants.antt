-- `listing::read_input` meets its contract. The loop's invariant: what is there so far fits the buffer.
use Rattle.std.proofs.Common.{◌≤◌, length}
use Rattle.listing.proofs.read_input.Given as goal

abbrev pub invariant-loop : goal.invariant-loop
invariant-loop g l = l.n ≤ length l.buffer
