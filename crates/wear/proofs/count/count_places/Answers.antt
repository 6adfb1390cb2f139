-- `wear::count::count_places` meets its contract. The invariant: what was counted, with the places of the walk that is left, is all.
use Rattle.std.proofs.Common.{rules}
use mathlib.Core.Path.{sym}
use lib.ListN.{length-map}
use Rattle.pulse.specs.Pulse.{class_of, fixed}
use Rattle.wear.specs.Walk.{tried_block}
use Rattle.wear.proofs.Walking.{walking-begun, walking-next, walking-fits, walking_on, walking-done}
use Rattle.wear.proofs.count.count_places.Goals as goal

pub loop-b-init : goal.loop-b-init
loop-b-init c = walking-begun _ (search rules)

pub returns : goal.returns
returns c = walking-done c.loop-b.invariant c.in_default.field-0 c.in_default.ensures

pub add_tally-sum-requires : goal.add_tally-sum-requires
add_tally-sum-requires c =
    walking-fits c.loop-b.invariant (tried_block c.in-Ok.b) (sym c.in-Ok.ensures) (rw (length-map c.args.strip.now (class_of fixed)) c.requires)

pub loop-b-smaller : goal.loop-b-smaller
loop-b-smaller c =
    rw (length-map c.args.strip.now (class_of fixed)) at (walking_on c.loop-b.invariant (tried_block c.in-Ok.b) (sym c.in-Ok.ensures))

pub loop-b-preserved : goal.loop-b-preserved
loop-b-preserved c = walking-next c.loop-b.invariant (tried_block c.in-Ok.b) (sym c.in-Ok.ensures) c.add_tally-sum.ensures
