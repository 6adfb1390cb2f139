-- `tap::reader::fill_durations` meets its contract: every byte in version 0, and else the forms of version 1. The invariant: the durations left, put
-- after those that are there, give them all.
use native.Mathlib.Nat.{zero-add}
use native.Mathlib.Omega.{arith}
use mathlib.Core.Path.{sym, ap, ◌∙◌}
use lib.ListN.{length-map}
use lib.Seq.{sets}
use Rattle.refusal.specs.Outcome.{puts}
use Rattle.std.proofs.Common.{rules}
use Rattle.tap.specs.private.Forms.{lone_cycles}
use Rattle.tap.proofs.DataLaws.{durations_in-version0, durations_in-version1}
use Rattle.tap.proofs.ReaderLaws.{fill-begun, fill_done}
use Rattle.tap.proofs.reader.fill_durations.Goals as goal

pub put_mapped-requires-clause-room : goal.put_mapped-requires-clause-room
put_mapped-requires-clause-room c =
    rw zero-add (rw (c.if-version-eq0.true, durations_in-version0 0 c.args.bytes.now, length-map) at c.requires.room)

pub returns-then-version-eq0 : goal.returns-then-version-eq0
returns-then-version-eq0 c =
    (c.put_mapped.ensures lone_cycles (λ b d q. search rules)) ∙ rw (c.if-version-eq0.true, durations_in-version0 0 c.args.bytes.now)

pub loop-at-init : goal.loop-at-init
loop-at-init c =
    let version1 = durations_in-version1 c.args.version c.if-version-eq0.false 0 c.args.bytes.now in
    fill-begun c.args.bytes.now (record { within = omega arith; sound = rw version1 at c.requires.sound; room = rw zero-add (rw version1 at c.requires.room) })

pub returns : goal.returns
returns c =
    fill_done c.args.bytes.now c.loop-at.invariant c.loop-at-test.false
    ∙ ap (λ o. sets c.args.out.now 0 (puts o)) (sym (durations_in-version1 c.args.version c.if-version-eq0.false 0 c.args.bytes.now))
