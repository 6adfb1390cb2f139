-- `tap::writer::put_data` meets its contract. The invariant: the forms of the durations left, put after those that are there, give all data bytes.
use Rattle.tap.proofs.FormLaws.{tap_data-group, tap_data-none}
use Rattle.tap.proofs.WriterLaws.{DataPut-room, DataPut-next, DataPut-done}
use Rattle.tap.proofs.writer.put_data.Goals as goal

pub put_group-at-requires : goal.put_group-at-requires
put_group-at-requires c =
    let group = tap_data-group c.args.version _ _ _ c.in-Some.ensures.steps.1.0 in
    DataPut-room c.args.version c.args.durations.now c.args.out.now 20 c.loop-group.invariant _ _ group c.requires

pub loop-group-preserved : goal.loop-group-preserved
loop-group-preserved c =
    let group = tap_data-group c.args.version _ _ _ c.in-Some.ensures.steps.1.0 in
    DataPut-next c.args.version c.args.durations.now c.args.out.now 20 c.loop-group.invariant _ _ group c.put_group-at.ensures.put c.put_group-at.ensures.value

pub returns : goal.returns
returns c =
    DataPut-done c.args.version c.args.durations.now c.args.out.now 20 c.loop-group.invariant (tap_data-none c.args.version _ c.in-None.ensures.steps.1.0)
