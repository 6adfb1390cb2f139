-- `tap::writer::put_each` meets its contract. The invariant: the forms of the durations left, put after those that are there, give all data bytes.
use Rattle.tap.proofs.FormLaws.{tap_data-next, tap_data-over}
use Rattle.tap.proofs.WriterLaws.{DataPut-room, DataPut-next, DataPut-end, DataPut-done}
use Rattle.tap.proofs.writer.put_each.Goals as goal

pub put_form-at-requires : goal.put_form-at-requires
put_form-at-requires c =
    let next = tap_data-next c.args.version c.args.durations.now c.loop-duration.duration-index c.loop-duration-test.true in
    DataPut-room c.args.version c.args.durations.now c.args.out.now c.args.start c.loop-duration.invariant _ _ next c.requires

pub loop-duration-preserved : goal.loop-duration-preserved
loop-duration-preserved c =
    let next = tap_data-next c.args.version c.args.durations.now c.loop-duration.duration-index c.loop-duration-test.true in
    DataPut-next c.args.version c.args.durations.now c.args.out.now c.args.start c.loop-duration.invariant _ _ next c.put_form-at.ensures.put c.put_form-at.ensures.value

pub returns : goal.returns
returns c =
    let over = tap_data-over c.args.version c.args.durations.now c.loop-duration.duration-index c.loop-duration-test.false in
    record {
      value = DataPut-end c.args.version c.args.durations.now c.args.out.now c.args.start c.loop-duration.invariant over;
      put = DataPut-done c.args.version c.args.durations.now c.args.out.now c.args.start c.loop-duration.invariant over;
    }
