-- `tap::writer::put_file` meets its contract: refusal 2, and else the header and after it the data.
use Rattle.tap.specs.Tap.{tap_data}
use Rattle.tap.proofs.WriterLaws.{put_file-no_room, put_file-accepted}
use Rattle.tap.proofs.writer.put_file.Goals as goal

pub returns-then-out-count : goal.returns-then-out-count
returns-then-out-count c =
    put_file-no_room c.args.out.now c.args.version (tap_data c.args.version c.args.durations.now) c.requires.count c.if-out-count.true c.into.ensures

pub returns : goal.returns
returns c =
    put_file-accepted c.args.out.now c.args.version (tap_data c.args.version c.args.durations.now) c.requires.count c.if-out-count.false
    c.tap_header-front.ensures c.copy_from_slice.ensures.after c.put_data.ensures
