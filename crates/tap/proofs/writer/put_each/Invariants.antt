-- `tap::writer::put_each` meets its contract. The invariant: the forms of the durations left, put after those that are there, give all data bytes.
use lib.ListN.{drop}
use Rattle.tap.proofs.WriterLaws.{DataPut}
use Rattle.tap.proofs.writer.put_each.Given as goal

abbrev pub invariant-loop-duration : goal.invariant-loop-duration
invariant-loop-duration l = DataPut l.version l.durations l.initial.out l.start l.out (drop l.duration-index l.durations) l.at
