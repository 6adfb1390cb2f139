-- `tap::writer::put_data` meets its contract. The invariant: the forms of the durations left, put after those that are there, give all data bytes.
use Rattle.std.specs.Slice.Iter.{chunks_rest}
use Rattle.tap.proofs.WriterLaws.{DataPut}
use Rattle.tap.proofs.writer.put_data.Given as goal

abbrev pub invariant-loop-group : goal.invariant-loop-group
invariant-loop-group l = DataPut l.version l.durations l.initial.out 20 l.out (chunks_rest l.group-iterator) l.at
