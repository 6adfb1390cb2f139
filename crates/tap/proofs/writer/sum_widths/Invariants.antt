-- `tap::writer::sum_widths` meets its contract. The invariant: with the forms of the durations before, those of the rest give all data bytes, and whether one is missing.
use Rattle.tap.proofs.WriterLaws.{MeasuredForms}
use Rattle.tap.proofs.writer.sum_widths.Given as goal

abbrev pub invariant-loop-duration : goal.invariant-loop-duration
invariant-loop-duration l = MeasuredForms l.version l.durations l.duration-index l.bytes l.missing
