-- `tap::writer::put_form` meets its contract: the form is a byte, or the long form, or there is none.
use native.Mathlib.Omega.{arith}
use mathlib.Core.Path.{ap}
use lib.ListN.{length}
use Rattle.lists.specs.Text.{low_first}
use Rattle.tap.proofs.FormLaws.{bytes_found}
use Rattle.tap.proofs.writer.put_form.Goals as goal

pub put_long-requires : goal.put_long-requires
unfolding low_first
put_long-requires c = let width = ap length (bytes_found c.in-Some-Long.ensures c.in-Some-Long.field-0-is) in omega arith

pub returns-in-Some-Long-clause-value : goal.returns-in-Some-Long-clause-value
unfolding low_first
returns-in-Some-Long-clause-value c = let width = ap length (bytes_found c.in-Some-Long.ensures c.in-Some-Long.field-0-is) in omega arith
