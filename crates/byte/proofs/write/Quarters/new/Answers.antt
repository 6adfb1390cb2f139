-- `byte::write::Quarters::new` makes the table of the definition.
use Rattle.std.proofs.Common.{refl}
use Rattle.byte.specs.Byte.{bits, coded}
use Rattle.byte.specs.private.Quarters.{quarters_from}
use Rattle.byte.proofs.write.Quarters.new.Goals as goal

pub invariant_of-result : goal.invariant_of-result
unfolding quarters_from bits coded
invariant_of-result c = record { known = refl }
