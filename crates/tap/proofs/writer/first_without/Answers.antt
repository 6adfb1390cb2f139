-- `tap::writer::first_without` meets its contract: the position of the first duration whose form has no byte.
use Rattle.std.proofs.Common.{rules, ◌∙◌}
use Rattle.std.proofs.lemmas.Iterator.{YieldsList-from_slice}
use Rattle.std.proofs.lemmas.Iterator.Adapters.{position_from-zero}
use Rattle.std.proofs.lemmas.Iterator.Search.{position_from_yields_List}
use Rattle.tap.specs.Tap.{has_no_form}
use Rattle.tap.proofs.WriterLaws.{first_without-found}
use Rattle.tap.proofs.writer.first_without.Goals as goal

pub returns : goal.returns
returns c =
    let found = position_from_yields_List (has_no_form c.args.version) _ _ c.position.result c.position.ensures.ran (YieldsList-from_slice c.args.durations.now cc) (λ x b q k. search rules) in
    first_without-found c.args.version c.args.durations.now (found ∙ position_from-zero (has_no_form c.args.version) c.args.durations.now)
