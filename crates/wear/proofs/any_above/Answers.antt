-- `wear::any_above` meets its contract.
use mathlib.Core.Path.{◌∙◌}
use Rattle.std.proofs.Common.{rules, tests}
use Rattle.std.proofs.lemmas.Iterator.{YieldsList-from_slice}
use Rattle.std.proofs.lemmas.Iterator.Search.{any_from_yields_List}
use Rattle.wear.proofs.Adding.{above-any}
use Rattle.wear.proofs.any_above.Goals as goal

pub returns : goal.returns
returns c =
    any_from_yields_List _ _ _ _ c.any.ensures.ran (YieldsList-from_slice c.args.counts.now cc) (λ x b q k. search (rules, tests)) ∙ above-any c.args.counts.now
