-- `tap::forms::width_of` meets its contract: the bytes of the form that there is, or none.
use mathlib.Core.Path.{ap, ◌∙◌}
use lib.ListN.{length}
use Rattle.std.proofs.Common.{rules}
use Rattle.tap.proofs.FormLaws.{width-answered}
use Rattle.tap.proofs.forms.width_of.Goals as goal

pub returns : goal.returns
returns c =
    width-answered c.form_of.result c.map_or.ensures (λ form w. search rules) ∙ ap length c.form_of.ensures
