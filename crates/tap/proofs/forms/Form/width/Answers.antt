-- `tap::forms::Form::width` meets its contract: it is the length of the form.
use mathlib.Core.Path.{refl}
use Rattle.lists.specs.Text.{low_first}
use Rattle.tap.proofs.forms.Form.width.Goals as goal

pub returns-in-Long : goal.returns-in-Long
unfolding low_first
returns-in-Long c = rw c.in-Long.is refl
