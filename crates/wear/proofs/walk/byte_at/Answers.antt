-- `wear::walk::byte_at` meets its contract: the place is there, and its value is the byte's.
use mathlib.Core.Path.{◌∙◌}
use Rattle.wear.proofs.Steps.{byte-there, byte-read}
use Rattle.wear.proofs.walk.byte_at.Goals as goal

pub unwrap-requires : goal.unwrap-requires
unwrap-requires c = byte-there c.args.strip.now c.args.start c.args.i c.requires.0 c.requires.1 c.place_at.result c.place_at.ensures

pub returns : goal.returns
returns c = c.value.ensures ∙ byte-read c.args.strip.now c.args.start c.args.i c.requires.0 c.requires.1 c.place_at.ensures c.unwrap.ensures
