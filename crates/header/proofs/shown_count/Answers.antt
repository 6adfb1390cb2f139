-- `header::shown_count` meets its contract: the position, from the end on, of the first byte that is no space.
use Rattle.std.proofs.Common.{rules}
use Rattle.std.proofs.lemmas.Iterator.Adapters.{YieldsList-from_rev_slice}
use Rattle.std.proofs.lemmas.Iterator.Search.{position_from_yields_List}
use Rattle.header.proofs.Unpacking.{no_space, most, shown-spaces}
use Rattle.header.proofs.shown_count.Goals as goal

pub returns : goal.returns
returns c =
    let found = position_from_yields_List no_space _ _ c.position-spaces.result c.position-spaces.ensures.ran (YieldsList-from_rev_slice (most c.args.header.now c.requires) cc) (λ x b q k. search rules) in
    shown-spaces c.args.header.now c.requires found c.unwrap_or.ensures
