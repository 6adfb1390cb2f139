-- `wear::walk::try_at` meets its contract.
use Rattle.std.proofs.Common.{rules}
use Rattle.wear.specs.Walk.{block_of}
use Rattle.wear.proofs.Steps.{tried-reads, tried-block, in-block}
use Rattle.wear.proofs.walk.try_at.Goals as goal

pub next_spot-requires : goal.next_spot-requires
next_spot-requires c =
    (tried-reads c.args.strip.now c.args.trial c.args.start c.requires.0 c.look_at-look.result c.look_at-look.ensures c.size-n.ensures, c.requires.1)

pub returns : goal.returns
returns c =
    tried-block c.args.strip.now c.args.trial c.args.start c.requires.0 c.look_at-look.result c.look_at-look.ensures c.size-n.ensures
    c.map_err.result (in-block (block_of c.args.trial) c.look_at-look.result.answer c.map_err.result c.map_err.ensures.cases (λ r s q. search rules)) c.next_spot.ensures
