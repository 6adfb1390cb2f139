-- `byte::decoder::Bounds::is_marker` meets its contract, whatever the tests give.
use Rattle.lists.proofs.BoolLaws.{le-cmp, lt-cmp}
use Rattle.byte.proofs.FrameLaws.{marker-in}
use Rattle.byte.proofs.decoder.Bounds.is_marker.Goals as goal

pub returns : goal.returns
returns c =
    rw (
      c.le.ensures,
      c.lt.ensures,
      c.le-2.ensures,
      c.lt-2.ensures,
      le-cmp c.args.self.long.0 c.distance-long.result.0,
      lt-cmp c.distance-long.result.0 c.args.self.noise.0,
      le-cmp c.args.self.medium.0 c.distance-medium.result.0,
      lt-cmp c.distance-medium.result.0 c.args.self.long.0,
      c.distance-long.ensures,
      c.distance-medium.ensures,
    )
    (marker-in c.args.self c.args.first.0 c.args.second.0)
