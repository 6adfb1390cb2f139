-- `byte::read_frame` meets its contract: the classes by distances are those by the thresholds.
use Rattle.std.proofs.Common.{map, ap, ◌∙◌, arith}
use Rattle.byte.specs.declared.decoder.Bounds.{Bounds}
use Rattle.byte.specs.Byte.{read_frame}
use Rattle.byte.specs.private.Frame.{class_in}
use Rattle.byte.proofs.FrameLaws.{classes-bounds}
use Rattle.byte.proofs.read_frame.Goals as goal

pub returns : goal.returns
returns c =
    c.decode.ensures
    ∙ ap read_frame
    (ap (λ (b : Bounds). map (class_in b) c.args.frame.now) c.new.ensures
    ∙ classes-bounds c.args.t (record { short = omega arith; medium = omega arith; long = omega arith; noise = omega arith }) c.args.frame.now
    (λ j. (c.shared_slice_known-1.given j).fits))
